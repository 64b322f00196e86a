-- A row of sources is read up to its parenthesis. The measure is the octets that are left. Assumes nothing.
use Prim.Native.Nat.{◌-◌}
use lib.ListN.{length}
use Rattle.read_search.proofs.counts.+sources_row.Given as goal

abbrev pub decreases-sources_row : goal.decreases-sources_row
decreases-sources_row l = length l.text.now - l.at
