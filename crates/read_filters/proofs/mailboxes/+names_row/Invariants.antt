-- `names_row`: what it reads of a row is right for every fuel above the octets left, which fall at each call. Assumes nothing.
use Prim.Native.Nat.{◌-◌}
use lib.ListN.{length}
use Rattle.read_filters.proofs.mailboxes.+names_row.Given as goal

abbrev pub decreases-names_row : goal.decreases-names_row
decreases-names_row l = length l.text.now - l.at
