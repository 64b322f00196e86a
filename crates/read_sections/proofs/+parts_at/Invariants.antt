-- `parts_at`: each case is one of a row of numbers. It ends: the measure is the octets that are left. Assumes nothing.
use Prim.Native.Nat.{◌-◌}
use lib.ListN.{length}
use Rattle.read_sections.proofs.+parts_at.Given as goal

abbrev pub decreases-parts_at : goal.decreases-parts_at
decreases-parts_at l = length l.text.now - l.at
