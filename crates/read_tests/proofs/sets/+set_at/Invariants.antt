-- `set_at`: a part, and behind a comma the rest of the set. It ends: the measure is the octets that are left. Assumes nothing.
use lib.ListN.{length}
use Prim.Native.Nat.{◌-◌}
use Rattle.read_tests.proofs.sets.+set_at.Given as goal

abbrev pub decreases-set_at : goal.decreases-set_at
decreases-set_at l = length l.text.now - l.at
