-- `key_at` and `keys_at`: each case is one of the grammar, by its law in KeyLaws. They end: the measure is twice the octets that are left, and keys are one step above the key that they begin with. Assumes nothing.
use lib.ListN.{length}
use Prim.Native.Nat.{◌+◌, ◌-◌, ◌*◌}
use Rattle.read_keys.proofs.+key_at_keys_at.Given as goal

abbrev pub decreases-key_at : goal.decreases-key_at
decreases-key_at l = 2 * (length l.text.now - l.at)

abbrev pub decreases-keys_at : goal.decreases-keys_at
decreases-keys_at l = 2 * (length l.text.now - l.at) + 1
