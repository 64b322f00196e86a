-- `key_at`, `keys_hold`: keys and lists of keys call each other on ever fewer cells; the loop keeps what the keys from i on still have to decide. Assumes nothing.
use Prim.Native.Nat.{◌≤◌, ◌+◌, ◌-◌, ◌*◌}
use Rattle.match_keys.specs.Laws.{Going}
use Rattle.match_keys.proofs.+key_at_keys_hold.Given as goal

abbrev pub decreases-key_at : goal.decreases-key_at
decreases-key_at l = 2 * (l.stop - l.at)

abbrev pub decreases-keys_hold : goal.decreases-keys_hold
decreases-keys_hold l = 2 * (l.stop - l.at) + 1

abbrev pub invariant-keys_hold-loop-i : goal.invariant-keys_hold-loop-i
invariant-keys_hold-loop-i l = (l.at ≤ l.i) × Going l.cells l.at l.stop l.any l.facts l.i l.some l.on

abbrev pub decreases-keys_hold-loop-i : goal.decreases-keys_hold-loop-i
decreases-keys_hold-loop-i l = l.stop - l.i
