-- `groups_ok`: the loop keeps how many names the groups before g have, which is where the names of g must begin. Assumes nothing.
use mathlib.Core.Path.{◌≡◌}
use Prim.Native.Nat.{◌≤◌, ◌*◌}
use lib.ListN.{drop}
use Rattle.model.specs.Lawful.{groups_ok}
use Rattle.lawful_session.proofs.groups_ok.Given as goal

abbrev pub invariant-loop-g : goal.invariant-loop-g
invariant-loop-g l = (l.first ≤ l.g-index * 255) × (groups_ok 0 l.groups ≡ groups_ok l.first (drop l.g-index l.groups))
