-- As many as are not zero so far; none, and all of them are.
use mathlib.Core.Path.{◌≡◌}
use mathlib.Core.Bool.{◌&&◌}
use Prim.Native.Nat.{◌≤◌}
use lib.Dec.{eqb}
use lib.ListN.{drop}
use Rattle.model.specs.Lawful.{zeros}
use Rattle.lawful_session.proofs.filled.Given as goal

abbrev pub invariant-loop-b : goal.invariant-loop-b
invariant-loop-b l = (l.sum ≤ l.b-index) × (zeros l.octets ≡ (eqb l.sum 0 && zeros (drop l.b-index l.octets)))
