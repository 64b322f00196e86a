-- Each turn counts one up, to a bound.
use Prim.Native.Nat.{◌≤◌, ◌-◌}
use Rattle.run_lawful.proofs.main.Given as goal

abbrev pub invariant-loop-cases : goal.invariant-loop-cases
invariant-loop-cases l = (l.cases ≤ 100000) × (l.yes ≤ l.cases)

abbrev pub decreases-loop-cases : goal.decreases-loop-cases
decreases-loop-cases l = 100000 - l.cases
