-- `compact`: the loop keeps that those of the first i entries that stay lie in the first o places, and that o is at most i. Assumes nothing.
use Rattle.table_sweep.specs.Swept.{Passing}
use Rattle.table_sweep.proofs.compact.Given as goal

abbrev pub invariant-loop-i : goal.invariant-loop-i
invariant-loop-i l = Passing l.sweep l.initial.words l.words l.i l.o
