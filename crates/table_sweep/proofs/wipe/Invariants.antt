-- `wipe`: the loop keeps that the places up to j are nothing, and that all others are as they were. Assumes nothing.
use Rattle.table_sweep.specs.Swept.{Wiping}
use Rattle.table_sweep.proofs.wipe.Given as goal

abbrev pub invariant-loop-j : goal.invariant-loop-j
invariant-loop-j l = Wiping l.initial.words l.from l.words l.j
