-- `record_read::fields_at` meets its contract: what all fields say is what the fields passed say, and the rest. Assumes nothing.
use Rattle.std.specs.Prelude.{true}
use Rattle.record_read.proofs.Turns.{Passed}
use Rattle.record_read.proofs.bodies.fields_at.Given as goal

abbrev pub invariant-loop-i : goal.invariant-loop-i
invariant-loop-i l = Passed l.o l.fields true l.values l.end l.i
