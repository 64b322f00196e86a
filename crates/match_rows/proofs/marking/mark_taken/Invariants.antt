-- `mark_taken`: the loop keeps that the rows before k are marked by the test and the others as they were. Assumes nothing.
use Rattle.std.proofs.Common.{ℕ, get_or}
use Rattle.match_rows.specs.Marks.{taken_by, Marking}
use Rattle.match_rows.proofs.marking.mark_taken.Given as goal

abbrev pub invariant-loop-k : goal.invariant-loop-k
invariant-loop-k l = Marking l.k (λ (j : ℕ). taken_by l.selector (get_or l.cols.attributes j 0)) l.initial.marks l.marks
