-- `mark_top`: the loop keeps that the rows before k are marked by the test and the others as they were. Assumes nothing.
use Rattle.std.proofs.Common.{ℕ, get_or}
use Rattle.table_mailboxes.specs.Columns.{name_at}
use Rattle.match_rows.specs.Marks.{taken_by_name, Marking}
use Rattle.match_rows.proofs.marking.mark_top.Given as goal

abbrev pub invariant-loop-k : goal.invariant-loop-k
invariant-loop-k l = Marking l.k (λ (j : ℕ). taken_by_name l.deep (name_at l.cols.lens l.cols.names j) (get_or l.cols.attributes j 0) l.top) l.initial.marks l.marks
