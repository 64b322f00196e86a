-- `note_rows`: the marks say of each row what the groups ask; the loop keeps that every row before k is noted. Assumes nothing.
use Rattle.std.proofs.Common.{ℕ, ◌<◌, get_or}
use Rattle.table_mailboxes.specs.Columns.{name_at}
use Rattle.match_rows.specs.Notes.{Notes}
use Rattle.match_rows.proofs.note_rows.Given as goal

abbrev pub invariant-loop-k : goal.invariant-loop-k
invariant-loop-k l = (j : ℕ) → j < l.k → Notes l.s l.wanted (get_or l.cols.ids j 0) (get_or l.cols.attributes j 0) (name_at l.cols.lens l.cols.names j) (get_or l.picked j 0) (get_or l.asks j 0)
