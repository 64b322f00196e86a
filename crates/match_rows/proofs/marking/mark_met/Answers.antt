-- `mark_met`: those of a subtree are selectable, all or none. Assumes nothing.
use Rattle.std.proofs.Common.{sym, ap, ◌∙◌, Bool, ◌||◌, get_or, false}
use Rattle.model.specs.Groups.{names_in, meets}
use Rattle.table_mailboxes.specs.Columns.{name_at}
use Rattle.match_rows.specs.Marks.{taken_deep}
use Rattle.match_rows.proofs.marking.mark_met.Goals as goal

pub returns-in-Subtree : goal.returns-in-Subtree
returns-in-Subtree c =
    λ k h. c.mark_range.ensures k h
    ∙ ap (λ (b : Bool). get_or c.args.marks.now k false || b)
    (taken_deep (get_or c.args.cols.now.attributes k 0) (name_at c.args.cols.now.lens c.args.cols.now.names k) (names_in c.args.s.now c.in-Subtree.range)
    ∙ sym (ap (meets c.args.s.now (name_at c.args.cols.now.lens c.args.cols.now.names k) (get_or c.args.cols.now.attributes k 0)) c.in-Subtree.is))
