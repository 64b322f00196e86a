-- `mark_range`: the loop keeps that the marks with the names to come are the marks of the range. Assumes nothing.
use Rattle.std.proofs.Common.{arith, sym, ap, ◌∙◌, Bool, ◌+◌, ◌||◌, drop, get_or, false}
use Rattle.model.specs.Iterating.{anyb_is_any}
use Rattle.model.specs.Lists.{anyb}
use Rattle.model.specs.Names.{Name}
use Rattle.table_mailboxes.specs.Columns.{name_at}
use Rattle.table_mailboxes.specs.Walks.{head_at, any_over}
use Rattle.match_groups.specs.Asking.{any_names}
use Rattle.match_rows.specs.Marks.{vacant_name, taken_by_name, left_next, left_past}
use Rattle.match_rows.proofs.marking.mark_range.Invariants.{taken}
use Rattle.match_rows.proofs.marking.mark_range.Goals as goal

pub loop-x-preserved : goal.loop-x-preserved
loop-x-preserved c =
    let p = taken c.args.deep c.args.cols.now.attributes c.args.cols.now.lens c.args.cols.now.names in
    let l = c.range_names-x-items.result.now in
    λ k h. left_next (get_or c.loop-x.marks k false) (p k (get_or l c.loop-x.x-index vacant_name)) (anyb (p k) (drop (c.loop-x.x-index + 1) l)) (c.loop-x.invariant k h)
    (ap (anyb (p k)) (head_at l c.loop-x.x-index vacant_name (omega arith)))
    (c.mark_top.ensures k h
    ∙ ap (λ (t : Name). get_or c.loop-x.marks k false || taken_by_name c.args.deep (name_at c.args.cols.now.lens c.args.cols.now.names k) (get_or c.args.cols.now.attributes k 0) t) c.kept_name.ensures)

pub returns : goal.returns
returns c =
    let p = taken c.args.deep c.args.cols.now.attributes c.args.cols.now.lens c.args.cols.now.names in
    λ k h. left_past (get_or c.loop-x.marks k false) (c.loop-x.invariant k h) (any_over (p k) c.range_names-x-items.result.now c.loop-x.x-index (omega arith))
    ∙ ap (λ (b : Bool). get_or c.args.marks.now k false || b)
    (ap (anyb (p k)) c.range_names-x-items.ensures
    ∙ (sym (anyb_is_any (p k) _) ∙ any_names c.args.s.now c.args.range (taken_by_name c.args.deep (name_at c.args.cols.now.lens c.args.cols.now.names k) (get_or c.args.cols.now.attributes k 0))))
