-- `mark_asked`: the loop keeps that the marks with the groups to come are the marks of all groups. Assumes nothing.
use Rattle.std.proofs.Common.{arith, sym, ap, ◌∙◌, Bool, ◌+◌, ◌||◌, drop, get_or, false}
use Rattle.model.specs.Iterating.{anyb_is_any}
use Rattle.model.specs.Lawful.{used_groups}
use Rattle.model.specs.Lists.{anyb}
use Rattle.model.specs.declared.Group.{Group}
use Rattle.table_mailboxes.specs.Walks.{head_at, any_over}
use Rattle.match_groups.specs.Asking.{any_groups}
use Rattle.match_rows.specs.Marks.{vacant_group, left_next, left_past}
use Rattle.match_rows.proofs.marking.mark_asked.Invariants.{asking, asks}
use Rattle.match_rows.proofs.marking.mark_asked.Goals as goal

pub loop-g-preserved : goal.loop-g-preserved
loop-g-preserved c =
    let ask = asking c.args.s.now c.args.messages c.args.cols.now.attributes c.args.cols.now.lens c.args.cols.now.names in
    let p = asks c.args.s.now c.args.messages c.args.cols.now.attributes c.args.cols.now.lens c.args.cols.now.names in
    let l = c.groups-g-items.result.now in
    λ k h. left_next (get_or c.loop-g.marks k false) (p k (get_or l c.loop-g.g-index vacant_group)) (anyb (p k) (drop (c.loop-g.g-index + 1) l)) (c.loop-g.invariant k h)
    (ap (anyb (p k)) (head_at l c.loop-g.g-index vacant_group (omega arith)))
    (c.mark_group.ensures k h ∙ ap (λ (g : Group). get_or c.loop-g.marks k false || ask k g) c.group_of.ensures)

pub returns : goal.returns
returns c =
    let ask = asking c.args.s.now c.args.messages c.args.cols.now.attributes c.args.cols.now.lens c.args.cols.now.names in
    let p = asks c.args.s.now c.args.messages c.args.cols.now.attributes c.args.cols.now.lens c.args.cols.now.names in
    λ k h. left_past (get_or c.loop-g.marks k false) (c.loop-g.invariant k h) (any_over (p k) c.groups-g-items.result.now c.loop-g.g-index (omega arith))
    ∙ ap (λ (b : Bool). get_or c.args.marks.now k false || b)
    (ap (anyb (p k)) c.groups-g-items.ensures.0 ∙ (sym (anyb_is_any (p k) (used_groups c.args.s.now)) ∙ any_groups c.args.s.now (ask k)))
