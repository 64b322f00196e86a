-- `delete`: a mailbox is no more, or is not known, or is selected. Assumes nothing.
use mathlib.Core.Path.{refl, sym, ◌∙◌}
use Rattle.model.specs.Memory.{boxes}
use Rattle.record_outcome.specs.Laws.{none_refused}
use Rattle.record_mailbox.specs.Deleting.{delete_unknown, delete-selected, delete_comes}
use Rattle.record_mailbox.proofs.deleting.delete.Goals as goal

pub returns-in_err-place : goal.returns-in_err-place
returns-in_err-place c = λ m lent law w n p d e. delete_unknown m c.args.words.now c.args.counts c.args.s.now c.args.queue.now lent law c.args.id c.args.quiet _ w c.in_err-place.ensures.ok_part
    (none_refused _ c.in_err-place.ensures.ok_part c.in_err-place.ensures.value c.from_residual.ensures.1)

pub returns-then-is_selected : goal.returns-then-is_selected
returns-then-is_selected c = λ m lent law w n p d e. delete-selected m c.args.words.now c.args.counts c.args.s.now c.args.queue.now lent law c.args.id c.args.quiet _ w c.in_ok-place.place c.in_ok-place.ensures.ok_part
    (sym c.is_selected.ensures ∙ c.if-is_selected.true) refl

pub returns : goal.returns
returns c =
    λ m lent law w n p d e.
    delete_comes m c.args.words.now c.args.counts c.args.s.now c.args.queue.now lent law c.args.id c.args.quiet _ w c.in_ok-place.place c.parent-y.result c.take_out.result
    (c.parent-y.ensures (boxes m) n p d e) c.in_ok-place.ensures.ok_part (sym c.is_selected.ensures ∙ c.if-is_selected.false) c.take_out.ensures refl
