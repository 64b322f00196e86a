-- `rename`: a mailbox gets another name, or is not known, or another has the name. Assumes nothing.
use Rattle.std.proofs.Common.{Ok}
use mathlib.Core.Path.{refl, ap, sym, ◌∙◌}
use Rattle.model.specs.Memory.{boxes}
use Rattle.record_outcome.specs.declared.Outcome.{Outcome}
use Rattle.record_outcome.specs.Laws.{none_refused}
use Rattle.record_mailbox.specs.Renaming.{rename_unknown, rename_held, rename_comes}
use Rattle.record_mailbox.proofs.renaming.rename.Goals as goal

pub returns-in_err-place : goal.returns-in_err-place
returns-in_err-place c = λ m ws lent law w n p d e v. rename_unknown m ws c.args.counts c.args.s.now c.args.queue.now lent law c.args.id w c.args.quiet c.args.name.now _ c.in_err-place.ensures.ok_part
    (none_refused _ c.in_err-place.ensures.ok_part c.in_err-place.ensures.value c.from_residual.ensures.1)

pub returns-then-is_taken : goal.returns-then-is_taken
returns-then-is_taken c = λ m ws lent law w n p d e v. rename_held m ws c.args.counts c.args.s.now c.args.queue.now lent law c.args.id w c.args.quiet c.args.name.now _ c.in_ok-place.place c.in_ok-place.ensures.ok_part
    (sym (c.is_taken.ensures (boxes m) n p d e v) ∙ c.if-is_taken.true) refl

pub returns : goal.returns
returns c =
    λ m ws lent law w n p d e v. rename_comes m ws c.args.counts c.args.s.now c.args.queue.now lent law c.args.id w c.args.quiet c.args.name.now _ c.in_ok-place.place c.in_ok-place.ensures.ok_part
    (sym (c.is_taken.ensures (boxes m) n p d e v) ∙ c.if-is_taken.false) v c.rename-done.ensures (ap (λ (j : Outcome). Ok j) c.put.ensures)
