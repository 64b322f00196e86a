-- `grant`: the rights of a mailbox change, or it is not known. Assumes nothing.
use Rattle.std.proofs.Common.{Ok}
use mathlib.Core.Path.{ap}
use Rattle.model.specs.Memory.{boxes}
use Rattle.record_outcome.specs.declared.Outcome.{Outcome}
use Rattle.record_outcome.specs.Laws.{none_refused}
use Rattle.record_mailbox.specs.Rights.{grant_unknown, grant_comes}
use Rattle.record_mailbox.proofs.rights.grant.Goals as goal

pub returns-in_err-place : goal.returns-in_err-place
returns-in_err-place c = λ m ws lent law w n p d e. grant_unknown m ws c.args.counts c.args.s.now c.args.queue.now lent law c.args.id w c.args.rights _ c.in_err-place.ensures.ok_part
    (none_refused _ c.in_err-place.ensures.ok_part c.in_err-place.ensures.value c.from_residual.ensures.1)

pub returns : goal.returns
returns c =
    λ m ws lent law w n p d e. grant_comes m ws c.args.counts c.args.s.now c.args.queue.now lent law c.args.id w c.args.rights _ c.in_ok-place.place c.parent-y.result
    (c.parent-y.ensures (boxes m) n p d e) c.in_ok-place.ensures.ok_part c.grant-done.ensures (ap (λ (j : Outcome). Ok j) c.put.ensures)
