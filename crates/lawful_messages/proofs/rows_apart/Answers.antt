-- No two rows clash: the fold of all is the fold from row j on.
use Rattle.std.proofs.Common.{refl, sym, ◌∙◌, arith}
use Rattle.model.specs.Memory.{no_mailbox}
use Rattle.model.specs.Lawful.{clash}
use Rattle.table_mailboxes.specs.Walks.{apart_broken, apart_on, apart_over}
use Rattle.lawful_messages.proofs.rows_apart.Goals as goal

pub loop-j-init : goal.loop-j-init
loop-j-init c = λ l h w. refl

pub returns-then-any_clash : goal.returns-then-any_clash
returns-then-any_clash c =
    λ l h w. sym (c.loop-j.invariant l h w ∙ apart_broken clash l c.loop-j.j no_mailbox (omega arith) (sym (c.any_clash.ensures l h w) ∙ c.if-any_clash.true))

pub loop-j-preserved : goal.loop-j-preserved
loop-j-preserved c =
    λ l h w. c.loop-j.invariant l h w ∙ apart_on clash l c.loop-j.j no_mailbox (omega arith) (sym (c.any_clash.ensures l h w) ∙ c.if-any_clash.false)

pub returns : goal.returns
returns c = λ l h w. sym (c.loop-j.invariant l h w ∙ apart_over clash l c.loop-j.j (omega arith))
