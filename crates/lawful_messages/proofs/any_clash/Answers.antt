-- `any_clash`: the loop keeps that row j clashes with a row from `from` on exactly if it does with one from k on. Assumes nothing.
use Rattle.std.proofs.Common.{refl, sym, ◌∙◌, arith, get_or}
use Rattle.model.specs.Memory.{no_mailbox}
use Rattle.model.specs.Lawful.{clash}
use Rattle.table_mailboxes.specs.Walks.{any_found, any_on, any_over}
use Rattle.lawful_messages.specs.Clashing.{clash_at_lem}
use Rattle.lawful_messages.proofs.any_clash.Goals as goal

pub loop-k-init : goal.loop-k-init
loop-k-init c = λ l h w. refl

pub returns-then-do_clash : goal.returns-then-do_clash
returns-then-do_clash c =
    λ l h w.
    let at = clash_at_lem l c.args.cols.now.ids c.args.cols.now.lens c.args.cols.now.names w c.args.j c.loop-k.k (omega arith) (omega arith) in
    sym (c.loop-k.invariant l h w ∙ any_found (clash (get_or l c.args.j no_mailbox)) l c.loop-k.k no_mailbox (omega arith) (sym (c.do_clash.ensures ∙ at) ∙ c.if-do_clash.true))

pub loop-k-preserved : goal.loop-k-preserved
loop-k-preserved c =
    λ l h w.
    let at = clash_at_lem l c.args.cols.now.ids c.args.cols.now.lens c.args.cols.now.names w c.args.j c.loop-k.k (omega arith) (omega arith) in
    c.loop-k.invariant l h w ∙ any_on (clash (get_or l c.args.j no_mailbox)) l c.loop-k.k no_mailbox (omega arith) (sym (c.do_clash.ensures ∙ at) ∙ c.if-do_clash.false)

pub returns : goal.returns
returns c = λ l h w. sym (c.loop-k.invariant l h w ∙ any_over (clash (get_or l c.args.j no_mailbox)) l c.loop-k.k (omega arith))
