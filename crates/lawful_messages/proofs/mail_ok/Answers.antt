-- `mail_ok`: the loop keeps that all entries are in order exactly if those from i on are. Assumes nothing.
use Rattle.std.proofs.Common.{refl, sym, ap, ◌∙◌, arith}
use Rattle.model.specs.Memory.{no_message}
use Rattle.table_messages.specs.Words.{messages, messages-count}
use Rattle.table_mailboxes.specs.Walks.{all_broken, all_on, all_over}
use Rattle.lawful_quick.specs.Passing.{entry_ok}
use Rattle.lawful_messages.proofs.mail_ok.Goals as goal

pub loop-i-init : goal.loop-i-init
loop-i-init c = λ l h w v. refl

pub returns-then-not-entry_ok : goal.returns-then-not-entry_ok
returns-then-not-entry_ok c =
    λ l h w v.
    let many = messages-count c.args.words.now in
    let p = entry_ok l c.args.view.selected c.args.view.told.0 in
    sym (c.loop-i.invariant l h w v ∙ all_broken p (messages c.args.words.now) c.loop-i.i no_message (omega arith) (sym (c.entry_ok.ensures l h w v ∙ ap p c.get.ensures) ∙ c.if-not-entry_ok.true))

pub loop-i-preserved : goal.loop-i-preserved
loop-i-preserved c =
    λ l h w v.
    let many = messages-count c.args.words.now in
    let p = entry_ok l c.args.view.selected c.args.view.told.0 in
    c.loop-i.invariant l h w v ∙ all_on p (messages c.args.words.now) c.loop-i.i no_message (omega arith) (sym (c.entry_ok.ensures l h w v ∙ ap p c.get.ensures) ∙ c.if-not-entry_ok.false)

pub returns : goal.returns
returns c =
    λ l h w v.
    let many = messages-count c.args.words.now in
    sym (c.loop-i.invariant l h w v ∙ all_over (entry_ok l c.args.view.selected c.args.view.told.0) (messages c.args.words.now) c.loop-i.i (omega arith))
