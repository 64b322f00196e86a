-- `any_twin`: the loop keeps that the entry has a twin from `from` on exactly if it has one from i on. Assumes nothing.
use Rattle.std.proofs.Common.{refl, sym, ap, ◌∙◌, arith}
use Rattle.model.specs.Memory.{no_message}
use Rattle.model.specs.Lawful.{twin}
use Rattle.table_messages.specs.Words.{messages, messages-count}
use Rattle.table_mailboxes.specs.Walks.{any_found, any_on, any_over}
use Rattle.lawful_messages.proofs.any_twin.Goals as goal

pub loop-i-init : goal.loop-i-init
loop-i-init c = refl

pub returns-then-are_twins : goal.returns-then-are_twins
returns-then-are_twins c =
    let many = messages-count c.args.words.now in
    sym (c.loop-i.invariant ∙ any_found (twin c.args.d.now) (messages c.args.words.now) c.loop-i.i no_message (omega arith) (ap (twin c.args.d.now) (sym c.get.ensures) ∙ sym c.are_twins.ensures ∙ c.if-are_twins.true))

pub loop-i-preserved : goal.loop-i-preserved
loop-i-preserved c =
    let many = messages-count c.args.words.now in
    c.loop-i.invariant ∙ any_on (twin c.args.d.now) (messages c.args.words.now) c.loop-i.i no_message (omega arith) (ap (twin c.args.d.now) (sym c.get.ensures) ∙ sym c.are_twins.ensures ∙ c.if-are_twins.false)

pub returns : goal.returns
returns c =
    let many = messages-count c.args.words.now in
    sym (c.loop-i.invariant ∙ any_over (twin c.args.d.now) (messages c.args.words.now) c.loop-i.i (omega arith))
