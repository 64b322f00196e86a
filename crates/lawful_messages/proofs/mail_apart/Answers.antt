-- `mail_apart`: the loop keeps that no two of all entries are twins exactly if none is from i on. Assumes nothing.
use Rattle.std.proofs.Common.{refl, sym, ap, ◌∙◌, arith, drop, ◌+◌}
use Rattle.model.specs.Lists.{anyb}
use Rattle.model.specs.Memory.{no_message}
use Rattle.model.specs.Lawful.{twin}
use Rattle.model.specs.declared.Message.{Message}
use Rattle.table_messages.specs.Words.{messages, messages-count}
use Rattle.table_mailboxes.specs.Walks.{apart_broken, apart_on, apart_over}
use Rattle.lawful_messages.proofs.mail_apart.Goals as goal

pub loop-i-init : goal.loop-i-init
loop-i-init c = refl

pub any_twin-requires : goal.any_twin-requires
any_twin-requires c = let many = messages-count c.args.words.now in omega arith

pub returns-then-any_twin : goal.returns-then-any_twin
returns-then-any_twin c =
    let many = messages-count c.args.words.now in
    let all = messages c.args.words.now in
    let same = ap (λ (d : Message). anyb (twin d) (drop (c.loop-i.i + 1) all)) (sym c.get.ensures) in
    sym (c.loop-i.invariant ∙ apart_broken twin all c.loop-i.i no_message (omega arith) (same ∙ sym c.any_twin.ensures ∙ c.if-any_twin.true))

pub loop-i-preserved : goal.loop-i-preserved
loop-i-preserved c =
    let many = messages-count c.args.words.now in
    let all = messages c.args.words.now in
    let same = ap (λ (d : Message). anyb (twin d) (drop (c.loop-i.i + 1) all)) (sym c.get.ensures) in
    c.loop-i.invariant ∙ apart_on twin all c.loop-i.i no_message (omega arith) (same ∙ sym c.any_twin.ensures ∙ c.if-any_twin.false)

pub returns : goal.returns
returns c =
    let many = messages-count c.args.words.now in
    sym (c.loop-i.invariant ∙ apart_over twin (messages c.args.words.now) c.loop-i.i (omega arith))
