-- `tell_status`: the messages are counted where somebody is told, and nothing of the line is said otherwise. Assumes nothing.
use Rattle.std.proofs.Common.{rules, tests, ◌≡◌, true, length}
use Rattle.model.specs.Memory.{existing}
use Rattle.table_messages.specs.Words.{messages}
use Rattle.event_message.specs.After.{hears_told}
use Rattle.event_message.proofs.tell_status.Goals as goal
use Rattle.event_message.proofs.tell_status.Goals.{then-on, else-on}

pub returns : goal.returns
returns c =
    let counted : c.args.on ≡ true → c.if-on.messages ≡ length (existing c.args.x.now.id (messages c.args.words.now)) = elim c.if-on.branch [
      | then-on w ↦ λ h. search (rules, tests)
      | else-on w ↦ λ h. search (rules, tests)
    ] in
    hears_told c.args.queue.now c.args.s.now c.args.filled c.args.on _ _ (λ h. rw (counted h, c.name.ensures.name, c.from-2.ensures, c.counter_of.ensures)) c.tell.ensures
