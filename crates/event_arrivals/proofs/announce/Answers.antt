-- `announce`: the mailbox's entries by UID, and all lines of what is new among them. Assumes nothing.
use Rattle.std.proofs.Common.{arith, sym, ap, ◌∙◌, length-take-le}
use Rattle.table_messages.specs.Words.{messages}
use Rattle.line_message.specs.Whole.{news_text}
use Rattle.order_messages.specs.Chosen.{chosen-take}
use Rattle.order_messages.specs.Counts.{order_short}
use Rattle.event_message.specs.After.{announces}
use Rattle.event_message.specs.Shown.{shows_of}
use Rattle.event_arrivals.proofs.announce.Goals as goal

pub slice_bounds-order-end : goal.slice_bounds-order-end
slice_bounds-order-end c =
    let n = order_short (messages c.args.words.now) (messages c.args.words.now) c.by_uid-n.new.order c.by_uid-n.result c.from.result c.by_uid-n.ensures in
    omega arith

pub slice_bounds-line-end : goal.slice_bounds-line-end
slice_bounds-line-end c =
    let n = order_short (messages c.args.words.now) (messages c.args.words.now) c.by_uid-n.new.order c.by_uid-n.result c.from.result c.by_uid-n.ensures in
    sym (length-take-le c.by_uid-n.result c.by_uid-n.new.order (omega arith))

pub returns : goal.returns
returns c =
    let n = order_short (messages c.args.words.now) (messages c.args.words.now) c.by_uid-n.new.order c.by_uid-n.result c.from.result c.by_uid-n.ensures in
    let listed = chosen-take (messages c.args.words.now) c.by_uid-n.new.order c.by_uid-n.result (omega arith) ∙ (rw c.from.ensures at c.by_uid-n.ensures) in
    announces c.args.queue.now c.args.s.now c.args.filled c.args.next _ _ _ c.say-said.result.fits c.say-said.result.end _
    (rw (c.from-2.ensures, c.shows.ensures) (ap (news_text c.args.s.now.told (shows_of c.args.s.now)) listed)) c.say-said.ensures c.announced.ensures
