-- `owed_size`: writing at 0 with the limit 0 leaves the queue and ends at the text's length, and that text is what is owed; without both rights nothing is. Assumes nothing.
use Rattle.std.proofs.Common.{rules, ◌*◌, ◌∙◌, sym, refl, ap, arith, take, length-take-le}
use Rattle.model.specs.Memory.{messages_of}
use Rattle.table_messages.specs.Words.{messages, messages-take, messages-used}
use Rattle.order_messages.specs.Chosen.{chosen-take}
use Rattle.order_messages.specs.Counts.{order_short}
use Rattle.record_set.specs.Owing.{owed_none, owed_measured}
use Rattle.record_set.proofs.owed_size.Goals as goal

pub returns-then-not-rights : goal.returns-then-not-rights
returns-then-not-rights c = (
  λ m lent law e. owed_none m c.args.words.now c.args.counts c.args.s.now c.args.queue.now lent law (sym e ∙ c.if-not-rights.true),
  omega arith,
  refl,
)

pub by_uid-n-requires : goal.by_uid-n-requires
by_uid-n-requires c = let n = messages-used c.args.counts.messages c.args.words.now c.requires.1 in omega arith

pub slice_bounds-order-end : goal.slice_bounds-order-end
slice_bounds-order-end c =
    let e = messages-used c.args.counts.messages c.args.words.now c.requires.1 in
    let n = order_short (messages (take (6 * c.args.counts.messages) c.args.words.now)) (messages (take (6 * c.args.counts.messages) c.args.words.now)) c.by_uid-n.new.order c.by_uid-n.result c.from.result c.by_uid-n.ensures in omega arith

pub slice_bounds-put_owed-end : goal.slice_bounds-put_owed-end
slice_bounds-put_owed-end c =
    let e = messages-used c.args.counts.messages c.args.words.now c.requires.1 in
    let n = order_short (messages (take (6 * c.args.counts.messages) c.args.words.now)) (messages (take (6 * c.args.counts.messages) c.args.words.now)) c.by_uid-n.new.order c.by_uid-n.result c.from.result c.by_uid-n.ensures in
    sym (length-take-le c.by_uid-n.result c.by_uid-n.new.order (omega arith))

pub returns : goal.returns
returns c =
    let ws = c.args.words.now in
    let k = c.args.counts.messages in
    let e = messages-used k ws c.requires.1 in
    let n = order_short (messages (take (6 * c.args.counts.messages) c.args.words.now)) (messages (take (6 * c.args.counts.messages) c.args.words.now)) c.by_uid-n.new.order c.by_uid-n.result c.from.result c.by_uid-n.ensures in
    let all = chosen-take (messages (take (6 * k) ws)) c.by_uid-n.new.order c.by_uid-n.result (omega arith) ∙ rw c.from.ensures at c.by_uid-n.ensures ∙ ap (messages_of c.args.s.now.selected) (messages-take k ws) in (
      λ m lent law e. owed_measured m ws c.args.counts c.args.s.now c.args.queue.now lent law (sym e ∙ c.if-not-rights.false) all (rw c.from-2.ensures at c.put_owed.ensures.put.put),
      omega arith,
      (let q = c.put_owed.ensures.put.put.kept (omega arith) in search (rules, q)),
    )
