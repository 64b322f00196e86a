-- `end_command`: the lines along the view, then one pass that frees what was told; the session by what was announced. Assumes nothing.
use native.Mathlib.Omega.{arith}
use Rattle.std.proofs.Common.{◌≡◌, ◌*◌, ◌∙◌, ap, sym, take, rules, tests, true, false, length-take-le}
use Rattle.model.specs.Memory.{messages_of}
use Rattle.table_messages.specs.Words.{messages, messages-take, messages-used}
use Rattle.table_messages.specs.Laid.{laid_own}
use Rattle.order_messages.specs.Chosen.{chosen-take}
use Rattle.order_messages.specs.Counts.{order_short}
use Rattle.event_session.specs.Ending.{leaves_none, leaves_some}
use Rattle.event_session.proofs.end_command.Goals as goal

pub returns-then-not-rights : goal.returns-then-not-rights
returns-then-not-rights c =
    let r : c.args.rights ≡ false = search (rules, tests) in
    rw r (leaves_none (messages c.args.words.now) c.args.used c.args.queue.now c.args.s.now c.args.filled c.args.class c.args.next c.args.words.now (laid_own c.args.words.now))

pub by_uid-n-requires : goal.by_uid-n-requires
by_uid-n-requires c = let w = messages-used c.args.used c.args.words.now (omega arith) in omega arith

pub slice_bounds-speak-end : goal.slice_bounds-speak-end
slice_bounds-speak-end c =
    let w = messages-used c.args.used c.args.words.now (omega arith) in
    let mails = messages (take (6 * c.args.used) c.args.words.now) in
    let n = order_short mails mails _ c.by_uid-n.result c.from-id.result c.by_uid-n.ensures in
    omega arith

pub slice_bounds-speak-end-2 : goal.slice_bounds-speak-end-2
slice_bounds-speak-end-2 c =
    let w = messages-used c.args.used c.args.words.now (omega arith) in
    let mails = messages (take (6 * c.args.used) c.args.words.now) in
    let n = order_short mails mails _ c.by_uid-n.result c.from-id.result c.by_uid-n.ensures in
    sym (length-take-le c.by_uid-n.result c.by_uid-n.new.order (omega arith))

pub speak-t-requires : goal.speak-t-requires
speak-t-requires c =
    let w = messages-used c.args.used c.args.words.now (omega arith) in
    let mails = messages (take (6 * c.args.used) c.args.words.now) in
    let n = order_short mails mails _ c.by_uid-n.result c.from-id.result c.by_uid-n.ensures in
    let l = length-take-le c.by_uid-n.result c.by_uid-n.new.order (omega arith) in
    (omega arith, omega arith, omega arith, omega arith, omega arith)

pub returns : goal.returns
returns c =
    let w = messages-used c.args.used c.args.words.now (omega arith) in
    let mails = messages (take (6 * c.args.used) c.args.words.now) in
    let n = order_short mails mails _ c.by_uid-n.result c.from-id.result c.by_uid-n.ensures in
    let cut = chosen-take mails c.by_uid-n.new.order c.by_uid-n.result (omega arith) in
    let e : c.from-id.result ≡ c.args.s.now.selected = c.from-id.ensures in
    let u : c.from.result ≡ c.args.s.now.told = c.from.ensures in
    let r : c.args.rights ≡ true = search (rules, tests) in
    rw r
    (leaves_some (messages c.args.words.now) c.args.used c.args.queue.now c.args.s.now c.args.filled c.args.class c.args.next _
    ((rw e at c.by_uid-n.ensures) ∙ ap (messages_of c.args.s.now.selected) (messages-take c.args.used c.args.words.now))
    _ c.speak-t.result (rw (u, cut) at c.speak-t.ensures) c.args.words.now _ c.settle-left.result (rw e at c.settle-left.ensures) c.announced.result c.announced.ensures)
