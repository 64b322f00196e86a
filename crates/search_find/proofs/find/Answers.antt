-- `find`: the loop keeps that the UIDs of those that match above place k are put, rising. Assumes nothing.
use Rattle.std.proofs.Common.{length, refl, true, false, ap, sym, ◌∙◌, arith}
use Rattle.search_find.specs.Laws.{find_none, sought_start, sought_next, sought_end, pushed_on, pushed_off}
use Rattle.table_messages.specs.Words.{messages}
use Rattle.model.specs.declared.Message.{Message}
use Rattle.search_find.proofs.find.Goals as goal

pub returns-then-n-eq0 : goal.returns-then-n-eq0
returns-then-n-eq0 c = find_none (messages c.args.words.now) c.args.order.now (length c.args.order.now) c.args.cells.now c.if-n-eq0.true c.args.uids.now

pub loop-k-init : goal.loop-k-init
loop-k-init c = sought_start (messages c.args.words.now) c.args.order.now (length c.args.order.now) c.args.cells.now c.entry.result.uid c.args.uids.now

pub loop-k-preserved-then-is_hit : goal.loop-k-preserved-then-is_hit
loop-k-preserved-then-is_hit c =
    let few = c.loop-k.invariant.few in
    sought_next (messages c.args.words.now) c.args.order.now (length c.args.order.now) c.args.cells.now c.entry.result.uid c.args.uids.now c.loop-k.uids c.loop-k.k c.loop-k.r c.loop-k.invariant c.loop-k-test.true c.entry-message.result c.entry-message.ensures true
    (λ ks h. sym c.if-is_hit.true ∙ c.is_hit.ensures ks h) (omega arith) _ _ (pushed_on c.loop-k.uids c.loop-k.r c.entry-message.result.uid.0 true refl)

pub loop-k-preserved : goal.loop-k-preserved
loop-k-preserved c =
    let few = c.loop-k.invariant.few in
    sought_next (messages c.args.words.now) c.args.order.now (length c.args.order.now) c.args.cells.now c.entry.result.uid c.args.uids.now c.loop-k.uids c.loop-k.k c.loop-k.r c.loop-k.invariant c.loop-k-test.true c.entry-message.result c.entry-message.ensures false
    (λ ks h. sym c.if-is_hit.false ∙ c.is_hit.ensures ks h) (omega arith) _ _ (pushed_off c.loop-k.uids c.loop-k.r c.entry-message.result.uid.0 false refl)

pub returns : goal.returns
returns c =
    sought_end (messages c.args.words.now) c.args.order.now (length c.args.order.now) c.args.cells.now c.entry.result.uid c.args.uids.now c.loop-k.uids c.loop-k.k c.loop-k.r c.loop-k.invariant (omega arith) c.if-n-eq0.false (ap (λ (e : Message). e.uid) c.entry.ensures)
