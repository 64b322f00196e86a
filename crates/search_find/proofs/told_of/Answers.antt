-- `told_of`: the loop keeps that the places before it are those of the view. Assumes nothing.
use Rattle.std.proofs.Common.{length, get_or, refl, true, false, sym, ◌<◌, ◌≤◌, lt-ltb, le-ltb, arith, rules, tests}
use Rattle.search_find.specs.Laws.{keeping_start, keeping_next, keeping_end, pushed_on, pushed_off}
use Rattle.table_messages.specs.Words.{messages}
use Rattle.search_find.proofs.told_of.Goals as goal
use Rattle.search_find.proofs.told_of.Goals.{then-lt, else-lt}

pub loop-place-init : goal.loop-place-init
loop-place-init c = keeping_start (messages c.args.words.now) c.args.order.now (length c.args.order.now) c.args.told.0 c.args.view.now

pub loop-place-preserved : goal.loop-place-preserved
loop-place-preserved c =
    let low = c.loop-place.invariant.few in
    let place = get_or c.args.order.now c.loop-place.place-index 0 in
    let next = keeping_next (messages c.args.words.now) c.args.order.now (length c.args.order.now) c.args.told.0 c.args.view.now c.loop-place.view c.loop-place.place-index c.loop-place.r c.loop-place.invariant (omega arith) c.entry.result c.entry.ensures in
    elim c.if-lt.branch [
      | then-lt w ↦ rw (w.view-is, w.r-is) (next true (let h : c.entry.result.uid.0 < c.args.told.0 = search (rules, tests) in sym (lt-ltb _ _ h)) (omega arith) _ _ (pushed_on c.loop-place.view c.loop-place.r place true refl))
      | else-lt w ↦ rw (w.view-is, w.r-is) (next false (let h : c.args.told.0 ≤ c.entry.result.uid.0 = search (rules, tests) in sym (le-ltb _ _ h)) (omega arith) _ _ (pushed_off c.loop-place.view c.loop-place.r place false refl))
    ]

pub returns : goal.returns
returns c = keeping_end (messages c.args.words.now) c.args.order.now (length c.args.order.now) c.args.told.0 c.args.view.now c.loop-place.view c.loop-place.place-index c.loop-place.r c.loop-place.invariant (omega arith)
