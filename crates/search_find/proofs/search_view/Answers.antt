-- `search_view`: the order by UID, cut to the view, and what matches along it. Assumes nothing.
use Rattle.std.proofs.Common.{arith, length-take-le, sym}
use Rattle.order_messages.specs.Counts.{order_short}
use Rattle.search_find.specs.Searched.{view-searched, found_cut, kept_cut}
use Rattle.table_messages.specs.Words.{messages}
use Rattle.search_find.proofs.search_view.Goals as goal

pub slice_bounds-told_of-end : goal.slice_bounds-told_of-end
slice_bounds-told_of-end c =
    let f = order_short (messages c.args.words.now) (messages c.args.words.now) _ c.by_uid-n.result c.args.id c.by_uid-n.ensures in
    omega arith

pub slice_bounds-told_of-end-2 : goal.slice_bounds-told_of-end-2
slice_bounds-told_of-end-2 c =
    let f = order_short (messages c.args.words.now) (messages c.args.words.now) _ c.by_uid-n.result c.args.id c.by_uid-n.ensures in
    sym (length-take-le c.by_uid-n.result c.by_uid-n.new.order (omega arith))

pub told_of-v-requires : goal.told_of-v-requires
told_of-v-requires c =
    let f = order_short (messages c.args.words.now) (messages c.args.words.now) _ c.by_uid-n.result c.args.id c.by_uid-n.ensures in
    let l = length-take-le c.by_uid-n.result c.by_uid-n.new.order (omega arith) in
    omega arith

pub slice_bounds-find-end : goal.slice_bounds-find-end
slice_bounds-find-end c =
    let f = order_short (messages c.args.words.now) (messages c.args.words.now) _ c.by_uid-n.result c.args.id c.by_uid-n.ensures in
    let l = length-take-le c.by_uid-n.result c.by_uid-n.new.order (omega arith) in
    let k = c.told_of-v.ensures.few in
    omega arith

pub slice_bounds-find-end-2 : goal.slice_bounds-find-end-2
slice_bounds-find-end-2 c =
    let f = order_short (messages c.args.words.now) (messages c.args.words.now) _ c.by_uid-n.result c.args.id c.by_uid-n.ensures in
    let l = length-take-le c.by_uid-n.result c.by_uid-n.new.order (omega arith) in
    let k = c.told_of-v.ensures.few in
    sym (length-take-le c.told_of-v.result c.told_of-v.new.view (omega arith))

pub find-requires : goal.find-requires
find-requires c =
    let f = order_short (messages c.args.words.now) (messages c.args.words.now) _ c.by_uid-n.result c.args.id c.by_uid-n.ensures in
    let l = length-take-le c.by_uid-n.result c.by_uid-n.new.order (omega arith) in
    let k = c.told_of-v.ensures.few in
    let m = length-take-le c.told_of-v.result c.told_of-v.new.view (omega arith) in
    omega arith

pub returns : goal.returns
returns c =
    let f = order_short (messages c.args.words.now) (messages c.args.words.now) _ c.by_uid-n.result c.args.id c.by_uid-n.ensures in
    let l = length-take-le c.by_uid-n.result c.by_uid-n.new.order (omega arith) in
    let k = c.told_of-v.ensures.few in
    view-searched (messages c.args.words.now) c.args.id c.by_uid-n.new.order c.by_uid-n.result c.by_uid-n.ensures c.args.below.0 _ c.told_of-v.new.view c.told_of-v.result
    (kept_cut (messages c.args.words.now) c.by_uid-n.new.order c.by_uid-n.result c.args.below.0 _ _ c.told_of-v.result (omega arith) c.told_of-v.ensures) c.args.cells.now _ _ c.find.result
    (found_cut (messages c.args.words.now) c.told_of-v.new.view c.told_of-v.result c.args.cells.now _ _ c.find.result (omega arith) c.find.ensures)
