-- `search_box`: the order by UID, and what matches along it. Assumes nothing.
use Rattle.std.proofs.Common.{arith, sym, length-take-le}
use Rattle.order_messages.specs.Counts.{order_short}
use Rattle.search_find.specs.Searched.{box-searched, found_cut}
use Rattle.table_messages.specs.Words.{messages}
use Rattle.search_find.proofs.search_box.Goals as goal

pub slice_bounds-find-end : goal.slice_bounds-find-end
slice_bounds-find-end c =
    let f = order_short (messages c.args.words.now) (messages c.args.words.now) _ c.by_uid-n.result c.args.id c.by_uid-n.ensures in
    omega arith

pub slice_bounds-find-end-2 : goal.slice_bounds-find-end-2
slice_bounds-find-end-2 c =
    let f = order_short (messages c.args.words.now) (messages c.args.words.now) _ c.by_uid-n.result c.args.id c.by_uid-n.ensures in
    sym (length-take-le c.by_uid-n.result c.by_uid-n.new.order (omega arith))

pub find-requires : goal.find-requires
find-requires c =
    let f = order_short (messages c.args.words.now) (messages c.args.words.now) _ c.by_uid-n.result c.args.id c.by_uid-n.ensures in
    let l = length-take-le c.by_uid-n.result c.by_uid-n.new.order (omega arith) in
    omega arith

pub returns : goal.returns
returns c =
    let f = order_short (messages c.args.words.now) (messages c.args.words.now) _ c.by_uid-n.result c.args.id c.by_uid-n.ensures in
    box-searched (messages c.args.words.now) c.args.id c.by_uid-n.new.order c.by_uid-n.result c.by_uid-n.ensures c.args.cells.now _ _ c.find.result
    (found_cut (messages c.args.words.now) c.by_uid-n.new.order c.by_uid-n.result c.args.cells.now _ _ c.find.result (omega arith) c.find.ensures)
