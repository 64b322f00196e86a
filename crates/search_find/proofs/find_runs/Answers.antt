-- `find_runs`: the loop keeps that the runs of the places above i stand one behind the other. Assumes nothing.
use Rattle.std.proofs.Common.{arith, rules, length, ◌≤◌, ◌-◌, refl}
use Rattle.table_messages.specs.Words.{messages}
use Rattle.search_find.specs.Runs.{finding_start, finding_next, finding_end, row_longer, id_at}
use borrow.Rule.Slice.PartMut.{mid_len}
use Rattle.search_find.proofs.find_runs.Goals as goal

pub link-requires : goal.link-requires
link-requires c = (search rules, refl)

pub loop-i-init : goal.loop-i-init
loop-i-init c = finding_start (messages c.args.words.now) c.args.ids.now c.args.rows.now (length c.args.rows.now) c.args.wanted.selected c.args.wanted.below.0 c.args.wanted.cells.now _ _ _

pub search_row-r-requires : goal.search_row-r-requires
search_row-r-requires c =
    let f = c.loop-i.invariant.few in
    let low : c.min-from.result ≤ 1024 = search rules in
    let m = mid_len c.min-from.result (length c.loop-i.uids) c.loop-i.uids (omega arith) in
    (omega arith, omega arith, omega arith, search rules, c.link.ensures)

pub loop-i-preserved : goal.loop-i-preserved
loop-i-preserved c =
    let es = messages c.args.words.now in
    let f = c.loop-i.invariant.few in
    let low : c.min-from.result ≤ 1024 = search rules in
    let m = mid_len c.min-from.result (length c.loop-i.uids) c.loop-i.uids (omega arith) in
    finding_next es c.args.ids.now c.args.rows.now (length c.args.rows.now) c.args.wanted.selected c.args.wanted.below.0 c.args.wanted.cells.now c.loop-i.uids c.loop-i.starts c.loop-i.counts c.loop-i.i c.loop-i.total c.loop-i.invariant c.loop-i-test.true (omega arith) (omega arith) (omega arith) c.min-from.result (omega arith) (omega arith) (λ h. search rules) _ c.search_row-r.result (omega arith)
    (row_longer es (id_at c.args.ids.now c.args.rows.now (c.loop-i.i - 1)) c.args.wanted.selected c.args.wanted.below.0 c.args.wanted.cells.now _ c.search_row-r.result c.search_row-r.ensures.0 (omega arith) _)

pub returns : goal.returns
returns c =
    finding_end (messages c.args.words.now) c.args.ids.now c.args.rows.now (length c.args.rows.now) c.args.wanted.selected c.args.wanted.below.0 c.args.wanted.cells.now _ _ _ c.loop-i.i c.loop-i.total (omega arith) c.loop-i.invariant
