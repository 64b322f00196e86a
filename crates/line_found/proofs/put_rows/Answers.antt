-- `put_rows`: the lines of the places above i are written. Assumes nothing.
use Rattle.std.proofs.Common.{◌≡◌, ◌-◌, ◌%◌, length, take, drop, get_or, arith, length-drop, length-take-le}
use Rattle.line_found.specs.Telling.{name_short, run-part, goes_next, goes_end}
use Rattle.line_found.proofs.put_rows.Goals as goal

pub put_row-requires : goal.put_row-requires
put_row-requires c =
    let b = c.requires.2.1 (c.loop-i.i - 1) (omega arith) (omega arith) in
    let from = get_or c.args.starts.now (c.loop-i.i - 1) 0 in
    let n = get_or c.args.counts.now (c.loop-i.i - 1) 0 in
    let l : length (take n (drop from c.args.uids.now)) ≡ n = length-take-le n (drop from c.args.uids.now) (let d = length-drop from c.args.uids.now in let b₀ = b.0 in omega arith) in
    let b₁ = b.1 in
    (omega arith, omega arith, omega arith, rw c.name.ensures (name_short c.args.cols.now.lens c.args.cols.now.names (get_or c.args.rows.now (c.loop-i.i - 1) 0 % 64)), rw (run-part from n) (omega arith))

pub loop-i-preserved : goal.loop-i-preserved
loop-i-preserved c = record {
  limit = omega arith;
  upper_bound = omega arith;
  put = goes_next c.args.tag.now c.args.cols.now c.args.rows.now c.args.wanted c.args.uids.now c.args.starts.now c.args.counts.now c.loop-i.i c.loop-i-test.true c.loop-i.invariant.put
      (rw (← c.name.ensures, ← run-part (get_or c.args.starts.now (c.loop-i.i - 1) 0) (get_or c.args.counts.now (c.loop-i.i - 1) 0)) c.put_row.ensures.put);
}

pub returns-clause-put : goal.returns-clause-put
returns-clause-put c =
    let e : c.loop-i.i ≡ 0 = omega arith in
    goes_end c.args.tag.now c.args.cols.now c.args.rows.now c.args.wanted c.args.uids.now c.args.starts.now c.args.counts.now (omega arith) (rw e at c.loop-i.invariant.put)
