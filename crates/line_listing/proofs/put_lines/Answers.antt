-- `put_lines`: the lines of the places above i are written. Assumes nothing.
use mathlib.Core.Path.{◌≡◌}
use native.Mathlib.Omega.{arith}
use Rattle.line_put.specs.Writes.{writes_as}
use Rattle.line_listing.specs.Telling.{texts_are, goes_next, goes_end}
use lib.ListN.{length}
use Rattle.line_listing.proofs.put_lines.Goals as goal

pub loop-i-preserved : goal.loop-i-preserved
loop-i-preserved c = record {
  limit = omega arith;
  upper_bound = omega arith;
  put = goes_next c.args.cols.now c.args.order.now c.args.counts.now c.args.asks.now c.loop-i.i c.loop-i-test.true c.loop-i.invariant.put c.put_row.ensures.put;
}

pub returns-clause-text : goal.returns-clause-text
returns-clause-text c =
    let e : c.loop-i.i ≡ 0 = omega arith in
    goes_end c.args.cols.now c.args.order.now c.args.counts.now c.args.asks.now (omega arith) (rw e at c.loop-i.invariant.put)

pub returns-clause-put : goal.returns-clause-put
returns-clause-put c =
    λ f l w v b t.
    writes_as (returns-clause-text c) (texts_are f l c.args.cols.now c.args.order.now c.args.counts.now c.args.asks.now w v t (length c.args.order.now) b)
