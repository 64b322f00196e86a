-- `marks`: at each turn the run from here over the entries left is the run from the start over all. Assumes nothing.
use native.Mathlib.Omega.{arith}
use Rattle.std.proofs.Common.{rules}
use Rattle.table_messages.specs.Words.{messages}
use Rattle.event_view.specs.Coded.{state_of, run_m_next, run_m_end}
use Rattle.event_view.proofs.marks.Goals as goal

pub loop-j-preserved : goal.loop-j-preserved
loop-j-preserved c = (
  search rules,
  c.mark_one-s.ensures.1,
  omega (arith, c.mark_one-s.ensures.2, c.loop-j.invariant.2),
  omega (arith, c.mark_one-s.ensures.3, c.loop-j.invariant.3),
  run_m_next (messages c.args.words.now) c.args.order.now c.args.told.0 c.args.limit c.args.skip c.loop-j.j (state_of c.loop-j.queue c.loop-j.s) _ _
      c.loop-j-test.true c.loop-j.invariant.4 c.mark_one-s.ensures.0,
)

pub returns : goal.returns
returns c = (
  run_m_end (messages c.args.words.now) c.args.order.now c.args.told.0 c.args.limit c.args.skip c.loop-j.j (state_of c.loop-j.queue c.loop-j.s) _
      (omega arith) c.loop-j.invariant.4,
  c.loop-j.invariant.1,
  omega (arith, c.loop-j.invariant.2),
)
