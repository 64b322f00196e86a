-- `expunges`: at each turn the run from here over the entries left is the run from the start over all. Assumes nothing.
use native.Mathlib.Omega.{arith}
use Rattle.std.proofs.Common.{rules}
use Rattle.table_messages.specs.Words.{messages}
use Rattle.event_view.specs.Coded.{state_of, run_e_next, run_e_end}
use Rattle.event_view.proofs.expunges.Goals as goal

pub loop-j-preserved : goal.loop-j-preserved
loop-j-preserved c = (
  search rules,
  c.expunge_one-s.ensures.1,
  omega (arith, c.expunge_one-s.ensures.2, c.loop-j.invariant.2),
  omega (arith, c.expunge_one-s.ensures.3, c.loop-j.invariant.3),
  run_e_next (messages c.args.words.now) c.args.order.now c.args.told.0 c.args.limit c.loop-j.j (state_of c.loop-j.queue c.loop-j.s) _ _
      c.loop-j-test.true c.loop-j.invariant.4 c.expunge_one-s.ensures.0,
)

pub returns : goal.returns
returns c = (
  run_e_end (messages c.args.words.now) c.args.order.now c.args.told.0 c.args.limit c.loop-j.j (state_of c.loop-j.queue c.loop-j.s) _
      (omega arith) c.loop-j.invariant.4,
  c.loop-j.invariant.1,
  omega (arith, c.loop-j.invariant.2),
)
