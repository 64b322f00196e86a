-- `put_quoted`: the opening quote, the octets so far, escaped, and the closing quote. Assumes nothing.
use mathlib.Core.Path.{sym}
use native.Mathlib.Omega.{arith}
use native.Mathlib.Numerals.{add-one}
use lib.ListN.{take, get_or}
use lib.Seq.{take-suc, take_all}
use Rattle.line_put.specs.Writes.{writes_none, ◌then◌, writes_as}
use Rattle.model.specs.Text.{escape, quoted}
use Rattle.line_put.specs.Decimals.{escape-snoc}
use Rattle.line_put.proofs.Writer.put_quoted.Goals as goal

pub loop-b-init : goal.loop-b-init
unfolding escape
loop-b-init c = record { put = writes_none _ (omega arith); upper_bound = omega arith }

pub loop-b-preserved : goal.loop-b-preserved
loop-b-preserved c = record {
  put = writes_as (◌then◌ c.loop-b.invariant.put c.put_escaped.ensures.0) (rw (add-one, take-suc c.args.text.now c.loop-b.b-index 0 c.loop-b-test.true) (sym (escape-snoc (take c.loop-b.b-index c.args.text.now) (get_or c.args.text.now c.loop-b.b-index 0))));
  upper_bound = omega arith;
}

pub returns-clause-put : goal.returns-clause-put
unfolding quoted
returns-clause-put c = rw (← take_all c.loop-b.b-index c.args.text.now c.loop-b-test.false) (◌then◌ (◌then◌ c.put_byte.ensures c.loop-b.invariant.put) c.put_byte-2.ensures)
