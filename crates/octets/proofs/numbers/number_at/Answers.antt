-- `octets::numbers::number_at` meets its contract: the value from the start is the value from here; more digits make none less. Assumes nothing.
use mathlib.Core.Path.{◌∙◌}
use native.Mathlib.Omega.{arith}
use Prim.Native.Nat.{◌+◌}
use lib.ListN.{drop}
use Rattle.model.specs.Reading.{piece}
use Rattle.octets.proofs.Digits.{value_done, value-step, number_none, number_is, number_large}
use Rattle.octets.proofs.numbers.number_at.Goals as goal

pub returns-then-end-at : goal.returns-then-end-at
returns-then-end-at c =
    record { exact = number_none c.args.text.now c.args.at _ c.run_end-end.ensures.exact c.if-end-at.true; within = tt }

pub returns-then-v-gt-MOST : goal.returns-then-v-gt-MOST
returns-then-v-gt-MOST c =
    let digits = piece c.args.text.now c.args.at c.run_end-end.result in
    record { exact = number_large c.args.text.now c.args.at _ c.run_end-end.ensures.exact _ (drop (c.loop-b.b-index + 1) digits) (omega arith) (rw c.digit_value.ensures.0 (c.loop-b.invariant.1 ∙ value-step digits c.loop-b.b-index c.loop-b.v (omega arith))) c.if-v-gt-MOST.true; within = tt }

pub loop-b-preserved : goal.loop-b-preserved
loop-b-preserved c =
    let digits = piece c.args.text.now c.args.at c.run_end-end.result in
    (omega arith, rw c.digit_value.ensures.0 (c.loop-b.invariant.1 ∙ value-step digits c.loop-b.b-index c.loop-b.v (omega arith)))

pub returns : goal.returns
returns c =
    let digits = piece c.args.text.now c.args.at c.run_end-end.result in
    record { exact = number_is c.args.text.now c.args.at _ c.run_end-end.ensures.exact c.loop-b.v (omega arith) (c.loop-b.invariant.1 ∙ value_done digits c.loop-b.b-index c.loop-b.v (omega arith)) (omega arith); within = (omega arith, omega arith, omega arith) }
