-- `record_read::fields_at` meets its contract: what all fields say is what the fields passed say, and the rest. Assumes nothing.
use native.Mathlib.Omega.{arith}
use mathlib.Core.Path.{◌≡◌, refl, sym, ◌∙◌}
use lib.ListN.{length}
use Rattle.record_read.proofs.Turns.{passed-more, passed_out, passed_all}
use Rattle.record_read.proofs.bodies.fields_at.Goals as goal

pub returns-then-not-in_range : goal.returns-then-not-in_range
returns-then-not-in_range c =
    passed_out c.args.o.now c.args.fields.now c.loop-i.invariant c.loop-i-test.true c.requires _ c.width_of-w.ensures.0 c.width_of-w.ensures.1 c.number_at-v.ensures
    (sym c.in_range.ensures ∙ c.if-not-in_range.true) refl

pub loop-i-preserved : goal.loop-i-preserved
loop-i-preserved c =
    passed-more c.args.o.now c.args.fields.now c.loop-i.invariant c.loop-i-test.true c.requires _ c.width_of-w.ensures.0 c.width_of-w.ensures.1 c.number_at-v.ensures
    (sym c.if-not-in_range.false ∙ c.in_range.ensures)

pub returns : goal.returns
returns c =
    let e : c.loop-i.i ≡ length c.args.fields.now = omega arith in passed_all c.args.o.now c.args.fields.now (rw e at c.loop-i.invariant) refl
