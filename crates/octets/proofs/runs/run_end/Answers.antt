-- `octets::runs::run_end` meets its contract: the end of the run from the start is its end from here. Assumes nothing.
use mathlib.Core.Path.{◌≡◌, refl, sym, ◌∙◌}
use native.Mathlib.Omega.{arith}
use Rattle.octets.specs.Classes.{in_class}
use Rattle.octets.proofs.Ends.{run_past, run-stops, run-goes}
use Rattle.octets.proofs.runs.run_end.Goals as goal

pub loop-p-init : goal.loop-p-init
loop-p-init c = (omega arith, omega arith, refl)

pub loop-p-preserved : goal.loop-p-preserved
loop-p-preserved c =
    (omega arith, omega arith, c.loop-p.invariant.2 ∙ run-goes (in_class c.args.c) c.args.text.now c.loop-p.p (omega arith) (sym c.in_class.ensures ∙ c.if-not-in_class.false))

pub returns-then-not-in_class : goal.returns-then-not-in_class
returns-then-not-in_class c =
    record { exact = sym (c.loop-p.invariant.2 ∙ run-stops (in_class c.args.c) c.args.text.now c.loop-p.p (omega arith) (sym c.in_class.ensures ∙ c.if-not-in_class.true)); from = omega arith; within = omega arith }

pub returns : goal.returns
returns c =
    let e : c.max.result ≡ c.loop-p.p = omega arith in
    record { exact = e ∙ sym (c.loop-p.invariant.2 ∙ run_past (in_class c.args.c) c.args.text.now c.loop-p.p (omega arith)); from = omega arith; within = omega arith }
