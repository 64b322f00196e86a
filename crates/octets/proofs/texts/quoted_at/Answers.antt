-- `octets::texts::quoted_at` meets its contract: the answer from the start is the answer from here. Assumes nothing.
use mathlib.Core.Path.{◌≡◌, sym, ap, ◌∙◌}
use native.Mathlib.Omega.{arith}
use lib.ListN.{get_or}
use Rattle.octets.specs.Found.{next_of}
use Rattle.octets.proofs.Strings.{octet_in, quote_none, quote_begins, quote_past, quote_closes, quote_fails, quote-goes}
use Rattle.octets.proofs.texts.quoted_at.Goals as goal

pub returns-then-octet_at-ne34 : goal.returns-then-octet_at-ne34
returns-then-octet_at-ne34 c =
    record { exact = quote_none c.args.text.now c.args.at (λ e. c.if-octet_at-ne34.true (c.octet_at.ensures ∙ e)); within = tt }

pub loop-p-init : goal.loop-p-init
loop-p-init c =
    let e : get_or c.args.text.now c.args.at 0 ≡ 34 = sym c.octet_at.ensures ∙ c.if-octet_at-ne34.false in (omega arith, omega (arith, octet_in c.args.text.now c.args.at (omega arith)), ap next_of (quote_begins c.args.text.now c.args.at e))

pub returns-in-Closes : goal.returns-in-Closes
returns-in-Closes c =
    record { exact = sym (c.loop-p.invariant.2 ∙ quote_closes c.args.text.now c.loop-p.p c.loop-p.escaped (omega arith) _ c.quote_step-step.ensures c.in-Closes.is); within = (omega arith, omega arith) }

pub returns-in-Wrong : goal.returns-in-Wrong
returns-in-Wrong c =
    record { exact = sym (c.loop-p.invariant.2 ∙ quote_fails c.args.text.now c.loop-p.p c.loop-p.escaped (omega arith) _ c.quote_step-step.ensures c.in-Wrong.is); within = tt }

pub loop-p-preserved : goal.loop-p-preserved
loop-p-preserved c =
    (omega arith, omega arith, rw c.escapes-escaped.ensures (c.loop-p.invariant.2 ∙ quote-goes c.args.text.now c.loop-p.p c.loop-p.escaped (omega arith) _ c.quote_step-step.ensures c.in_default.not-Closes c.in_default.not-Wrong))

pub returns : goal.returns
returns c = record { exact = sym (c.loop-p.invariant.2 ∙ ap next_of (quote_past c.args.text.now c.loop-p.p c.loop-p.escaped (omega arith))); within = tt }
