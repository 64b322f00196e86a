-- `copy_quoted`: the loop keeps that what is written and the value of what is left of the string make the whole. Assumes nothing.
use mathlib.Core.Path.{◌≡◌, refl, sym, ap, ◌∙◌}
use native.Mathlib.Omega.{arith}
use lib.ListN.{get_or}
use Rattle.model.specs.Reading.{quoted_at}
use Rattle.octets.specs.Found.{next_of}
use Rattle.octets.specs.Values.{value_of}
use Rattle.std.specs.Prelude.{None}
use Rattle.std.proofs.lemmas.Bool.{false≢true}
use Rattle.octets.proofs.Strings.{quote_past}
use borrow.Author.Rules.{rules}
use Rattle.octets.proofs.Filling.{copied_start, copied-kept, copied_long, copied_is, no_value, string_closes, string-goes, string-still, fill_none, kept_short, string_begins}
use Rattle.octets.proofs.texts.copy_quoted.Goals as goal

pub returns-then-is_none : goal.returns-then-is_none
returns-then-is_none c =
    let e = no_value (quoted_at c.args.text.now c.args.at) (rw c.quoted_at.ensures.exact at c.if-is_none.ensures) in
    record { long = rw e; is = rw e (sym (fill_none c.args.out.now)); within = omega arith }

pub loop-p-init : goal.loop-p-init
loop-p-init c =
    let ok : next_of (quoted_at c.args.text.now c.args.at) ≡ None → ⊥ = λ z. false≢true (rw (c.quoted_at.ensures.exact, z) at c.if-is_none.ensures) in
    let b = string_begins c.args.text.now c.args.at ok in
    (omega arith, omega arith, refl, λ z. ok (ap next_of b ∙ z), copied_start _ _ _ (ap value_of b))

pub returns-in-Closes : goal.returns-in-Closes
returns-in-Closes c =
    let e = string_closes c.args.text.now c.loop-p.p c.loop-p.escaped (omega arith) _ c.quote_step-step.ensures c.in-Closes.is in
    record { long = copied_long c.loop-p.invariant.4 e; is = copied_is c.loop-p.invariant.4 e; within = omega arith }

pub loop-p-preserved : goal.loop-p-preserved
loop-p-preserved c =
    let short = kept_short c.quote_step-step.result (get_or c.args.text.now c.loop-p.p 0) in
    let goes = string-goes c.args.text.now c.loop-p.p c.loop-p.escaped (omega arith) _ c.quote_step-step.ensures c.in_default.not-Closes c.loop-p.invariant.3 in (
      omega (arith, short),
      omega (arith, short),
      search rules,
      rw c.escapes-escaped.ensures (string-still c.args.text.now c.loop-p.p c.loop-p.escaped (omega arith) _ c.quote_step-step.ensures c.in_default.not-Closes c.loop-p.invariant.3),
      rw (c.keep-n.ensures.1, c.keep-n.ensures.0, c.escapes-escaped.ensures) (copied-kept c.quote_step-step.result (get_or c.args.text.now c.loop-p.p 0) _ c.loop-p.invariant.4 goes),
    )

pub returns : goal.returns
returns c =
    absurd (c.loop-p.invariant.3 (ap next_of (quote_past c.args.text.now c.loop-p.p c.loop-p.escaped (omega arith))))
