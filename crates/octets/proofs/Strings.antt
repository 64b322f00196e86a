-- Quoted strings, one octet at a time. Assumes nothing.
use mathlib.Core.Path.{◌≡◌, refl, sym, ap, ◌∙◌}
use mathlib.Core.List.{List, [], ◌∷◌}
use mathlib.Core.Bool.{Bool, false}
use Prim.Native.Nat.{ℕ, zero, suc, ◌+◌, ◌≤◌, ◌<◌, zero-le, suc-le-suc}
use native.Mathlib.Numerals.{add-one}
use native.Mathlib.Omega.{arith}
use lib.ListN.{length, get_or, drop, drop_of_length-le}
use lib.Seq.{drop-cons}
use borrow.Author.Tests.{eq-eqb, ne_eqb}
use Rattle.model.specs.Reading.{Parsed, bad, ok, and_then, Quoting, closes, escapes, belongs, fails, quoting, unquote_by, unquote, quoted_at}
use Rattle.octets.specs.Found.{next_of}
use Rattle.octets.specs.Quotes.{step_of, escaping}
use Rattle.octets.specs.declared.texts.QuoteStep.{QuoteStep}
use Rattle.octets.specs.declared.texts.QuoteStep.TheVariants.{Closes, Wrong}
use Rattle.std.specs.Prelude.{Some, None}

-- an octet that is not 0 stands in the text
pub octet_in : (s : List ℕ) (p : ℕ) → 0 < get_or s p 0 → p < length s
octet_in [] p h = absurd (omega arith)
octet_in (x ∷ s) zero h = suc-le-suc zero-le
octet_in (x ∷ s) (suc p) h = suc-le-suc (octet_in s p h)

-- an octet more in front does not move the end
next-cons : (b : ℕ) (x : Parsed (List ℕ)) → next_of (and_then x (λ q t. ok q (b ∷ t))) ≡ next_of x
next-cons b bad = refl
next-cons b (ok p v) = refl

-- what each step does
step_closes : (q : Quoting) (b p : ℕ) (rest : Bool → Parsed (List ℕ)) → step_of q ≡ Closes → next_of (unquote_by q b p rest) ≡ Some p
step_closes closes b p rest e = refl
step_closes escapes b p rest e = absurd (let z : ◌≡◌ {A = ℕ} 0 1 = cc in omega arith)
step_closes belongs b p rest e = absurd (let z : ◌≡◌ {A = ℕ} 0 1 = cc in omega arith)
step_closes fails b p rest e = absurd (let z : ◌≡◌ {A = ℕ} 0 1 = cc in omega arith)

step_fails : (q : Quoting) (b p : ℕ) (rest : Bool → Parsed (List ℕ)) → step_of q ≡ Wrong → next_of (unquote_by q b p rest) ≡ None
step_fails closes b p rest e = absurd (let z : ◌≡◌ {A = ℕ} 0 1 = cc in omega arith)
step_fails escapes b p rest e = absurd (let z : ◌≡◌ {A = ℕ} 0 1 = cc in omega arith)
step_fails belongs b p rest e = absurd (let z : ◌≡◌ {A = ℕ} 0 1 = cc in omega arith)
step_fails fails b p rest e = refl

step-goes : (q : Quoting) (b p : ℕ) (rest : Bool → Parsed (List ℕ)) → (step_of q ≡ Closes → ⊥) → (step_of q ≡ Wrong → ⊥) → next_of (unquote_by q b p rest) ≡ next_of (rest (escaping (step_of q)))
step-goes closes b p rest n m = absurd (n refl)
step-goes escapes b p rest n m = refl
step-goes belongs b p rest n m = next-cons b (rest false)
step-goes fails b p rest n m = absurd (m refl)

-- the beginning
module _ (s : List ℕ) (at : ℕ) where
  pub quote_none : (get_or s at 0 ≡ 34 → ⊥) → None ≡ next_of (quoted_at s at)
  quote_none n = rw (ne_eqb _ _ n)

  pub quote_begins : get_or s at 0 ≡ 34 → quoted_at s at ≡ unquote (drop (at + 1) s) false (at + 1)
  quote_begins e = rw (eq-eqb _ _ e)

-- what stands at p, and a backslash before it or not
module _ (s : List ℕ) (p : ℕ) (e : Bool) where
  pub quote_past : length s ≤ p → unquote (drop p s) e p ≡ bad
  unfolding unquote
  quote_past h = rw (drop_of_length-le s h)

  pub quote_at : p < length s → unquote (drop p s) e p ≡ unquote_by (quoting e (get_or s p 0)) (get_or s p 0) (p + 1) (λ f. unquote (drop (p + 1) s) f (p + 1))
  unfolding unquote
  quote_at h = rw (drop-cons s p 0 h, add-one p)

  module _ (h : p < length s) (k : QuoteStep) (is : k ≡ step_of (quoting e (get_or s p 0))) where
    pub quote_closes : k ≡ Closes → next_of (unquote (drop p s) e p) ≡ Some (p + 1)
    quote_closes z = ap next_of (quote_at h) ∙ step_closes (quoting e (get_or s p 0)) _ _ _ (sym is ∙ z)

    pub quote_fails : k ≡ Wrong → next_of (unquote (drop p s) e p) ≡ None
    quote_fails z = ap next_of (quote_at h) ∙ step_fails (quoting e (get_or s p 0)) _ _ _ (sym is ∙ z)

    pub quote-goes : (k ≡ Closes → ⊥) → (k ≡ Wrong → ⊥) → next_of (unquote (drop p s) e p) ≡ next_of (unquote (drop (p + 1) s) (escaping k) (p + 1))
    quote-goes n m = rw (is) (ap next_of (quote_at h) ∙ step-goes (quoting e (get_or s p 0)) _ _ _ (λ z. n (is ∙ z)) (λ z. m (is ∙ z)))
