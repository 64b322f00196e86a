-- Laws about texts and rows of things in them, for every reader: one step of the definitions of `model` at a time. Assumes nothing.
use Rattle.std.specs.Prelude.{◌≡◌, Bool, true, false, Some, None, List, [], ◌∷◌, length, get_or, ltb}
use Rattle.std.proofs.Math.Path.{refl}
use Prim.Native.Nat.{ℕ, zero, suc, ◌+◌, ◌-◌, ◌≤◌, ◌<◌}
use Rattle.std.proofs.Common.{not-suc-le-zero, sub-one, arith, eq-eqb, ne_eqb, ltb-true, ltb-false}
use Rattle.std.proofs.Math.ListN.{get_or-eq_default}
use Rattle.model.specs.Reading.{Parsed, bad, ok, and_then, Next as RowNext, another, over, neither, row_by, row_at, closing, next_at}
use Rattle.octets.specs.Found.{next_of}

-- an octet that is not 0 stands in the text
pub in-text : (s : List ℕ) (p : ℕ) {b : ℕ} → get_or s p 0 ≡ b → 0 < b → p < length s
in-text s p {b} e l = go (ltb p (length s)) refl
  where
    past : length s ≤ p → ⊥
    past q = omega (arith, get_or-eq_default s 0 q)

    go : (t : Bool) → ltb p (length s) ≡ t → p < length s
    go true h = ltb-true p (length s) h
    go false h = absurd (past (ltb-false p (length s) h))

-- ---- what was read, from the code's answer
pub next-found : {A : Type 0} {q : ℕ} (x : Parsed A) → Some q ≡ next_of x → (a : A) × (x ≡ ok q a)
next-found bad e = absurd (let z : ◌≡◌ {A = ℕ} 0 1 = cc in omega arith)
next-found (ok p a) e = (a, (cc))

pub next-lost : {A : Type 0} (x : Parsed A) → None ≡ next_of x → x ≡ bad
next-lost bad e = refl
next-lost (ok p a) e = absurd (let z : ◌≡◌ {A = ℕ} 0 1 = cc in omega arith)

-- ---- a row
module _ {A : Type 0} (item : ℕ → Parsed A) (next : ℕ → RowNext) (at : ℕ) where
  pub row_none : (n : ℕ) → item at ≡ bad → row_at n item next at ≡ bad
  unfolding row_at
  row_none zero e = refl
  row_none (suc n) e = rw e

  pub row_open : (n : ℕ) → 0 < n → row_at n item next at ≡ and_then (item at) (λ q a. row_by (next q) (λ r. row_at (n - 1) item next r) a)
  unfolding row_at
  row_open zero h = absurd (not-suc-le-zero h)
  row_open (suc m) h = rw (sub-one (suc m))

  module _ (n : ℕ) (h : 0 < n) {q : ℕ} {a : A} (e : item at ≡ ok q a) where
    pub row_another : {p : ℕ} → next q ≡ another p → row_at n item next at ≡ and_then (row_at (n - 1) item next p) (λ r l. ok r (a ∷ l))
    row_another f = rw (row_open n h, e, f)

    pub row_over : {p : ℕ} → next q ≡ over p → row_at n item next at ≡ ok p (a ∷ [])
    row_over f = rw (row_open n h, e, f)

    pub row-neither : next q ≡ neither → row_at n item next at ≡ bad
    row-neither f = rw (row_open n h, e, f)

-- ---- what follows a thing in parentheses: a space and another, the parenthesis that closes them, or neither
module _ (s : List ℕ) (q : ℕ) where
  pub next-space : get_or s q 0 ≡ 32 → next_at closing s q ≡ another (q + 1)
  next-space e = rw (eq-eqb (get_or s q 0) 32 e)

  pub next_close : get_or s q 0 ≡ 41 → next_at closing s q ≡ over (q + 1)
  next_close e = rw e

  pub next-neither : (get_or s q 0 ≡ 32 → ⊥) → (get_or s q 0 ≡ 41 → ⊥) → next_at closing s q ≡ neither
  next-neither e f = rw (ne_eqb (get_or s q 0) 32 e, ne_eqb (get_or s q 0) 41 f)
