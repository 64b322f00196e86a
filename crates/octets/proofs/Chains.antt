-- One reader after another, of this crate's proofs and its callers': the answer of a chain by the answers of its parts. Assumes nothing.
use mathlib.Core.Path.{◌≡◌, refl, sym, ap}
use mathlib.Core.List.{List}
use Prim.Native.Nat.{ℕ, ◌+◌, ◌≤◌}
use Prim.Native.Char.{Char, code}
use native.Mathlib.Omega.{arith}
use lib.ListN.{get_or}
use borrow.Author.Tests.{eq-eqb, ne_eqb}
use Rattle.model.specs.Reading.{Parsed, bad, ok, and_then, after}
use Rattle.octets.specs.Found.{next_of, Within}
use Rattle.std.specs.Prelude.{Option, Some, None}

pub at_not-bad : (p : ℕ) → Some p ≡ None → ⊥
at_not-bad p e = let z : ◌≡◌ {A = ℕ} 0 1 = cc in omega arith

same_place : (p q : ℕ) → Some p ≡ Some q → p ≡ q
same_place p q e = cc

module _ {A : Type 0} where
  -- what was read, by the position behind it
  pub found : (x : Parsed A) (p : ℕ) → Some p ≡ next_of x → (a : A) × (x ≡ ok p a)
  found bad p e = absurd (at_not-bad p e)
  found (ok q a) p e = (a, ap (λ (n : ℕ). ok n a) (sym (same_place p q e)))

  pub lost : (x : Parsed A) → None ≡ next_of x → x ≡ bad
  lost bad e = refl
  lost (ok p a) e = absurd (at_not-bad p (sym e))

module _ {A B : Type 0} (x : Parsed A) (f : ℕ → A → Parsed B) where
  -- the first of two is not there
  pub then-bad : None ≡ next_of x → None ≡ next_of (and_then x f)
  then-bad e = rw (lost x e)

  -- it is, and the second answers r
  pub then_ok : (p : ℕ) (r : Option ℕ) → Some p ≡ next_of x → ((a : A) → r ≡ next_of (f p a)) → r ≡ next_of (and_then x f)
  then_ok p r e g = let i = found x p e in rw i.1 (g i.0)

module _ {A : Type 0} (s : List ℕ) (p : ℕ) (c : Char) (f : ℕ → Parsed A) where
  -- an octet that must stand there does not
  pub after_none : (get_or s p 0 ≡ code c → ⊥) → None ≡ next_of (after s p c f)
  after_none n = rw (ne_eqb (get_or s p 0) (code c) n)

  -- it does, and what follows answers r
  pub after_some : (r : Option ℕ) → get_or s p 0 ≡ code c → r ≡ next_of (f (p + 1)) → r ≡ next_of (after s p c f)
  after_some r e g = rw (eq-eqb (get_or s p 0) (code c) e) g

-- behind a later beginning is behind an earlier one
pub within-from : (s : List ℕ) (at at' : ℕ) (r : Option ℕ) → at ≤ at' → Within s at' r → Within s at r
within-from s at at' (Some p) h w = (omega arith, omega arith)
within-from s at at' None h w = tt
