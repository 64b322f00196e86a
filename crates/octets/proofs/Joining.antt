-- A row of things, one step at a time: what the code answers is what the definition says. Assumes nothing.
use Rattle.std.proofs.Common.{◌≡◌, ℕ, zero, suc, ◌+◌, ◌-◌, ◌<◌, ◌≤◌, length, get_or, Option, Some, None, List, refl, sym, arith, not-suc-le-zero, sub-one}
use Rattle.model.specs.Reading.{closing, next_at}
use Rattle.octets.specs.Rows.{next-space, next_close, next-neither, in-text}
use Rattle.octets.specs.Joined.{Behind, joined, joined_by, joined_then, ReadsJoined}

module _ {A : Type 0} (s : List ℕ) (item : ℕ → Option (A × ℕ)) (join : A → A → A) (at : ℕ) where
  joined_open : (n : ℕ) → 0 < n → joined n item join (next_at closing s) at ≡ joined_then join (joined (n - 1) item join (next_at closing s)) (next_at closing s) (item at)
  unfolding joined
  joined_open zero h = absurd (not-suc-le-zero h)
  joined_open (suc n) h = rw (sub-one (suc n))

  joined_none : (n : ℕ) → item at ≡ None → None ≡ joined n item join (next_at closing s) at
  unfolding joined
  joined_none zero e = refl
  joined_none (suc n) e = rw e

  pub row_none : None ≡ item at → ReadsJoined s item join at None
  row_none e = record { exact = λ n h. joined_none n (sym e); within = tt }

  module _ {a : A} {p : ℕ} (e : Some (a, p) ≡ item at) (w : Behind s at (Some (a, p))) where
    step : (n : ℕ) → length s - at ≤ n → joined n item join (next_at closing s) at ≡ joined_by join (joined (n - 1) item join (next_at closing s)) a (next_at closing s p)
    step n h = rw (joined_open n (omega arith), ← e)

    pub row_over : get_or s p 0 ≡ 41 → ReadsJoined s item join at (Some (a, p + 1))
    row_over f =
        record { exact = λ n h. sym (rw (step n h, next_close s p f)); within = (omega arith, omega (arith, in-text s p f (omega arith))) }

    pub row-neither : (get_or s p 0 ≡ 32 → ⊥) → (get_or s p 0 ≡ 41 → ⊥) → ReadsJoined s item join at None
    row-neither f g = record { exact = λ n h. sym (rw (step n h, next-neither s p f g)); within = tt }

    module _ (f : get_or s p 0 ≡ 32) where
      pub row-ends : ReadsJoined s item join (p + 1) None → ReadsJoined s item join at None
      row-ends r =
          record { exact = λ n h. sym (rw (step n h, next-space s p f, ← r.exact (n - 1) (omega (arith, in-text s p f (omega arith))))); within = tt }

      pub row-goes : (b : A) (q : ℕ) → ReadsJoined s item join (p + 1) (Some (b, q)) → ReadsJoined s item join at (Some (join a b, q))
      row-goes b q r =
          let v = r.within in
          record {
            exact = λ n h. sym (rw (step n h, next-space s p f, ← r.exact (n - 1) (omega (arith, in-text s p f (omega arith)))));
            within = (omega arith, omega arith);
          }
