-- The parts of a date. Assumes nothing.
use mathlib.Core.Path.{◌≡◌, refl}
use mathlib.Core.List.{List, [], ◌∷◌, map}
use mathlib.Core.Bool.{false}
use Prim.Native.Nat.{ℕ, ◌+◌, ◌<◌}
use native.Mathlib.Omega.{arith}
use lib.ListN.{length, get_or, length-map, length-take, length-drop}
use borrow.Author.Tests.{eq-eqb, ne_eqb}
use Rattle.model.specs.Lists.{same}
use Rattle.model.specs.Text.{upper}
use Rattle.model.specs.Laws.{same_lengths}
use Rattle.model.specs.Reading.{piece, digits_at, month_at, bare_date_at, date_at}
use Rattle.octets.specs.Found.{next_of}
use Rattle.std.specs.Prelude.{Option, Some, None}
use Rattle.octets.proofs.Chains.{then-bad, then_ok, after_none, after_some}

-- a shorter text is no word of three letters, and so no month
module _ (w : List ℕ) (h : length w < 3) (x y z : ℕ) where
  short : same (map upper w) (x ∷ y ∷ z ∷ []) ≡ false
  short = same_lengths (map upper w) (x ∷ y ∷ z ∷ []) (λ e. omega (arith, length-map w upper))

pub month_short : (s : List ℕ) (at : ℕ) → length s < at + 3 → None ≡ next_of (month_at s at)
month_short s at h = simp (short (piece s at (at + 3)) (simp (length-take, length-drop) (omega arith)))

-- a date, part by part
module _ (s : List ℕ) (at : ℕ) where
  pub date_no_day : None ≡ next_of (digits_at 1 2 s at) → None ≡ next_of (bare_date_at s at)
  date_no_day e = then-bad (digits_at 1 2 s at) _ e

  module _ (q : ℕ) (day : Some q ≡ next_of (digits_at 1 2 s at)) where
    pub date_no_dash : (get_or s q 0 ≡ 45 → ⊥) → None ≡ next_of (bare_date_at s at)
    date_no_dash n = then_ok (digits_at 1 2 s at) _ q None day (λ a. after_none s q "-" _ n)

    module _ (dash : get_or s q 0 ≡ 45) where
      pub date_no_month : None ≡ next_of (month_at s (q + 1)) → None ≡ next_of (bare_date_at s at)
      date_no_month e = then_ok (digits_at 1 2 s at) _ q None day (λ a. after_some s q "-" _ None dash (then-bad (month_at s (q + 1)) _ e))

      module _ (r : ℕ) (month : Some r ≡ next_of (month_at s (q + 1))) where
        pub date_no-second : (get_or s r 0 ≡ 45 → ⊥) → None ≡ next_of (bare_date_at s at)
        date_no-second n =
            then_ok (digits_at 1 2 s at) _ q None day λ a. after_some s q "-" _ None dash
            (then_ok (month_at s (q + 1)) _ r None month λ b. after_none s r "-" _ n)

        pub date_year : (x : Option ℕ) → get_or s r 0 ≡ 45 → x ≡ next_of (digits_at 4 4 s (r + 1)) → x ≡ next_of (bare_date_at s at)
        date_year x e y =
            then_ok (digits_at 1 2 s at) _ q x day λ a. after_some s q "-" _ x dash
            (then_ok (month_at s (q + 1)) _ r x month λ b. after_some s r "-" _ x e y)

  pub date_bare : (x : Option ℕ) → (get_or s at 0 ≡ 34 → ⊥) → x ≡ next_of (bare_date_at s at) → x ≡ next_of (date_at s at)
  unfolding date_at
  date_bare x n e = rw (ne_eqb (get_or s at 0) 34 n) e

  module _ (quote : get_or s at 0 ≡ 34) where
    pub date_no_date : None ≡ next_of (bare_date_at s (at + 1)) → None ≡ next_of (date_at s at)
    unfolding date_at
    date_no_date e = rw (eq-eqb (get_or s at 0) 34 quote) (then-bad (bare_date_at s (at + 1)) _ e)

    module _ (q : ℕ) (date : Some q ≡ next_of (bare_date_at s (at + 1))) where
      pub date_no_quote : (get_or s q 0 ≡ 34 → ⊥) → None ≡ next_of (date_at s at)
      unfolding date_at
      date_no_quote n = rw (eq-eqb (get_or s at 0) 34 quote) (then_ok (bare_date_at s (at + 1)) _ q None date (λ a. after_none s q "\"" _ n))

      pub date-quoted : get_or s q 0 ≡ 34 → Some (q + 1) ≡ next_of (date_at s at)
      unfolding date_at
      date-quoted e =
          rw (eq-eqb (get_or s at 0) 34 quote)
          (then_ok (bare_date_at s (at + 1)) _ q (Some (q + 1)) date (λ a. after_some s q "\"" _ (Some (q + 1)) e refl))
