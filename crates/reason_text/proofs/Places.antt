-- The number of a place, one digit at a time, up to the top of u64. Assumes nothing.
use mathlib.Core.Path.{◌≡◌, refl}
use mathlib.Core.Bool.{Bool, true, false, not, cond, ◌&&◌}
use mathlib.Core.List.{List, [], ◌∷◌}
use Prim.Native.Nat.{ℕ, suc, ◌+◌, ◌-◌, ◌*◌, ◌≤◌, ◌<◌, min}
use native.Mathlib.Numerals.{add-one}
use native.Mathlib.Omega.{arith}
use lib.Dec.{eqb, leb}
use lib.ListN.{length, get_or, drop, drop_of_length-le}
use lib.Seq.{drop-cons}
use borrow.Author.Tests.{ne_eqb, leb-true, leb-false}
use Rattle.model.specs.Lists.{allb}
use Rattle.model.specs.Octets.{digit}
use Rattle.model.specs.Reading.{value_from}
use Rattle.model.specs.Reasons.{place_of}

-- ---- a text of digits
place_by : (b a : Bool) (n : ℕ) → a ≡ false → cond (b && a) n 0 ≡ 0
place_by true a n e = rw e
place_by false a n e = refl

pub place_none : (s : List ℕ) → allb digit s ≡ false → place_of s ≡ 0
place_none s h = place_by (not (eqb (length s) 0)) (allb digit s) (value_from 0 s) h

pub place_some : (s : List ℕ) → allb digit s ≡ true → place_of s ≡ value_from 0 s
unfolding value_from
place_some [] h = refl
place_some (x ∷ s) h = rw (ne_eqb (length (x ∷ s)) 0 (λ e. omega arith), h)

-- ---- its number
abbrev pub top : ℕ
top = 18446744073709551615

-- more digits make no number less
value_least : (v : ℕ) (l : List ℕ) → v ≤ value_from v l
unfolding value_from
value_least v [] = omega arith
value_least v (d ∷ ds) = omega (arith, value_least (v * 10 + (d - 48)) ds)

-- above the top it does not count how far
capped_at : (b : Bool) (v : ℕ) (l : List ℕ) → leb v top ≡ b → min (value_from v l) top ≡ min (value_from (min v top) l) top
capped_at true v l e = let h = leb-true v top e in let k : min v top ≡ v = omega arith in rw k
capped_at false v l e = let h = leb-false v top e in omega (arith, value_least v l, value_least (min v top) l)

module _ (s : List ℕ) (i v : ℕ) where
  pub value_next : i < length s → min (value_from v (drop i s)) top ≡ min (value_from (min (v * 10 + (get_or s i 0 - 48)) top) (drop (i + 1) s)) top
  unfolding value_from
  value_next h =
      let more = v * 10 + (get_or s i 0 - 48) in
      rw (drop-cons s i 0 h, add-one i) (capped_at (leb more top) more (drop (suc i) s) refl)

  pub value_end : length s ≤ i → value_from v (drop i s) ≡ v
  unfolding value_from
  value_end h = rw (drop_of_length-le s h)
