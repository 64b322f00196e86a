-- The number that digits write, one digit at a time. Assumes nothing.
use mathlib.Core.Path.{◌≡◌}
use mathlib.Core.List.{List, [], ◌∷◌}
use Prim.Native.Nat.{ℕ, ◌+◌, ◌-◌, ◌*◌, ◌≤◌, ◌<◌}
use native.Mathlib.Omega.{arith}
use lib.ListN.{length, get_or, drop, drop_of_length-le}
use lib.Seq.{drop-cons}
use native.Mathlib.Numerals.{add-one}
use borrow.Author.Tests.{lt-ltb, le-ltb, le-leb, lt-leb}
use Rattle.model.specs.Octets.{digit}
use Rattle.model.specs.Reading.{piece, end_of, value_from, number_at}
use Rattle.octets.specs.Numerals.{number_read}
use Rattle.std.specs.Prelude.{Some, None}

-- more digits make no number less
value_least : (v : ℕ) (l : List ℕ) → v ≤ value_from v l
unfolding value_from
value_least v [] = omega arith
value_least v (d ∷ ds) = omega (arith, value_least (v * 10 + (d - 48)) ds)

module _ (ds : List ℕ) (i v : ℕ) where
  pub value_done : length ds ≤ i → value_from v (drop i ds) ≡ v
  unfolding value_from
  value_done h = rw (drop_of_length-le ds h)

  pub value-step : i < length ds → value_from v (drop i ds) ≡ value_from (v * 10 + (get_or ds i 0 - 48)) (drop (i + 1) ds)
  unfolding value_from
  value-step h = rw (add-one, drop-cons ds i 0 h)

-- the answer, by the end of the digits
module _ (s : List ℕ) (at end : ℕ) (e : end ≡ end_of digit s at) where
  pub number_none : end ≤ at → None ≡ number_read (number_at s at)
  unfolding number_at
  number_none h = rw (← e, le-ltb _ _ h)

  pub number_is : (v : ℕ) → at < end → value_from 0 (piece s at end) ≡ v → v ≤ 4294967295 → Some (v, end) ≡ number_read (number_at s at)
  unfolding number_at
  number_is v h w l = rw (← e, lt-ltb _ _ h, w, le-leb _ _ l)

  pub number_large : (v : ℕ) (ds : List ℕ) → at < end → value_from 0 (piece s at end) ≡ value_from v ds → 4294967295 < v → None ≡ number_read (number_at s at)
  unfolding number_at
  number_large v ds h w l = let m : 4294967295 < value_from v ds = omega (arith, value_least v ds) in rw (← e, lt-ltb _ _ h, w, lt-leb _ _ m)
