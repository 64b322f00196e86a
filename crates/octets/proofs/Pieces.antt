-- A piece of a text with nothing in it, and a table, one word at a time. Assumes nothing.
use mathlib.Core.Path.{◌≡◌, refl}
use mathlib.Core.List.{List, [], ◌∷◌, map}
use mathlib.Core.Bool.{Bool, true, false, cond, ◌||◌}
use Prim.Native.Nat.{ℕ, ◌+◌, ◌-◌, ◌≤◌}
use native.Mathlib.Omega.{arith}
use Rattle.std.specs.Prelude.{Option, Some}
use Rattle.std.specs.Borrow.{Bor}
use Rattle.std.specs.List.{position_from}
use Rattle.std.specs.Option.{is_some}
use Rattle.model.specs.Lists.{anyb}
use Rattle.model.specs.Text.{same_word}
use Rattle.model.specs.Reading.{piece}

-- nothing is left of it
pub piece_over : (s : List ℕ) (p q : ℕ) → q ≤ p → piece s p q ≡ []
piece_over s p q h = let e : q - p ≡ 0 = omega arith in rw e

-- the place among references is that among the words
pub place_referred : (w : List ℕ) (k : ℕ) (ts : List (Bor (List ℕ))) → position_from (λ t. same_word w t.now) k ts ≡ position_from (same_word w) k (map (λ t. t.now) ts)
place_referred w k [] = refl
place_referred w k (t ∷ ts) = go (same_word w t.now) (place_referred w (k + 1) ts)
  where
    go : {p q : Option ℕ} (b : Bool) → p ≡ q → cond b (Some k) p ≡ cond b (Some k) q
    go true e = refl
    go false e = e

-- a word that has a place is one of them
pub any_place : (w : List ℕ) (k : ℕ) (ts : List (List ℕ)) → is_some (position_from (same_word w) k ts) ≡ anyb (same_word w) ts
any_place w k [] = refl
any_place w k (t ∷ ts) = go (same_word w t) (any_place w (k + 1) ts)
  where
    go : (b : Bool) → is_some (position_from (same_word w) (k + 1) ts) ≡ anyb (same_word w) ts → is_some (cond b (Some k) (position_from (same_word w) (k + 1) ts)) ≡ (b || anyb (same_word w) ts)
    go true e = refl
    go false e = e
