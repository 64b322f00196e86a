-- Stores in a list one after the other, from a place on. Assumes nothing.
use Rattle.std.specs.Prelude.{◌≡◌, List, [], ◌∷◌, ◌++◌, ℕ, zero, suc, ◌+◌, ◌-◌, ◌≤◌, length, set, drop, replicate}
use Rattle.std.proofs.Common.{ap, ◌∙◌, add-zero, add-suc, suc-add, arith}
use Rattle.std.proofs.Math.Nat.{sub-zero}
use Rattle.std.proofs.lemmas.List.Edits.{sets, sets-eq}
use Rattle.model.specs.Listing.{filled_up}

module _ {A : Type 0} where
  pub sets-append : (b : List A) (n : ℕ) (xs ys : List A) → sets b n (xs ++ ys) ≡ sets (sets b n xs) (n + length xs) ys
  sets-append b n [] ys = rw (add-zero n)
  sets-append b n (x ∷ xs) ys = sets-append (set b n x) (suc n) xs ys ∙ rw (add-suc n (length xs), suc-add n (length xs))

  as_many : (m n : ℕ) (a : A) → m ≡ n → replicate m a ≡ replicate n a
  as_many m n a e = ap (λ (k : ℕ). replicate k a) e

  drop-replicate : (n m : ℕ) (a : A) → drop n (replicate m a) ≡ replicate (m - n) a
  drop-replicate zero m a = rw (sub-zero m)
  drop-replicate (suc n) zero a = as_many 0 (0 - suc n) a (omega arith)
  drop-replicate (suc n) (suc m) a = drop-replicate n m a ∙ as_many (m - n) (suc m - suc n) a (omega arith)

  -- the front of so many blanks is overwritten
  pub fill : (n : ℕ) (a : A) (l : List A) → length l ≤ length (replicate n a) → sets (replicate n a) 0 l ≡ filled_up n a l
  fill n a l h =
      sets-eq l (replicate n a) 0 (omega arith)
      ∙ ap (λ (r : List A). l ++ r) (drop-replicate (0 + length l) n a ∙ as_many (n - (0 + length l)) (n - length l) a (omega arith))
