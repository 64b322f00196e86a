-- The library's words for what a chain of an iterator answers, and `==` on texts, are those of the rules. Assumes nothing.
-- `xs.iter().any(f)`: `any_from_yields_List test _ _ c.any.result c.any.ensures.ran (YieldsList-from_slice c.args.xs.now cc) (λ x b q k. search (rules, tests)) ∙ anyb_is_any test _`
use Rattle.std.specs.Prelude.{◌≡◌, refl, List, [], ◌∷◌, Bool, true, false, ◌||◌, ◌&&◌, ℕ, cond, eqb}
use Rattle.std.proofs.Common.{ap}
use Rattle.std.specs.List.{list_any, list_all}
use lib.Pointwise.{pointwise}
use Rattle.model.specs.Lists.{anyb, allb, same}

pub anyb_is_any : {A : Type 0} (p : A → Bool) (xs : List A) → list_any p xs ≡ anyb p xs
anyb_is_any p [] = refl
anyb_is_any p (x ∷ xs) = ap (λ b. p x || b) (anyb_is_any p xs)

pub allb_is_all : {A : Type 0} (p : A → Bool) (xs : List A) → list_all p xs ≡ allb p xs
allb_is_all p [] = refl
allb_is_all p (x ∷ xs) = ap (λ b. p x && b) (allb_is_all p xs)

-- `==` on texts
pub same_is_eq : (xs ys : List ℕ) → pointwise eqb xs ys ≡ same xs ys
unfolding same
same_is_eq [] [] = refl
same_is_eq [] (y ∷ ys) = refl
same_is_eq (x ∷ xs) [] = refl
same_is_eq (x ∷ xs) (y ∷ ys) = go (eqb x y) (same_is_eq xs ys)
  where
    go : (b : Bool) → pointwise eqb xs ys ≡ same xs ys → (b && pointwise eqb xs ys) ≡ cond b (same xs ys) false
    go true e = e
    go false e = refl
