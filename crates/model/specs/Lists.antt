-- Tests on lists and lists of tests: the few list functions that the rules are written with.
use Rattle.std.specs.Prelude.{List, [], ◌∷◌, ◌++◌, Bool, true, false, not, cond, ◌&&◌, ◌||◌, ℕ, eqb}

module _ {A : Type 0} where
  -- x before xs, where the test says so
  abbrev pub keep : Bool → A → List A → List A
  keep true x xs = x ∷ xs
  keep false x xs = xs

  -- those that pass a test, in their order
  abbrev pub filterb : (A → Bool) → List A → List A
  filterb p [] = []
  filterb p (x ∷ xs) = keep (p x) x (filterb p xs)

  -- one passes, and all pass
  abbrev pub anyb : (A → Bool) → List A → Bool
  anyb p [] = false
  anyb p (x ∷ xs) = p x || anyb p xs

  abbrev pub allb : (A → Bool) → List A → Bool
  allb p [] = true
  allb p (x ∷ xs) = p x && allb p xs

  -- the last of a list, or d
  abbrev pub last_or : A → List A → A
  last_or d [] = d
  last_or d (x ∷ xs) = last_or x xs

  -- nothing, or one
  abbrev pub when : Bool → A → List A
  when true x = x ∷ []
  when false x = []

-- each is put for one or for several
module _ {A B : Type 0} where
  abbrev pub concat_map : (A → List B) → List A → List B
  concat_map f [] = []
  concat_map f (x ∷ xs) = f x ++ concat_map f xs

-- a list in an order: what is put in stands before the first that it comes before
module _ {A : Type 0} (before : A → A → Bool) where
  abbrev pub insert : A → List A → List A
  insert x [] = x ∷ []
  insert x (y ∷ l) = let rest = insert x l in cond (before x y) (x ∷ y ∷ l) (y ∷ rest)

  abbrev pub sorted : List A → List A
  sorted [] = []
  sorted (x ∷ l) = insert x (sorted l)

-- no two of a list are alike
module _ {A : Type 0} (like : A → A → Bool) where
  abbrev pub apart : List A → Bool
  apart [] = true
  apart (x ∷ l) = not (anyb (λ (y : A). like x y) l) && apart l

-- a list of conditions: all hold
abbrev pub every : List Bool → Bool
every [] = true
every (b ∷ bs) = b && every bs

-- two texts are the same
unfoldable pub same : List ℕ → List ℕ → Bool
same [] [] = true
same [] (y ∷ ys) = false
same (x ∷ xs) [] = false
same (x ∷ xs) (y ∷ ys) = let rest = same xs ys in cond (eqb x y) rest false
