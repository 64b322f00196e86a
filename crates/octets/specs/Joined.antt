-- Things with a space between them, up to the parenthesis that closes them, each joined to those behind it. Assumes nothing.
use Rattle.std.specs.Prelude.{◌≡◌, cond, true, false, Option, Some, None, List, [], ◌∷◌, ℕ, zero, suc, ◌+◌, ◌-◌, ◌≤◌, ◌<◌, length, ltb, refl}
use Rattle.std.proofs.Common.{arith, lt-ltb}
use Rattle.model.specs.Reading.{Parsed, bad, ok, and_then, Next, another, over, neither, row_by, row_at, closing, next_at, stands, after_by, list_at}

-- what was read and the position behind it
abbrev pub read_by : {A B : Type 0} → (A → B) → Parsed A → Option (B × ℕ)
read_by f bad = None
read_by f (ok p a) = Some (f a, p)

-- the position behind what was read stands in the text, behind its beginning
abbrev pub Behind : {A : Type 0} → List ℕ → ℕ → Option (A × ℕ) → Type 0
Behind s at (Some (a, p)) = (at < p) × (p ≤ length s)
Behind s at None = Unit {0}

-- r is the answer x of the definitions
pub record ReadsOne {A : Type 0} (s : List ℕ) (at : ℕ) (x r : Option (A × ℕ)) : Type 0 where
  pub exact : r ≡ x
  pub within : Behind s at r

-- ---- a row
abbrev pub join_to : {A : Type 0} → (A → A → A) → A → Option (A × ℕ) → Option (A × ℕ)
join_to join a (Some (b, p)) = Some (join a b, p)
join_to join a None = None

abbrev pub joined_by : {A : Type 0} → (A → A → A) → (ℕ → Option (A × ℕ)) → A → Next → Option (A × ℕ)
joined_by join row a (another p) = join_to join a (row p)
joined_by join row a (over p) = Some (a, p)
joined_by join row a neither = None

abbrev pub joined_then : {A : Type 0} → (A → A → A) → (ℕ → Option (A × ℕ)) → (ℕ → Next) → Option (A × ℕ) → Option (A × ℕ)
joined_then join row next (Some (a, p)) = joined_by join row a (next p)
joined_then join row next None = None

-- one thing or more, at most n
unfoldable pub joined : {A : Type 0} → ℕ → (ℕ → Option (A × ℕ)) → (A → A → A) → (ℕ → Next) → ℕ → Option (A × ℕ)
joined zero item join next p = None
joined (suc n) item join next p = joined_then join (joined n item join next) next (item p)

-- r is a row of things, read with any fuel that is enough
pub record ReadsJoined {A : Type 0} (s : List ℕ) (item : ℕ → Option (A × ℕ)) (join : A → A → A) (at : ℕ) (r : Option (A × ℕ)) : Type 0 where
  pub exact : (n : ℕ) → length s - at ≤ n → r ≡ joined n item join (next_at closing s) at
  pub within : Behind s at r

-- the same in parentheses
abbrev pub list_joined : {A : Type 0} → (ℕ → Option (A × ℕ)) → (A → A → A) → List ℕ → ℕ → Option (A × ℕ)
list_joined item join s p = cond (stands s p "(") (joined (length s) item join (next_at closing s) (p + 1)) None

-- where joining gathers what a list has, it gathers the row that the definitions read
module _ {A B : Type 0} (one : A → B) (all : List A → B) (join : B → B → B) where
  module _ (alone : (a : A) → one a ≡ all (a ∷ [])) (more : (a : A) (l : List A) → join (one a) (all l) ≡ all (a ∷ l)) where
    joined_more : (a : A) (x : Parsed (List A)) → join_to join (one a) (read_by all x) ≡ read_by all (and_then x λ q l. ok q (a ∷ l))
    joined_more a bad = refl
    joined_more a (ok p l) = rw (more a l)

    module _ (item : ℕ → Parsed A) (next : ℕ → Next) where
      joined_next : (n : ℕ) (a : A) → ((p : ℕ) → joined n (λ q. read_by one (item q)) join next p ≡ read_by all (row_at n item next p)) → (m : Next) → joined_by join (joined n (λ q. read_by one (item q)) join next) (one a) m ≡ read_by all (row_by m (λ p. row_at n item next p) a)
      joined_next n a f (another p) = rw (f p) (joined_more a (row_at n item next p))
      joined_next n a f (over p) = rw (alone a)
      joined_next n a f neither = refl

      joined_item : (n : ℕ) → ((p : ℕ) → joined n (λ q. read_by one (item q)) join next p ≡ read_by all (row_at n item next p)) → (x : Parsed A) → joined_then join (joined n (λ q. read_by one (item q)) join next) next (read_by one x) ≡ read_by all (and_then x λ q a. row_by (next q) (λ p. row_at n item next p) a)
      joined_item n f bad = refl
      joined_item n f (ok p a) = joined_next n a f (next p)

      pub joined_row : (n p : ℕ) → joined n (λ q. read_by one (item q)) join next p ≡ read_by all (row_at n item next p)
      unfolding joined row_at
      joined_row zero p = refl
      joined_row (suc n) p = joined_item n (λ q. joined_row n q) (item p)

    pub joined_list : (item : ℕ → Parsed A) (s : List ℕ) (p : ℕ) → list_joined (λ q. read_by one (item q)) join s p ≡ read_by all (list_at item s p)
    joined_list item s p = elim (stands s p "(") as (λ b. cond b (joined (length s) (λ q. read_by one (item q)) join (next_at closing s) (p + 1)) None ≡ read_by all (after_by b (p + 1) (λ q. row_at (length s) item (next_at closing s) q))) [ true ↦ joined_row item (next_at closing s) (length s) (p + 1) | false ↦ refl ]

-- ---- a row that was read is not empty
abbrev pub Full : {A : Type 0} → Parsed (List A) → Type 0
Full bad = Unit {0}
Full (ok p l) = ltb 0 (length l) ≡ true

module _ {A : Type 0} (item : ℕ → Parsed A) (next : ℕ → Next) where
  full-more : (a : A) (x : Parsed (List A)) → Full (and_then x (λ p l. ok p (a ∷ l)))
  full-more a bad = tt
  full-more a (ok p l) = lt-ltb 0 (suc (length l)) (omega arith)

  full_next : (n : ℕ) (a : A) (x : Next) → Full (row_by x (λ r. row_at n item next r) a)
  full_next n a (another r) = full-more a (row_at n item next r)
  full_next n a (over r) = lt-ltb 0 1 (omega arith)
  full_next n a neither = tt

  full_item : (n : ℕ) (x : Parsed A) → Full (and_then x (λ q a. row_by (next q) (λ r. row_at n item next r) a))
  full_item n bad = tt
  full_item n (ok q a) = full_next n a (next q)

  pub full_row : (n p : ℕ) → Full (row_at n item next p)
  unfolding row_at
  full_row zero p = tt
  full_row (suc n) p = full_item n (item p)

pub full_list : {A : Type 0} (item : ℕ → Parsed A) (s : List ℕ) (p : ℕ) → Full (list_at item s p)
full_list item s p = elim (stands s p "(") as (λ b. Full (after_by b (p + 1) (λ q. row_at (length s) item (next_at closing s) q))) [ true ↦ full_row item (next_at closing s) (length s) (p + 1) | false ↦ tt ]
