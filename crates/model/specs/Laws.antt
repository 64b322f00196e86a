-- Laws of the tests and list functions of Lists, and of a name's last slash. Assumes nothing.
use Rattle.std.specs.Prelude.{◌≡◌, refl, List, [], ◌∷◌, ◌++◌, map, Bool, true, false, not, cond, ◌&&◌, ◌||◌, ℕ, zero, suc, ◌+◌, ◌≤◌, ◌<◌, eqb, length, take, drop}
use Rattle.std.proofs.Common.{◌∙◌, sym, ap, ap₂, arith, take_all}
use Rattle.std.proofs.lemmas.List.{length-map}
use Rattle.std.proofs.Math.Seq.{take-nil}
use Rattle.model.specs.Lists.{keep, filterb, anyb, allb, every, same, sorted, insert, concat_map}
use Rattle.model.specs.Names.{Name, before_slash}

-- ---- tests
pub tf : {A : Type 0} (b : Bool) → b ≡ true → b ≡ false → A
tf {A} b p q = let z : ◌≡◌ {A = ℕ} 0 1 = cc in absurd (let n : ⊥ = omega arith in n)

pub or_l : (a b : Bool) → (a || b) ≡ false → a ≡ false
or_l true b e = e
or_l false b e = refl

pub or_r : (a b : Bool) → (a || b) ≡ false → b ≡ false
or_r true b e = tf true refl e
or_r false b e = e

pub or_true : (a : Bool) → (a || true) ≡ true
or_true true = refl
or_true false = refl

pub or-false : (a : Bool) → (a || false) ≡ a
or-false true = refl
or-false false = refl

pub and_l : (a b : Bool) → (a && b) ≡ true → a ≡ true
and_l true b e = refl
and_l false b e = tf false e refl

pub and_r : (a b : Bool) → (a && b) ≡ true → b ≡ true
and_r true b e = e
and_r false b e = tf false e refl

pub and-true : (a : Bool) → (a && true) ≡ a
and-true true = refl
and-true false = refl

pub and_false : (a : Bool) → (a && false) ≡ false
and_false true = refl
and_false false = refl

pub or_assoc : (a b c : Bool) → (a || (b || c)) ≡ ((a || b) || c)
or_assoc true b c = refl
or_assoc false b c = refl

pub cond_same : {A : Type 0} (b : Bool) (x : A) → cond b x x ≡ x
cond_same true x = refl
cond_same false x = refl

-- ---- a list of conditions as facts, one for each
abbrev pub Each : List Bool → Type 0
Each [] = Unit
Each (b ∷ bs) = (b ≡ true) × Each bs

pub each : (bs : List Bool) → every bs ≡ true → Each bs
each [] e = tt
each (b ∷ bs) e = (and_l b (every bs) e, each bs (and_r b (every bs) e))

pub all_hold : (bs : List Bool) → Each bs → every bs ≡ true
all_hold [] e = refl
all_hold (b ∷ bs) e = rw e.0 (all_hold bs e.1)

-- ---- lists of octets that are the same
pub same_lengths : (a b : List ℕ) → (length a ≡ length b → ⊥) → same a b ≡ false
unfolding same
same_lengths [] [] h = absurd (h refl)
same_lengths [] (y ∷ b) h = refl
same_lengths (x ∷ a) [] h = refl
same_lengths (x ∷ a) (y ∷ b) h = go (eqb x y) (same_lengths a b (λ e. h (ap suc e)))
  where
    go : (c : Bool) → same a b ≡ false → cond c (same a b) false ≡ false
    go true ih = ih
    go false ih = refl

-- ---- parts and maps of a list
module _ {A : Type 0} where
  -- a list of k is the same up to any number above k
  pub take_within : (n k : ℕ) (l : List A) → length l ≡ k → k < n → take k l ≡ take n l
  take_within n k l e h = take_all k l (omega arith) ∙ sym (take_all n l (omega arith))

  -- c behind the first f are the first f + c without the first f
  pub take-drop : (f c : ℕ) (l : List A) → take c (drop f l) ≡ drop f (take (f + c) l)
  take-drop zero c l = let e : 0 + c ≡ c = omega arith in rw e
  take-drop (suc f) c [] = take-nil c ∙ sym (ap (λ (l : List A). drop (suc f) l) (take-nil (suc f + c)))
  take-drop (suc f) c (x ∷ l) = let e : suc f + c ≡ suc (f + c) = omega arith in rw e (take-drop f c l)

module _ {A B : Type 0} where
  pub map-append : (f : A → B) (l r : List A) → map f (l ++ r) ≡ map f l ++ map f r
  map-append f [] r = refl
  map-append f (x ∷ l) r = ap (λ t. f x ∷ t) (map-append f l r)

  pub mapped : (f : A → B) (l : List A) {n : ℕ} → length (map f l) ≡ n → length l ≡ n
  mapped f l e = rw length-map at e

-- ---- filters
module _ {A : Type 0} where
  -- those that neither of two tests takes out
  pub filter_twice : (p q : A → Bool) (l : List A) → filterb (λ (x : A). not (q x)) (filterb (λ (x : A). not (p x)) l) ≡ filterb (λ (x : A). not (p x || q x)) l
  filter_twice p q [] = refl
  filter_twice p q (x ∷ l) = go (p x) (filter_twice p q l)
    where
      go : (b : Bool) → filterb (λ (x : A). not (q x)) (filterb (λ (x : A). not (p x)) l) ≡ filterb (λ (x : A). not (p x || q x)) l
          → filterb (λ (x : A). not (q x)) (keep (not b) x (filterb (λ (x : A). not (p x)) l)) ≡ keep (not (b || q x)) x (filterb (λ (x : A). not (p x || q x)) l)
      go true ih = ih
      go false ih = ap (keep (not (q x)) x) ih

  pub filter-append : (p : A → Bool) (l r : List A) → filterb p (l ++ r) ≡ filterb p l ++ filterb p r
  filter-append p [] r = refl
  filter-append p (x ∷ l) r = go (p x) (filter-append p l r)
    where
      go : (b : Bool) → filterb p (l ++ r) ≡ filterb p l ++ filterb p r → keep b x (filterb p (l ++ r)) ≡ keep b x (filterb p l) ++ filterb p r
      go true ih = ap (λ t. x ∷ t) ih
      go false ih = ih

  pub filter-length : (p : A → Bool) (l : List A) → length (filterb p l) ≤ length l
  filter-length p [] = omega arith
  filter-length p (x ∷ l) = go (p x) (filter-length p l)
    where
      go : (b : Bool) → length (filterb p l) ≤ length l → length (keep b x (filterb p l)) ≤ suc (length l)
      go true ih = omega arith
      go false ih = omega arith

  -- two filters in either order
  pub filter_swap : (p q : A → Bool) (l : List A) → filterb p (filterb q l) ≡ filterb q (filterb p l)
  filter_swap p q [] = refl
  filter_swap p q (x ∷ l) = go (p x) refl (q x) refl (filter_swap p q l)
    where
      go : (b : Bool) → p x ≡ b → (c : Bool) → q x ≡ c → filterb p (filterb q l) ≡ filterb q (filterb p l) → filterb p (keep (q x) x (filterb q l)) ≡ filterb q (keep (p x) x (filterb p l))
      go true f true g ih = rw (f, g, f) (ap (λ t. x ∷ t) ih)
      go true f false g ih = rw (g, f, g) ih
      go false f true g ih = rw (g, f) ih
      go false f false g ih = rw (g, f) ih

  -- a filter that lets pass whatever the second does
  pub filter-filter : (p q : A → Bool) (l : List A) → ((x : A) → p x ≡ true → q x ≡ true) → filterb p (filterb q l) ≡ filterb p l
  filter-filter p q [] h = refl
  filter-filter p q (x ∷ l) h = go (q x) refl (p x) refl (filter-filter p q l h)
    where
      go : (c : Bool) → q x ≡ c → (b : Bool) → p x ≡ b → filterb p (filterb q l) ≡ filterb p l → filterb p (keep (q x) x (filterb q l)) ≡ keep (p x) x (filterb p l)
      go true g b f ih = rw (g, ih)
      go false g true f ih = tf (q x) (h x f) g
      go false g false f ih = rw (g, f) ih

  -- the same where it is so for those in the list
  pub filter-within : (p q : A → Bool) (l : List A) → allb (λ (x : A). not (p x) || q x) l ≡ true → filterb p (filterb q l) ≡ filterb p l
  filter-within p q [] h = refl
  filter-within p q (x ∷ l) h = go (q x) refl (p x) refl (and_l (not (p x) || q x) _ h) (filter-within p q l (and_r (not (p x) || q x) _ h))
    where
      go : (c : Bool) → q x ≡ c → (b : Bool) → p x ≡ b → (not (p x) || q x) ≡ true → filterb p (filterb q l) ≡ filterb p l → filterb p (keep (q x) x (filterb q l)) ≡ keep (p x) x (filterb p l)
      go true g b f k ih = rw (g, ih)
      go false g true f k ih = tf false (rw (f, g) at k) refl
      go false g false f k ih = rw (g, f) ih

  pub filter_none : (p : A → Bool) (l : List A) → allb (λ (x : A). not (p x)) l ≡ true → filterb p l ≡ []
  filter_none p [] h = refl
  filter_none p (x ∷ l) h = go (p x) refl (and_l (not (p x)) _ h) (filter_none p l (and_r (not (p x)) _ h))
    where
      go : (b : Bool) → p x ≡ b → not (p x) ≡ true → filterb p l ≡ [] → keep (p x) x (filterb p l) ≡ []
      go true f k ih = tf false (rw f at k) refl
      go false f k ih = rw f ih

  pub filter-every : (p : A → Bool) (l : List A) → allb p l ≡ true → filterb p l ≡ l
  filter-every p [] h = refl
  filter-every p (x ∷ l) h = rw (and_l (p x) _ h) (ap (λ t. x ∷ t) (filter-every p l (and_r (p x) _ h)))

  pub any-filter : (p q : A → Bool) (l : List A) → ((x : A) → p x ≡ true → q x ≡ true) → anyb p (filterb q l) ≡ anyb p l
  any-filter p q [] h = refl
  any-filter p q (x ∷ l) h = go (q x) refl (p x) refl (any-filter p q l h)
    where
      go : (c : Bool) → q x ≡ c → (b : Bool) → p x ≡ b → anyb p (filterb q l) ≡ anyb p l → anyb p (keep (q x) x (filterb q l)) ≡ p x || anyb p l
      go true g b f ih = rw (g, ih)
      go false g true f ih = tf (q x) (h x f) g
      go false g false f ih = rw (g, f) ih

  -- fewer have none that pass
  pub any_fewer : (p q : A → Bool) (l : List A) → anyb p l ≡ false → anyb p (filterb q l) ≡ false
  any_fewer p q [] h = refl
  any_fewer p q (x ∷ l) h = go (q x) (or_l (p x) _ h) (any_fewer p q l (or_r (p x) _ h))
    where
      go : (c : Bool) → p x ≡ false → anyb p (filterb q l) ≡ false → anyb p (keep c x (filterb q l)) ≡ false
      go true f ih = rw (f, ih)
      go false f ih = ih

  pub any_snoc : (p : A → Bool) (l : List A) (x : A) → anyb p (l ++ (x ∷ [])) ≡ anyb p l || p x
  any_snoc p [] x = or-false (p x)
  any_snoc p (y ∷ l) x = go (p y) (any_snoc p l x)
    where
      go : (b : Bool) → anyb p (l ++ (x ∷ [])) ≡ anyb p l || p x → (b || anyb p (l ++ (x ∷ []))) ≡ (b || anyb p l) || p x
      go true ih = refl
      go false ih = ih

-- ---- maps that keep what a filter looks at
module _ {A : Type 0} (f : A → A) (p : A → Bool) (h : (x : A) → p (f x) ≡ p x) where
  pub filter_map : (l : List A) → filterb p (map f l) ≡ map f (filterb p l)
  filter_map [] = refl
  filter_map (x ∷ l) = rw (h x) (go (p x) (filter_map l))
    where
      go : (b : Bool) → filterb p (map f l) ≡ map f (filterb p l) → keep b (f x) (filterb p (map f l)) ≡ map f (keep b x (filterb p l))
      go true ih = ap (λ t. f x ∷ t) ih
      go false ih = ih

-- a map that changes none of those that pass
module _ {A : Type 0} (f : A → A) (p : A → Bool) (h : (x : A) → p (f x) ≡ p x) (k : (x : A) → p x ≡ true → f x ≡ x) where
  pub filter-map_same : (l : List A) → filterb p (map f l) ≡ filterb p l
  filter-map_same [] = refl
  filter-map_same (x ∷ l) = rw (h x) (go (p x) refl (filter-map_same l))
    where
      go : (b : Bool) → p x ≡ b → filterb p (map f l) ≡ filterb p l → keep b (f x) (filterb p (map f l)) ≡ keep b x (filterb p l)
      go true e ih = rw (k x e, ih)
      go false e ih = ih

-- a map that changes none of a list
module _ {A : Type 0} (f : A → A) (p : A → Bool) (k : (x : A) → p x ≡ true → f x ≡ x) where
  pub map_none : (l : List A) → allb p l ≡ true → map f l ≡ l
  map_none [] h = refl
  map_none (x ∷ l) h = ap₂ ◌∷◌ (k x (and_l (p x) _ h)) (map_none l (and_r (p x) _ h))

-- ---- orders
module _ {A : Type 0} (before : A → A → Bool) where
  pub insert-length : (x : A) (l : List A) → length (insert before x l) ≡ suc (length l)
  insert-length x [] = refl
  insert-length x (y ∷ l) = go (before x y) (insert-length x l)
    where
      go : (b : Bool) → length (insert before x l) ≡ suc (length l) → length (cond b (x ∷ y ∷ l) (y ∷ insert before x l)) ≡ suc (suc (length l))
      go true h = refl
      go false h = ap suc h

  pub sorted-length : (l : List A) → length (sorted before l) ≡ length l
  sorted-length [] = refl
  sorted-length (x ∷ l) = insert-length x (sorted before l) ∙ ap suc (sorted-length l)

-- a map that keeps the order
module _ {A : Type 0} (before : A → A → Bool) (f : A → A) (h : (x y : A) → before (f x) (f y) ≡ before x y) where
  insert-map : (x : A) (l : List A) → insert before (f x) (map f l) ≡ map f (insert before x l)
  insert-map x [] = refl
  insert-map x (y ∷ l) = rw (h x y) (go (before x y) (insert-map x l))
    where
      go : (b : Bool) → insert before (f x) (map f l) ≡ map f (insert before x l) → cond b (f x ∷ f y ∷ map f l) (f y ∷ insert before (f x) (map f l)) ≡ map f (cond b (x ∷ y ∷ l) (y ∷ insert before x l))
      go true ih = refl
      go false ih = ap (λ t. f y ∷ t) ih

  pub sorted-map : (l : List A) → sorted before (map f l) ≡ map f (sorted before l)
  sorted-map [] = refl
  sorted-map (x ∷ l) = ap (insert before (f x)) (sorted-map l) ∙ insert-map x (sorted before l)

-- ---- all of a list
module _ {A : Type 0} where
  pub all_filtered : (p q : A → Bool) (l : List A) → allb p l ≡ true → allb p (filterb q l) ≡ true
  all_filtered p q [] h = refl
  all_filtered p q (x ∷ l) h = go (q x) (and_l (p x) _ h) (all_filtered p q l (and_r (p x) _ h))
    where
      go : (c : Bool) → p x ≡ true → allb p (filterb q l) ≡ true → allb p (keep c x (filterb q l)) ≡ true
      go true f ih = rw (f, ih)
      go false f ih = ih

  pub all_passed : (p : A → Bool) (l : List A) → allb p (filterb p l) ≡ true
  all_passed p [] = refl
  all_passed p (x ∷ l) = go (p x) refl (all_passed p l)
    where
      go : (c : Bool) → p x ≡ c → allb p (filterb p l) ≡ true → allb p (keep c x (filterb p l)) ≡ true
      go true f ih = rw (f, ih)
      go false f ih = ih

  pub all_insert : (p : A → Bool) (before : A → A → Bool) (x : A) (l : List A) → p x ≡ true → allb p l ≡ true → allb p (insert before x l) ≡ true
  all_insert p before x [] f h = rw f
  all_insert p before x (y ∷ l) f h = go (before x y) (all_insert p before x l f (and_r (p y) _ h))
    where
      go : (c : Bool) → allb p (insert before x l) ≡ true → allb p (cond c (x ∷ y ∷ l) (y ∷ insert before x l)) ≡ true
      go true ih = rw f h
      go false ih = rw (and_l (p y) _ h, ih)

  pub all-sorted : (p : A → Bool) (before : A → A → Bool) (l : List A) → allb p l ≡ true → allb p (sorted before l) ≡ true
  all-sorted p before [] h = refl
  all-sorted p before (x ∷ l) h = all_insert p before x (sorted before l) (and_l (p x) _ h) (all-sorted p before l (and_r (p x) _ h))

-- the same is put for each of those in the list
module _ {A B : Type 0} where
  pub concat_same : (f g : A → List B) (p : A → Bool) → ((x : A) → p x ≡ true → f x ≡ g x) → (l : List A) → allb p l ≡ true → concat_map f l ≡ concat_map g l
  concat_same f g p e [] h = refl
  concat_same f g p e (x ∷ l) h = ap₂ ◌++◌ (e x (and_l (p x) _ h)) (concat_same f g p e l (and_r (p x) _ h))

-- ---- what stands before the last slash, and nothing where there is none
slashed : (a t : Name) → anyb (eqb 47) (a ++ (47 ∷ t)) ≡ true
slashed [] t = refl
slashed (b ∷ a) t = rw (slashed a t) (or_true (eqb 47 b))

pub before_last : (a t : Name) → anyb (eqb 47) t ≡ false → before_slash (a ++ (47 ∷ t)) ≡ a
unfolding before_slash
before_last [] t e = rw e
before_last (b ∷ a) t e = rw (slashed a t) (ap (λ (l : Name). b ∷ l) (before_last a t e))

pub before_none : (n : Name) → anyb (eqb 47) n ≡ false → before_slash n ≡ []
unfolding before_slash
before_none [] e = refl
before_none (b ∷ n) e = rw (or_r (eqb 47 b) _ e)
