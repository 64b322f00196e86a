-- A fact for each of a list, and a test that one of a list passes: appended, filtered, put in order, changed. Assumes nothing.
use Rattle.std.specs.Prelude.{◌≡◌, refl, List, [], ◌∷◌, ◌++◌, map, Bool, true, false, not, cond, ◌&&◌, ◌||◌}
use Rattle.std.proofs.Common.{◌∙◌, ap, ap₂}
use Rattle.model.specs.Lists.{filterb, keep, anyb, allb, insert, sorted}
use Rattle.model.specs.Laws.{tf, and_l, and_r}

pub twice : (c : Bool) → not (not c) ≡ c
twice true = refl
twice false = refl

-- ---- a fact for each of a list
module _ {A : Type 0} where
  -- a fact of both is one of either
  pub of_two : (P : A → Type 0) (c : Bool) (x y : A) → P x → P y → P (cond c x y)
  of_two P true x y p q = p
  of_two P false x y p q = q

  pub data All (P : A → Type 0) : List A → Type 0 where
    none : All P []
    also : {x : A} {l : List A} → P x → All P l → All P (x ∷ l)

  pub all_head : {P : A → Type 0} {x : A} {l : List A} → All P (x ∷ l) → P x
  all_head (also p h) = p

  pub all_tail : {P : A → Type 0} {x : A} {l : List A} → All P (x ∷ l) → All P l
  all_tail (also p h) = h

  pub all_yes : (p : A → Bool) (l : List A) → allb p l ≡ true → All (λ (x : A). p x ≡ true) l
  all_yes p [] h = none
  all_yes p (x ∷ l) h = also (and_l (p x) _ h) (all_yes p l (and_r (p x) _ h))

  pub all_to : {P Q : A → Type 0} → ((x : A) → P x → Q x) → {l : List A} → All P l → All Q l
  all_to f none = none
  all_to f (also {x} p h) = also (f x p) (all_to f h)

  pub all_with : {P Q R : A → Type 0} → ((x : A) → P x → Q x → R x) → {l : List A} → All P l → All Q l → All R l
  all_with f none k = none
  all_with f (also {x} p h) k = also (f x p (all_head k)) (all_with f h (all_tail k))

  pub all-kept : {P : A → Type 0} (p : A → Bool) {l : List A} → All P l → All P (filterb p l)
  all-kept p none = none
  all-kept {P} p (also {x} {l} q h) = go (p x) (all-kept p h)
    where
      go : (b : Bool) → All P (filterb p l) → All P (keep b x (filterb p l))
      go true ih = also q ih
      go false ih = ih

  -- those that pass, pass
  pub all_pass : {P : A → Type 0} (p : A → Bool) {l : List A} → All P l → All (λ (x : A). P x × (p x ≡ true)) (filterb p l)
  all_pass p none = none
  all_pass {P} p (also {x} {l} q h) = go (p x) refl (all_pass p h)
    where
      go : (b : Bool) → p x ≡ b → All (λ (y : A). P y × (p y ≡ true)) (filterb p l) → All (λ (y : A). P y × (p y ≡ true)) (keep b x (filterb p l))
      go true e ih = also (q, e) ih
      go false e ih = ih

  pub all_put : {P : A → Type 0} (before : A → A → Bool) (x : A) {l : List A} → P x → All P l → All P (insert before x l)
  all_put before x h none = also h none
  all_put {P} before x h (also {x = y} {l} q k) = go (before x y) (all_put before x h k)
    where
      go : (b : Bool) → All P (insert before x l) → All P (cond b (x ∷ y ∷ l) (y ∷ insert before x l))
      go true ih = also h (also q k)
      go false ih = also q ih

  pub all_ordered : {P : A → Type 0} (before : A → A → Bool) {l : List A} → All P l → All P (sorted before l)
  all_ordered before none = none
  all_ordered before (also {x} p h) = all_put before x p (all_ordered before h)

  -- filters that agree on the list
  pub filter-agree : (p q : A → Bool) (l : List A) → All (λ (x : A). p x ≡ q x) l → filterb p l ≡ filterb q l
  filter-agree p q [] h = refl
  filter-agree p q (x ∷ l) h = ap₂ (λ (b : Bool) (t : List A). keep b x t) (all_head h) (filter-agree p q l (all_tail h))

  pub filter_all : (p : A → Bool) (l : List A) → All (λ (x : A). p x ≡ true) l → filterb p l ≡ l
  filter_all p [] h = refl
  filter_all p (x ∷ l) h = rw (all_head h) (ap (λ (t : List A). x ∷ t) (filter_all p l (all_tail h)))

  pub map_swap : (f g h k : A → A) → ((x : A) → f (g x) ≡ h (k x)) → (l : List A) → map f (map g l) ≡ map h (map k l)
  map_swap f g h k e [] = refl
  map_swap f g h k e (x ∷ l) = ap₂ (λ (y : A) (t : List A). y ∷ t) (e x) (map_swap f g h k e l)

  pub map_over : (f g h : A → A) → ((x : A) → f (g x) ≡ h x) → (l : List A) → map f (map g l) ≡ map h l
  map_over f g h e [] = refl
  map_over f g h e (x ∷ l) = ap₂ (λ (y : A) (t : List A). y ∷ t) (e x) (map_over f g h e l)

  -- a map that keeps the order
  pub put_map : (before : A → A → Bool) (f : A → A) → ((x y : A) → before (f x) (f y) ≡ before x y) → (x : A) (l : List A) → insert before (f x) (map f l) ≡ map f (insert before x l)
  put_map before f e x [] = refl
  put_map before f e x (y ∷ l) = rw (e x y) (go (before x y) (put_map before f e x l))
    where
      go : (b : Bool) → insert before (f x) (map f l) ≡ map f (insert before x l)
          → cond b (f x ∷ f y ∷ map f l) (f y ∷ insert before (f x) (map f l)) ≡ map f (cond b (x ∷ y ∷ l) (y ∷ insert before x l))
      go true ih = refl
      go false ih = ap (λ (t : List A). f y ∷ t) ih

  pub sort-map : (before : A → A → Bool) (f : A → A) → ((x y : A) → before (f x) (f y) ≡ before x y) → (l : List A) → sorted before (map f l) ≡ map f (sorted before l)
  sort-map before f e [] = refl
  sort-map before f e (x ∷ l) = ap (insert before (f x)) (sort-map before f e l) ∙ put_map before f e x (sorted before l)

  pub all_append : {P : A → Type 0} {l r : List A} → All P l → All P r → All P (l ++ r)
  all_append none k = k
  all_append (also p h) k = also p (all_append h k)

  -- ---- one of a list
  pub any_append : (p : A → Bool) (l r : List A) → anyb p (l ++ r) ≡ (anyb p l || anyb p r)
  any_append p [] r = refl
  any_append p (x ∷ l) r = go (p x) (any_append p l r)
    where
      go : (c : Bool) → anyb p (l ++ r) ≡ (anyb p l || anyb p r) → (c || anyb p (l ++ r)) ≡ ((c || anyb p l) || anyb p r)
      go true ih = refl
      go false ih = ih

  pub any_filtered : (p q : A → Bool) (l : List A) → anyb p (filterb q l) ≡ anyb (λ (x : A). q x && p x) l
  any_filtered p q [] = refl
  any_filtered p q (x ∷ l) = go (q x) (any_filtered p q l)
    where
      go : (c : Bool) → anyb p (filterb q l) ≡ anyb (λ (y : A). q y && p y) l → anyb p (keep c x (filterb q l)) ≡ ((c && p x) || anyb (λ (y : A). q y && p y) l)
      go true ih = ap (λ (b : Bool). p x || b) ih
      go false ih = ih

  pub any_one : (before : A → A → Bool) (p : A → Bool) (x : A) (l : List A) → anyb p (insert before x l) ≡ (p x || anyb p l)
  any_one before p x [] = refl
  any_one before p x (y ∷ l) = go (before x y) (any_one before p x l)
    where
      swap : (a b c : Bool) → (b || (a || c)) ≡ (a || (b || c))
      swap true true c = refl
      swap true false c = refl
      swap false b c = refl

      go : (c : Bool) → anyb p (insert before x l) ≡ (p x || anyb p l) → anyb p (cond c (x ∷ y ∷ l) (y ∷ insert before x l)) ≡ (p x || (p y || anyb p l))
      go true ih = refl
      go false ih = ap (λ (b : Bool). p y || b) ih ∙ swap (p x) (p y) (anyb p l)

  pub any_ordered : (before : A → A → Bool) (p : A → Bool) (l : List A) → anyb p (sorted before l) ≡ anyb p l
  any_ordered before p [] = refl
  any_ordered before p (x ∷ l) = any_one before p x (sorted before l) ∙ ap (λ (b : Bool). p x || b) (any_ordered before p l)

  pub any_passed : (p : A → Bool) (l : List A) → anyb (λ (x : A). true) (filterb p l) ≡ anyb p l
  any_passed p [] = refl
  any_passed p (x ∷ l) = go (p x) (any_passed p l)
    where
      go : (c : Bool) → anyb (λ (y : A). true) (filterb p l) ≡ anyb p l → anyb (λ (y : A). true) (keep c x (filterb p l)) ≡ (c || anyb p l)
      go true ih = refl
      go false ih = ih

  -- what follows of each that passes, if one does
  pub any_fact : (P : Type 0) (p : A → Bool) {l : List A} → All (λ (x : A). p x ≡ true → P) l → anyb p l ≡ true → P
  any_fact P p none h = tf false h refl
  any_fact P p (also {x = y} {l = l} q r) h = go (p y) refl (any_fact P p r)
    where
      go : (c : Bool) → p y ≡ c → (anyb p l ≡ true → P) → P
      go true g ih = q g
      go false g ih = ih (rw g at h)
