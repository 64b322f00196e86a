-- Tests over a table that is altered: all pass, none are alike, a mailbox is found. Assumes nothing.
use Rattle.std.specs.Prelude.{◌≡◌, Bool, not, cond, ◌&&◌, ◌||◌, ℕ, zero, suc, ◌≤◌, ◌<◌, leb, ltb, length, get_or, set}
use Rattle.std.proofs.Math.Path.{refl}
use Rattle.std.proofs.Common.{◌∙◌, ap₂, arith, length-append, length-set, get_or-set_same, get_or-set_other}
use mathlib.Core.List.{List, [], ◌∷◌, ◌++◌, map}
use Rattle.std.proofs.Math.Bool.{true, false}
use borrow.Author.Tests.{leb-true, le-leb, ltb-true, lt-ltb, eqb-true, eqb-false, not-true}
use Rattle.std.proofs.Math.Dec.{eqb}
use Rattle.std.proofs.Math.ListN.{get_or-append}
use Rattle.model.specs.Lists.{keep, filterb, anyb, allb, apart}
use Rattle.model.specs.Laws.{tf, or_l, or_r, and_l, and_r, any_fewer}
use Rattle.model.specs.Memory.{place, known, the_mailbox, no_mailbox, counter_of, uid_of}
use Rattle.model.specs.Lawful.{mailbox_ok, owned, view_ok}
use Rattle.model.specs.declared.Mailbox.{Mailbox}
use Rattle.model.specs.declared.Message.{Message}
use Rattle.model.specs.declared.Session.{Session}
use Rattle.demands.specs.Isolation.Erase.{known_off, box_off}

-- ---- any table
module _ {A : Type 0} where
  pub all_set : (p : A → Bool) (l : List A) (k : ℕ) (y : A) → allb p l ≡ true → p y ≡ true → allb p (set l k y) ≡ true
  all_set p [] k y e h = refl
  all_set p (x ∷ l) zero y e h = rw h (and_r (p x) _ e)
  all_set p (x ∷ l) (suc k) y e h = rw (and_l (p x) _ e) (all_set p l k y (and_r (p x) _ e) h)

  pub all_snoc : (p : A → Bool) (l : List A) (x : A) → allb p l ≡ true → p x ≡ true → allb p (l ++ (x ∷ [])) ≡ true
  all_snoc p [] x e h = rw h
  all_snoc p (y ∷ l) x e h = rw (and_l (p y) _ e) (all_snoc p l x (and_r (p y) _ e) h)

  pub all_append : (p : A → Bool) (l k : List A) → allb p l ≡ true → allb p k ≡ true → allb p (l ++ k) ≡ true
  all_append p [] k e h = h
  all_append p (x ∷ l) k e h = rw (and_l (p x) _ e) (all_append p l k (and_r (p x) _ e) h)

  pub all_imp : (p q : A → Bool) → ((x : A) → p x ≡ true → q x ≡ true) → (l : List A) → allb p l ≡ true → allb q l ≡ true
  all_imp p q f [] e = refl
  all_imp p q f (x ∷ l) e = rw (f x (and_l (p x) _ e)) (all_imp p q f l (and_r (p x) _ e))

  pub all_both : (p q r : A → Bool) → ((x : A) → p x ≡ true → q x ≡ true → r x ≡ true) → (l : List A) → allb p l ≡ true → allb q l ≡ true → allb r l ≡ true
  all_both p q r f [] e h = refl
  all_both p q r f (x ∷ l) e h = rw (f x (and_l (p x) _ e) (and_l (q x) _ h)) (all_both p q r f l (and_r (p x) _ e) (and_r (q x) _ h))

  pub all_map : (p q : A → Bool) (f : A → A) → ((x : A) → p x ≡ true → q (f x) ≡ true) → (l : List A) → allb p l ≡ true → allb q (map f l) ≡ true
  all_map p q f h [] e = refl
  all_map p q f h (x ∷ l) e = rw (h x (and_l (p x) _ e)) (all_map p q f h l (and_r (p x) _ e))

  pub any_none : (p q : A → Bool) → ((x : A) → p x ≡ true → q x ≡ false) → (l : List A) → allb p l ≡ true → anyb q l ≡ false
  any_none p q f [] e = refl
  any_none p q f (x ∷ l) e = rw (f x (and_l (p x) _ e)) (any_none p q f l (and_r (p x) _ e))

  any-more : (p : A → Bool) (l : List A) (x : A) → anyb p l ≡ false → p x ≡ false → anyb p (l ++ (x ∷ [])) ≡ false
  any-more p [] x e h = rw h
  any-more p (y ∷ l) x e h = rw (or_l (p y) _ e) (any-more p l x (or_r (p y) _ e) h)

  pub any-set : (p : A → Bool) (l : List A) (k : ℕ) (y : A) → anyb p l ≡ false → p y ≡ false → anyb p (set l k y) ≡ false
  any-set p [] k y e h = refl
  any-set p (x ∷ l) zero y e h = rw h (or_r (p x) _ e)
  any-set p (x ∷ l) (suc k) y e h = rw (or_l (p x) _ e) (any-set p l k y (or_r (p x) _ e) h)

  pub apart_snoc : (like : A → A → Bool) (l : List A) (x : A) → apart like l ≡ true → anyb (λ (y : A). like y x) l ≡ false → apart like (l ++ (x ∷ [])) ≡ true
  apart_snoc like [] x e h = refl
  apart_snoc like (y ∷ l) x e h =
      let f : anyb (λ (z : A). like y z) l ≡ false = not-true _ (and_l (not (anyb (λ (z : A). like y z) l)) _ e) in
      rw (any-more (λ (z : A). like y z) l x f (or_l (like y x) _ h)) (apart_snoc like l x (and_r (not (anyb (λ (z : A). like y z) l)) _ e) (or_r (like y x) _ h))

  pub apart-filter : (like : A → A → Bool) (p : A → Bool) (l : List A) → apart like l ≡ true → apart like (filterb p l) ≡ true
  apart-filter like p [] e = refl
  apart-filter like p (x ∷ l) e = go (p x) (apart-filter like p l (and_r (not (anyb (λ (z : A). like x z) l)) _ e))
    where
      go : (b : Bool) → apart like (filterb p l) ≡ true → apart like (keep b x (filterb p l)) ≡ true
      go true ih = rw (any_fewer (λ (z : A). like x z) p l (not-true _ (and_l (not (anyb (λ (z : A). like x z) l)) _ e)), ih)
      go false ih = ih

  -- a map that keeps what they are alike by
  pub apart-map : (like : A → A → Bool) (f : A → A) → ((x y : A) → like (f x) (f y) ≡ like x y) → (l : List A) → apart like (map f l) ≡ apart like l
  apart-map like f h [] = refl
  apart-map like f h (x ∷ l) = ap₂ (λ (a b : Bool). not a && b) (all_same l) (apart-map like f h l)
    where
      all_same : (k : List A) → anyb (λ (y : A). like (f x) y) (map f k) ≡ anyb (λ (y : A). like x y) k
      all_same [] = refl
      all_same (y ∷ k) = ap₂ ◌||◌ (h x y) (all_same k)

-- ---- what its mailbox says of a message
module _ (l : List Mailbox) (e : Message) (h : owned l e ≡ true) where
  both : (ltb (uid_of e) (the_mailbox e.mailbox l).uidnext && leb e.counter (counter_of (the_mailbox e.mailbox l))) ≡ true
  both = and_r (known e.mailbox l) _ h

  pub owned_next : ltb (uid_of e) (the_mailbox e.mailbox l).uidnext ≡ true
  owned_next = and_l (ltb (uid_of e) (the_mailbox e.mailbox l).uidnext) _ both

  pub owned_counter : leb e.counter (counter_of (the_mailbox e.mailbox l)) ≡ true
  owned_counter = and_r (ltb (uid_of e) (the_mailbox e.mailbox l).uidnext) _ both

-- ---- a mailbox's row is set
module _ (i : ℕ) (y : Mailbox) (q : y.id ≡ i) where
  pub place_set : (o : ℕ) (l : List Mailbox) → place o (set l (place i l) y) ≡ place o l
  unfolding place
  place_set o [] = refl
  place_set o (x ∷ l) = go (eqb x.id i) refl (place_set o l)
    where
      go : (c : Bool) → eqb x.id i ≡ c → place o (set l (place i l) y) ≡ place o l → place o (set (x ∷ l) (place i (x ∷ l)) y) ≡ place o (x ∷ l)
      go true g ih = rw (g, q, ← eqb-true x.id i g)
      go false g ih = rw (g, ih)

  known-set : (o : ℕ) (l : List Mailbox) → known o (set l (place i l) y) ≡ known o l
  known-set o l = rw (place_set o l, length-set l (place i l) y)

  -- a number that does not fall in its row falls in none
  rise-set : (f : Mailbox → ℕ) (o : ℕ) (l : List Mailbox) → known i l ≡ true → f (the_mailbox i l) ≤ f y → f (the_mailbox o l) ≤ f (the_mailbox o (set l (place i l) y))
  rise-set f o l k h = rw (place_set o l) (go (eqb (place o l) (place i l)) refl)
    where
      lt : place i l < length l
      lt = ltb-true (place i l) (length l) k

      go : (c : Bool) → eqb (place o l) (place i l) ≡ c → f (the_mailbox o l) ≤ f (get_or (set l (place i l) y) (place o l) no_mailbox)
      go true g = rw (eqb-true (place o l) (place i l) g, get_or-set_same l (place i l) y no_mailbox lt) h
      go false g = rw (get_or-set_other l (place i l) (place o l) y no_mailbox (eqb-false (place o l) (place i l) g)) (omega arith)

  pub owned-set : (l : List Mailbox) → known i l ≡ true → (the_mailbox i l).uidnext ≤ y.uidnext → counter_of (the_mailbox i l) ≤ counter_of y → (e : Message) → owned l e ≡ true → owned (set l (place i l) y) e ≡ true
  owned-set l k h g e ok =
      let x = the_mailbox e.mailbox (set l (place i l) y) in
      let a = and_l (known e.mailbox l) _ ok in
      let b = ltb-true (uid_of e) (the_mailbox e.mailbox l).uidnext (owned_next l e ok) in
      let c = leb-true e.counter (counter_of (the_mailbox e.mailbox l)) (owned_counter l e ok) in
      let n = rise-set (λ (z : Mailbox). z.uidnext) e.mailbox l k h in
      let r = rise-set counter_of e.mailbox l k g in
      rw (known-set e.mailbox l, a, lt-ltb (uid_of e) x.uidnext (omega arith)) (le-leb e.counter (counter_of x) (omega arith))

  -- what its row keeps, every row keeps
  pub keep-set : (f : Mailbox → ℕ) (o : ℕ) (l : List Mailbox) → known i l ≡ true → f y ≡ f (the_mailbox i l) → f (the_mailbox o (set l (place i l) y)) ≡ f (the_mailbox o l)
  keep-set f o l k h = rw (place_set o l) (go (eqb (place o l) (place i l)) refl)
    where
      go : (c : Bool) → eqb (place o l) (place i l) ≡ c → f (get_or (set l (place i l) y) (place o l) no_mailbox) ≡ f (the_mailbox o l)
      go true g = rw (eqb-true (place o l) (place i l) g, get_or-set_same l (place i l) y no_mailbox (ltb-true (place i l) (length l) k)) h
      go false g = rw (get_or-set_other l (place i l) (place o l) y no_mailbox (eqb-false (place o l) (place i l) g))

  pub row-set : (l : List Mailbox) → known i l ≡ true → the_mailbox i (set l (place i l) y) ≡ y
  row-set l k = rw (place_set i l) (get_or-set_same l (place i l) y no_mailbox (ltb-true (place i l) (length l) k))

  pub known_own : (l : List Mailbox) → known i l ≡ true → known i (set l (place i l) y) ≡ true
  known_own l k = known-set i l ∙ k

  pub view-set : (l : List Mailbox) → known i l ≡ true → (the_mailbox i l).uidnext ≤ y.uidnext → (s : Session) → view_ok l s ≡ true → view_ok (set l (place i l) y) s ≡ true
  view-set l k h s = go (eqb s.selected 0)
    where
      go : (b : Bool) → cond b (eqb s.told 0) (known s.selected l && leb s.told (the_mailbox s.selected l).uidnext) ≡ true
          → cond b (eqb s.told 0) (known s.selected (set l (place i l) y) && leb s.told (the_mailbox s.selected (set l (place i l) y)).uidnext) ≡ true
      go true e = e
      go false e =
          let a = and_l (known s.selected l) _ e in
          let b = leb-true s.told (the_mailbox s.selected l).uidnext (and_r (known s.selected l) _ e) in
          let c = rise-set (λ (z : Mailbox). z.uidnext) s.selected l k h in
          rw (known-set s.selected l, a) (le-leb s.told (the_mailbox s.selected (set l (place i l) y)).uidnext (omega arith))

-- ---- a row more
place-snoc : (o : ℕ) (l : List Mailbox) (x : Mailbox) → known o l ≡ true → place o (l ++ (x ∷ [])) ≡ place o l
unfolding place
place-snoc o [] x k = tf false k refl
place-snoc o (y ∷ l) x k = go (eqb y.id o) refl (place-snoc o l x)
  where
    go : (c : Bool) → eqb y.id o ≡ c → (known o l ≡ true → place o (l ++ (x ∷ [])) ≡ place o l) → place o ((y ∷ l) ++ (x ∷ [])) ≡ place o (y ∷ l)
    go true g ih = rw g
    go false g ih = rw (g, ih (lt-ltb (place o l) (length l) (let z = ltb-true (suc (place o l)) (suc (length l)) (rw g at k) in omega arith)))

known-snoc : (o : ℕ) (l : List Mailbox) (x : Mailbox) → known o l ≡ true → known o (l ++ (x ∷ [])) ≡ true
known-snoc o l x k =
    let p = ltb-true (place o l) (length l) k in
    let n = length-append l (x ∷ []) in
    rw (place-snoc o l x k) (lt-ltb (place o l) (length (l ++ (x ∷ []))) (omega arith))

box-snoc : (o : ℕ) (l : List Mailbox) (x : Mailbox) → known o l ≡ true → the_mailbox o (l ++ (x ∷ [])) ≡ the_mailbox o l
box-snoc o l x k = rw (place-snoc o l x k) (get_or-append l (x ∷ []) no_mailbox (place o l) (ltb-true (place o l) (length l) k))

pub owned-snoc : (l : List Mailbox) (x : Mailbox) (e : Message) → owned l e ≡ true → owned (l ++ (x ∷ [])) e ≡ true
owned-snoc l x e ok =
    let a = and_l (known e.mailbox l) _ ok in
    rw (known-snoc e.mailbox l x a, box-snoc e.mailbox l x a) (and_r (known e.mailbox l) _ ok)

pub view-snoc : (l : List Mailbox) (x : Mailbox) (s : Session) → view_ok l s ≡ true → view_ok (l ++ (x ∷ [])) s ≡ true
view-snoc l x s = go (eqb s.selected 0)
  where
    go : (b : Bool) → cond b (eqb s.told 0) (known s.selected l && leb s.told (the_mailbox s.selected l).uidnext) ≡ true
        → cond b (eqb s.told 0) (known s.selected (l ++ (x ∷ [])) && leb s.told (the_mailbox s.selected (l ++ (x ∷ []))).uidnext) ≡ true
    go true e = e
    go false e =
        let a = and_l (known s.selected l) _ e in
        rw (known-snoc s.selected l x a, box-snoc s.selected l x a) (and_r (known s.selected l) _ e)

-- ---- a row less: the others are found as before
module _ (i : ℕ) where
  abbrev pub others : List Mailbox → List Mailbox
  others l = filterb (λ (x : Mailbox). not (eqb x.id i)) l

  pub owned_others : (l : List Mailbox) (e : Message) → eqb e.mailbox i ≡ false → owned l e ≡ true → owned (others l) e ≡ true
  owned_others l e h ok = rw (known_off (λ (k : ℕ). eqb k i) e.mailbox h l, box_off (λ (k : ℕ). eqb k i) e.mailbox h l) ok

  pub view_others : (l : List Mailbox) (s : Session) → eqb s.selected i ≡ false → view_ok l s ≡ true → view_ok (others l) s ≡ true
  view_others l s h ok = rw (known_off (λ (k : ℕ). eqb k i) s.selected h l, box_off (λ (k : ℕ). eqb k i) s.selected h l) ok

-- ---- no mailbox has id 0
pub none-zero : (l : List Mailbox) → allb mailbox_ok l ≡ true → the_mailbox 0 l ≡ no_mailbox
unfolding place
none-zero [] e = refl
none-zero (x ∷ l) e = go (eqb x.id 0) refl (none-zero l (and_r (mailbox_ok x) _ e))
  where
    go : (c : Bool) → eqb x.id 0 ≡ c → the_mailbox 0 l ≡ no_mailbox → the_mailbox 0 (x ∷ l) ≡ no_mailbox
    go true g ih =
        let a = leb-true 1 x.id (and_l (leb 1 x.id) _ (and_l (mailbox_ok x) _ e)) in
        let b = eqb-true x.id 0 g in
        absurd (let n : ⊥ = omega arith in n)
    go false g ih = rw g ih

-- the view ends at or before UIDNEXT
pub told_next : (l : List Mailbox) → allb mailbox_ok l ≡ true → (s : Session) → view_ok l s ≡ true → s.told ≤ (the_mailbox s.selected l).uidnext
told_next l h s = go (eqb s.selected 0) refl
  where
    go : (b : Bool) → eqb s.selected 0 ≡ b → cond b (eqb s.told 0) (known s.selected l && leb s.told (the_mailbox s.selected l).uidnext) ≡ true → s.told ≤ (the_mailbox s.selected l).uidnext
    go true z e = let t = eqb-true s.told 0 e in omega arith
    go false z e = leb-true s.told (the_mailbox s.selected l).uidnext (and_r (known s.selected l) _ e)
