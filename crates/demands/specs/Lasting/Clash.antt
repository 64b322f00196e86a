-- No two mailboxes share an id or a name, after a create, a rename, and a change that keeps both. Assumes nothing.
use Rattle.std.specs.Prelude.{◌≡◌, Bool, true, not, cond, ◌&&◌, ◌||◌, ℕ, zero, suc, eqb, ltb, length, get_or, set}
use Rattle.std.proofs.Math.Path.{refl}
use Rattle.std.proofs.Common.{sym, ◌∙◌, ap, ap₂, arith}
use mathlib.Core.List.{List, [], ◌∷◌}
use Rattle.std.proofs.Math.Bool.{false}
use borrow.Author.Tests.{ltb-false, lt-ltb, le-ltb, eqb-true, eqb-false, eq-eqb, ne_eqb, not-true}
use Rattle.model.specs.Lists.{anyb, apart, same}
use Rattle.model.specs.Laws.{tf, or_l, or_r, and_l, and_r, and-true}
use Rattle.model.specs.Memory.{name_of, place, known, no_mailbox}
use Rattle.model.specs.Lawful.{clash}
use Rattle.model.specs.declared.Mailbox.{Mailbox}
use Rattle.demands.specs.Lasting.Rows.{any-set}

-- ---- equality is symmetric
pub eqb_sym : (m n : ℕ) → eqb m n ≡ eqb n m
eqb_sym m n = go (eqb m n) refl
  where
    go : (b : Bool) → eqb m n ≡ b → eqb m n ≡ eqb n m
    go true e = e ∙ sym (eq-eqb n m (sym (eqb-true m n e)))
    go false e = e ∙ sym (ne_eqb n m (λ h. eqb-false m n e (sym h)))

same_sym : (a b : List ℕ) → same a b ≡ same b a
unfolding same
same_sym [] [] = refl
same_sym [] (y ∷ b) = refl
same_sym (x ∷ a) [] = refl
same_sym (x ∷ a) (y ∷ b) = λ j. cond (eqb_sym x y j) (same_sym a b j) false

-- ---- a row more
pub none-clash : (x : Mailbox) (l : List Mailbox) → known x.id l ≡ false → anyb (λ (y : Mailbox). same (name_of y) (name_of x) && not (eqb y.id x.id)) l ≡ false
    → anyb (λ (y : Mailbox). clash y x) l ≡ false
unfolding place
none-clash x [] k n = refl
none-clash x (y ∷ l) k n = go (eqb y.id x.id) refl (none-clash x l)
  where
    test : Mailbox → Bool
    test z = same (name_of z) (name_of x) && not (eqb z.id x.id)

    low : ltb (suc (place x.id l)) (suc (length l)) ≡ false → known x.id l ≡ false
    low e = let z = ltb-false (suc (place x.id l)) (suc (length l)) e in le-ltb (place x.id l) (length l) (omega arith)

    go : (c : Bool) → eqb y.id x.id ≡ c
        → (known x.id l ≡ false → anyb (λ (y : Mailbox). same (name_of y) (name_of x) && not (eqb y.id x.id)) l ≡ false → anyb (λ (y : Mailbox). clash y x) l ≡ false)
        → anyb (λ (y : Mailbox). clash y x) (y ∷ l) ≡ false
    go true g ih = tf (ltb 0 (suc (length l))) (lt-ltb 0 (suc (length l)) (omega arith)) (rw g at k)
    go false g ih =
        let h : (same (name_of y) (name_of x) && not (eqb y.id x.id)) ≡ false = or_l (same (name_of y) (name_of x) && not (eqb y.id x.id)) _ n in
        let d : same (name_of y) (name_of x) ≡ false = sym (and-true (same (name_of y) (name_of x))) ∙ (rw g at h) in
        rw (g, d) (ih (low (rw g at k)) (or_r (same (name_of y) (name_of x) && not (eqb y.id x.id)) _ n))

-- ---- a row is set, with a name that no other has
module _ (i : ℕ) (y : Mailbox) (q : y.id ≡ i) where
  -- the others have neither its id nor its name
  rest_clash : (x : Mailbox) → x.id ≡ i → (l : List Mailbox) → anyb (λ (z : Mailbox). clash x z) l ≡ false
      → anyb (λ (z : Mailbox). same (name_of z) (name_of y) && not (eqb z.id i)) l ≡ false → anyb (λ (z : Mailbox). clash y z) l ≡ false
  rest_clash x e [] c n = refl
  rest_clash x e (z ∷ l) c n =
      let a : eqb x.id z.id ≡ false = or_l (eqb x.id z.id) (same (name_of x) (name_of z)) (or_l (clash x z) _ c) in
      let b : eqb z.id i ≡ false = eqb_sym z.id i ∙ (rw e at a) in
      let h : (same (name_of z) (name_of y) && not (eqb z.id i)) ≡ false = or_l (same (name_of z) (name_of y) && not (eqb z.id i)) _ n in
      let d : same (name_of y) (name_of z) ≡ false = same_sym (name_of y) (name_of z) ∙ (sym (and-true (same (name_of z) (name_of y))) ∙ (rw b at h)) in
      let f : clash y z ≡ false = rw (q, eqb_sym i z.id, b, d) in
      rw f (rest_clash x e l (or_r (clash x z) _ c) (or_r (same (name_of z) (name_of y) && not (eqb z.id i)) _ n))

  pub apart_put : (l : List Mailbox) → apart clash l ≡ true → anyb (λ (z : Mailbox). same (name_of z) (name_of y) && not (eqb z.id i)) l ≡ false → apart clash (set l (place i l) y) ≡ true
  unfolding place
  apart_put [] a n = refl
  apart_put (x ∷ l) a n = go (eqb x.id i) refl (apart_put l)
    where
      c : anyb (λ (z : Mailbox). clash x z) l ≡ false
      c = not-true (anyb (λ (z : Mailbox). clash x z) l) (and_l (not (anyb (λ (z : Mailbox). clash x z) l)) _ a)

      r : apart clash l ≡ true
      r = and_r (not (anyb (λ (z : Mailbox). clash x z) l)) (apart clash l) a

      h : (same (name_of x) (name_of y) && not (eqb x.id i)) ≡ false
      h = or_l (same (name_of x) (name_of y) && not (eqb x.id i)) (anyb (λ (z : Mailbox). same (name_of z) (name_of y) && not (eqb z.id i)) l) n

      o : anyb (λ (z : Mailbox). same (name_of z) (name_of y) && not (eqb z.id i)) l ≡ false
      o = or_r (same (name_of x) (name_of y) && not (eqb x.id i)) (anyb (λ (z : Mailbox). same (name_of z) (name_of y) && not (eqb z.id i)) l) n

      go : (b : Bool) → eqb x.id i ≡ b → (apart clash l ≡ true → anyb (λ (z : Mailbox). same (name_of z) (name_of y) && not (eqb z.id i)) l ≡ false → apart clash (set l (place i l) y) ≡ true)
          → apart clash (set (x ∷ l) (place i (x ∷ l)) y) ≡ true
      go true g ih = rw (g, rest_clash x (eqb-true x.id i g) l c o, r)
      go false g ih =
          let d : same (name_of x) (name_of y) ≡ false = sym (and-true (same (name_of x) (name_of y))) ∙ (rw g at h) in
          let f : clash x y ≡ false = rw (q, g, d) in
          rw (g, any-set (λ (z : Mailbox). clash x z) l (place i l) y c f) (ih r o)

-- ---- a row is set, with the id and the name that it had
module _ (y : Mailbox) where
  any_same : (x : Mailbox) (l : List Mailbox) (k : ℕ) → y.id ≡ (get_or l k no_mailbox).id → name_of y ≡ name_of (get_or l k no_mailbox) → anyb (clash x) (set l k y) ≡ anyb (clash x) l
  any_same x [] k e f = refl
  any_same x (z ∷ l) zero e f = ap₂ (λ (i : ℕ) (n : List ℕ). (eqb x.id i || same (name_of x) n) || anyb (clash x) l) e f
  any_same x (z ∷ l) (suc k) e f = ap (λ (b : Bool). clash x z || b) (any_same x l k e f)

  pub apart_same : (l : List Mailbox) (k : ℕ) → y.id ≡ (get_or l k no_mailbox).id → name_of y ≡ name_of (get_or l k no_mailbox) → apart clash (set l k y) ≡ apart clash l
  apart_same [] k e f = refl
  apart_same (z ∷ l) zero e f = ap₂ (λ (i : ℕ) (n : List ℕ). not (anyb (λ (w : Mailbox). eqb i w.id || same n (name_of w)) l) && apart clash l) e f
  apart_same (z ∷ l) (suc k) e f = ap₂ (λ (a b : Bool). not a && b) (any_same z l k e f) (apart_same l k e f)
