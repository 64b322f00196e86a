-- Which of a list pass a test: whether one does, of two tests and of less or more; the number of the first, from 1, and 0 where none does. Assumes nothing.
use Rattle.std.specs.Prelude.{◌≡◌, Bool, ◌&&◌, ◌||◌, eqb, ltb, length, get_or}
use Rattle.std.proofs.Math.Path.{refl}
use Rattle.std.proofs.Common.{sym, ◌∙◌, ap, ne_eqb, ltb-true, ltb-false, lt-ltb, le-ltb}
use mathlib.Core.List.{List, [], ◌∷◌}
use Rattle.std.proofs.Math.Bool.{true, false, not, cond}
use Prim.Native.Nat.{ℕ, zero, suc, ◌+◌, ◌-◌, ◌≤◌, ◌<◌}
use native.Mathlib.Omega.{arith}
use Rattle.model.specs.Lists.{anyb}
use Rattle.model.specs.Laws.{or_true}
use Rattle.model.specs.Groups.{behind, number}

-- ---- whether one passes: of two tests, of one that holds only where c does, of a wider one
pub any_or : {A : Type 0} (p q : A → Bool) (l : List A) → anyb (λ (x : A). p x || q x) l ≡ (anyb p l || anyb q l)
any_or p q [] = refl
any_or p q (x ∷ l) = ap (λ (b : Bool). (p x || q x) || b) (any_or p q l) ∙ go (p x) (q x) (anyb p l)
  where
    go : (a b c : Bool) → ((a || b) || (c || anyb q l)) ≡ ((a || c) || (b || anyb q l))
    go true b c = refl
    go false true true = refl
    go false true false = refl
    go false false c = refl

pub any_held : {A : Type 0} (c : Bool) (p : A → Bool) (l : List A) → anyb (λ (x : A). c && p x) l ≡ (c && anyb p l)
any_held true p l = refl
any_held false p [] = refl
any_held false p (x ∷ l) = any_held false p l

pub any_wider : {A : Type 0} (p q : A → Bool) → ((x : A) → p x ≡ true → q x ≡ true) → (l : List A) → anyb p l ≡ true → anyb q l ≡ true
any_wider p q h [] e = e
any_wider p q h (x ∷ l) e = go (p x) refl e (any_wider p q h l)
  where
    go : (b : Bool) → p x ≡ b → (b || anyb p l) ≡ true → (anyb p l ≡ true → anyb q l ≡ true) → (q x || anyb q l) ≡ true
    go true f g ih = rw (h x f)
    go false f g ih = rw (ih g) (or_true (q x))

-- ---- the number of the first
module _ {A : Type 0} (p : A → Bool) where
  -- it is 0 if none passes
  pub number_any : (l : List A) → not (eqb (number p l) 0) ≡ anyb p l
  unfolding number
  number_any [] = refl
  number_any (x ∷ l) = go (p x) (number p l) (number_any l)
    where
      pos : (n : ℕ) → 0 < n → not (eqb n 0) ≡ true
      pos n h = rw (ne_eqb n 0 (λ e. let z : ⊥ = omega arith in z))

      go : (b : Bool) (n : ℕ) → not (eqb n 0) ≡ anyb p l → not (eqb (cond b 1 (behind 1 n)) 0) ≡ (b || anyb p l)
      go true n e = refl
      go false zero e = e
      go false (suc n) e = let z : 1 + suc n ≡ suc (suc n) = omega arith in rw z (pos (suc (suc n)) (omega arith) ∙ (sym (pos (suc n) (omega arith)) ∙ e))

  -- number n of the list passes, and none before it
  module _ (d : A) where
    pub record Nth (l : List A) (n : ℕ) : Type 0 where
      pub within : n ≤ length l
      pub passes : p (get_or l (n - 1) d) ≡ true
      pub before : (k : ℕ) → k < n - 1 → p (get_or l k d) ≡ false

    pub number_nth : (l : List A) → 1 ≤ number p l → Nth l (number p l)
    unfolding number
    number_nth [] h = absurd (let z : ⊥ = omega arith in z)
    number_nth (x ∷ l) h = go (p x) refl (number p l) (number_nth l) h
      where
        go : (b : Bool) → p x ≡ b → (n : ℕ) → (1 ≤ n → Nth l n) → 1 ≤ cond b 1 (behind 1 n) → Nth (x ∷ l) (cond b 1 (behind 1 n))
        go true e n ih g = record { within = omega arith; passes = e; before = λ k q. absurd (let z : ⊥ = omega arith in z) }
        go false e zero ih g = absurd (let z : ⊥ = omega arith in z)
        go false e (suc n) ih g =
            let t = ih (omega arith) in
            let a : 1 + suc n - 1 ≡ suc n = omega arith in
            let b : suc n - 1 ≡ n = omega arith in
            record { within = omega (arith, t.within); passes = rw a (rw b at t.passes); before = later t.before }
          where
            later : ((k : ℕ) → k < suc n - 1 → p (get_or l k d) ≡ false) → (k : ℕ) → k < 1 + suc n - 1 → p (get_or (x ∷ l) k d) ≡ false
            later f zero q = e
            later f (suc k) q = f k (omega arith)

-- the lesser of two numbers that is not 0
abbrev pub lesser : ℕ → ℕ → ℕ
lesser a b = cond (eqb a 0) b (cond (eqb b 0) a (cond (ltb b a) b a))

some : (n : ℕ) → eqb (1 + suc n) 0 ≡ false
some n = ne_eqb (1 + suc n) 0 (λ e. let z : ⊥ = omega arith in z)

beyond : (n : ℕ) → eqb (suc n) 0 ≡ false
beyond n = ne_eqb (suc n) 0 (λ e. let z : ⊥ = omega arith in z)

lesser-behind : (a b : ℕ) → behind 1 (lesser a b) ≡ lesser (behind 1 a) (behind 1 b)
lesser-behind zero b = refl
lesser-behind (suc a) zero = rw (some a, beyond a)
lesser-behind (suc a) (suc b) = rw (some a, some b, beyond a, beyond b) (go (ltb (suc b) (suc a)) refl)
  where
    go : (c : Bool) → ltb (suc b) (suc a) ≡ c → behind 1 (cond c (suc b) (suc a)) ≡ cond (ltb (1 + suc b) (1 + suc a)) (1 + suc b) (1 + suc a)
    go true e = let h = ltb-true (suc b) (suc a) e in rw (lt-ltb (1 + suc b) (1 + suc a) (omega arith))
    go false e = let h = ltb-false (suc b) (suc a) e in rw (le-ltb (1 + suc b) (1 + suc a) (omega arith))

first_left : (n : ℕ) → 1 ≡ lesser 1 (behind 1 n)
first_left zero = refl
first_left (suc n) = rw (some n, le-ltb (1 + suc n) 1 (omega arith))

first-right : (n : ℕ) → 1 ≡ lesser (behind 1 n) 1
first-right zero = refl
first-right (suc n) = rw (some n, lt-ltb 1 (1 + suc n) (omega arith))

-- of two tests: the lesser
pub number_or : {A : Type 0} (p q : A → Bool) (l : List A) → number (λ (x : A). p x || q x) l ≡ lesser (number p l) (number q l)
unfolding number
number_or p q [] = refl
number_or p q (x ∷ l) = go (p x) (q x) (number p l) (number q l) (number_or p q l)
  where
    go : (b c : Bool) (i j : ℕ) {n : ℕ} → n ≡ lesser i j → cond (b || c) 1 (behind 1 n) ≡ lesser (cond b 1 (behind 1 i)) (cond c 1 (behind 1 j))
    go true true i j e = refl
    go true false i j e = first_left j
    go false true i j e = first-right i
    go false false i j e = ap (behind 1) e ∙ lesser-behind i j

-- of a test that holds only where c does
pub number_held : {A : Type 0} (c : Bool) (p : A → Bool) (l : List A) → number (λ (x : A). c && p x) l ≡ cond c (number p l) 0
unfolding number
number_held true p l = refl
number_held false p [] = refl
number_held false p (x ∷ l) = ap (behind 1) (number_held false p l)
