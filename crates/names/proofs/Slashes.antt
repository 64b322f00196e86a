-- The last slash of a name, looked for from the end. Assumes nothing.
use Rattle.std.specs.Prelude.{◌≡◌, refl, Bool, true, false, List, [], ◌∷◌, ◌++◌, ℕ, zero, suc, ◌+◌, ◌-◌, ◌<◌, ◌≤◌, eqb, length, get_or, take, drop, reverse}
use Rattle.std.proofs.Common.{Option, Some, None, Iter, subst, ap, sym, ◌∙◌, arith, eqb-true, take-append-drop}
use Rattle.std.proofs.Math.Seq.{drop-cons}
use Rattle.std.specs.List.{FoldsTo, AllWithin, HoldsAt}
use Rattle.std.specs.Option.{MatchOption, IsSomeAnd}
use Rattle.std.specs.Fn.{Called}
use Rattle.std.specs.Iterator.{YieldsThen}
use denote.Param.Members.{Mut}
use Rattle.std.proofs.lemmas.Iterator.{YieldsList, IsFirst-from_position}
use Rattle.std.proofs.lemmas.Iterator.Consumers.{YieldsList-from_shown}
use Rattle.std.specs.Slice.Iter.{iter_rest, iter_steps_back}
use Rattle.std.proofs.lemmas.List.{get_or-reverse, length-reverse, reverse-append}
use Rattle.model.specs.Lists.{anyb}
use Rattle.model.specs.Names.{before_slash}
use Rattle.model.specs.Laws.{before_last, before_none}

none_beyond : (n : List ℕ) (i : ℕ) → ((k : ℕ) → i ≤ k → k < length n → false ≡ eqb 47 (get_or n k 0)) → anyb (eqb 47) (drop i n) ≡ false
none_beyond [] zero h = refl
none_beyond [] (suc i) h = refl
none_beyond (b ∷ n) zero h = rw (sym (h 0 (omega arith) (omega arith))) (none_beyond n 0 (λ k a b. h (suc k) (omega arith) (omega arith)))
none_beyond (b ∷ n) (suc i) h = none_beyond n i (λ k a b. h (suc k) (omega arith) (omega arith))

-- a slash at i, and none behind it
last_here : (n : List ℕ) (i : ℕ) → true ≡ eqb 47 (get_or n i 0) → i < length n → anyb (eqb 47) (drop (suc i) n) ≡ false → take i n ≡ before_slash n
last_here n i e h none =
    let z : n ≡ take i n ++ (47 ∷ drop (suc i) n) = sym (take-append-drop i n) ∙ ap (λ r. take i n ++ r) (drop-cons n i 0 h ∙ ap (λ b. b ∷ drop (suc i) n) (sym (eqb-true 47 (get_or n i 0) (sym e)))) in
    sym (ap before_slash z ∙ before_last (take i n) (drop (suc i) n) none)

-- the place of it, or None, gives the octets before it
abbrev pub Before : List ℕ → Option ℕ → Type 0
Before n None = [] ≡ before_slash n
Before n (Some i) = (i ≤ length n) × (take i n ≡ before_slash n)

-- the items from the end are those of the text turned round
pub from_back : {A : Type 0} {s : Iter A} (xs : List A) → iter_rest s ≡ xs → YieldsList iter_steps_back (λ y. y.now) s (reverse xs)
from_back {A} {s} xs e = subst (λ k. YieldsList iter_steps_back (λ y. y.now) s (reverse k)) e
    (YieldsList-from_shown iter_steps_back (λ y. y.now) (λ u. reverse (iter_rest u)) (λ u t p. length-reverse _ ∙ p.0)
    (λ u x t p. ap reverse p ∙ reverse-append (iter_rest t) (x.now ∷ [])) s)

turned : (n : List ℕ) (m k : ℕ) → m + 1 + k ≡ length n → get_or (reverse n) k 0 ≡ get_or n m 0
turned n m k e = get_or-reverse n k 0 (omega arith) ∙ ap (λ z. get_or n z 0) (let z : length n - 1 - k ≡ m = omega arith in z)

module _ (n : List ℕ) where
  not_one : AllWithin (λ z. false ≡ eqb 47 z) (reverse n) 0 (length (reverse n)) → [] ≡ before_slash n
  not_one h = sym (before_none n (none_beyond n 0 (λ m a b. subst (λ z. false ≡ eqb 47 z) (turned n m (length n - 1 - m) (omega arith)) (h (length n - 1 - m) 0 (omega arith) (omega (arith, length-reverse n))))))

  one : (i k : ℕ) → i + 1 + k ≡ length n → HoldsAt (λ z. true ≡ eqb 47 z) (reverse n) k → AllWithin (λ z. false ≡ eqb 47 z) (reverse n) 0 k → take i n ≡ before_slash n
  one i k e here h =
      last_here n i (subst (λ z. true ≡ eqb 47 z) (turned n i k e) (here 0)) (omega arith)
      (none_beyond n (suc i) (λ m a b. subst (λ z. false ≡ eqb 47 z) (turned n m (length n - 1 - m) (omega arith)) (h (length n - 1 - m) 0 (omega arith) (omega arith))))

module _ {S A F : Type 0} {steps : S → Option A → S → Type 0} {v : A → ℕ} {g : Mut F (A × Unit {0}) Bool} {s : S} (u : S) (f : F) (n : List ℕ) where
  pub slash_from_back : (r : Option ℕ)
      → (xs : List A) × (o : Option A) × (j : F) × YieldsThen steps s xs o u × FoldsTo (λ p x q. Called g p (x, tt) false q) f xs j
      × MatchOption o (r ≡ None) (λ x. IsSomeAnd r (λ i. i + 1 + length xs ≡ length n) × ((h : F) × Called g j (x, tt) true h))
      → YieldsList steps v s (reverse n) → ((x : A) (b : Bool) (q : F) → Called g f (x, tt) b q → (q ≡ f) × (b ≡ eqb 47 (v x))) → Before n r
  slash_from_back None (xs, None, j, y, t, e) l k =
      not_one n (IsFirst-from_position u f None (λ z. true ≡ eqb 47 z) (λ z. false ≡ eqb 47 z) (xs, None, j, y, t, refl) l (λ x q c. (k x true q c).1) (λ x q. k x false q))
  slash_from_back (Some i) (xs, None, j, y, t, e) l k = absurd (let z : ◌≡◌ {A = ℕ} 0 1 = cc in omega arith)
  slash_from_back None (xs, Some x, j, y, t, m) l k = absurd m.0
  slash_from_back (Some i) (xs, Some x, j, y, t, m) l k =
      let h = IsFirst-from_position u f (Some (length xs)) (λ z. true ≡ eqb 47 z) (λ z. false ≡ eqb 47 z) (xs, Some x, j, y, t, (refl, m.1)) l (λ x q c. (k x true q c).1) (λ x q. k x false q) in
      (omega (arith, m.0), one n i (length xs) m.0 h.1 h.2)
