-- The first entry that passes a test. Assumes nothing.
use Rattle.std.specs.Prelude.{◌≡◌, refl, Bool, true, false, not, cond, ◌&&◌, ◌||◌, List, [], ◌∷◌, ℕ, suc, ◌+◌, ◌<◌, ◌≤◌, ltb, length, map, get_or, position, Some, None}
use Rattle.std.specs.List.{position_or_len}
use Rattle.std.proofs.Common.{ap, sym, ◌∙◌, arith, lt-ltb, le-ltb, ltb-true, ltb-false}
use Rattle.std.proofs.lemmas.List.{map-id, length-map}
use Rattle.std.proofs.lemmas.List.Recursion.{is_position_or_len}
use Rattle.model.specs.Lists.{anyb}
use Rattle.model.specs.Memory.{no_message, is_message, expunged}
use Rattle.model.specs.declared.Message.{Message}

-- message u of mailbox i, and it is not expunged
abbrev pub stands : ℕ → ℕ → Message → Bool
stands i u e = is_message i u e && not (expunged e)

-- the place of the first that passes, or as many as there are
unfoldable pub first : (Message → Bool) → List Message → ℕ
first p [] = 0
first p (e ∷ l) = let rest = first p l in cond (p e) 0 (suc rest)

module _ (p : Message → Bool) where
  pub first_most : (l : List Message) → first p l ≤ length l
  unfolding first
  first_most [] = omega arith
  first_most (e ∷ l) = go (p e) (first_most l)
    where
      go : (b : Bool) → first p l ≤ length l → cond b 0 (suc (first p l)) ≤ suc (length l)
      go true h = omega arith
      go false h = omega arith

  -- some entry passes just where the first is one of them
  pub first_any : (l : List Message) → ltb (first p l) (length l) ≡ anyb p l
  unfolding first
  first_any [] = refl
  first_any (e ∷ l) = go (p e) (first_any l)
    where
      go : (b : Bool) → ltb (first p l) (length l) ≡ anyb p l → ltb (cond b 0 (suc (first p l))) (suc (length l)) ≡ (b || anyb p l)
      go true h = lt-ltb 0 (suc (length l)) (omega arith)
      go false h = more (anyb p l) h
        where
          more : (a : Bool) → ltb (first p l) (length l) ≡ a → ltb (suc (first p l)) (suc (length l)) ≡ a
          more true h = let z = ltb-true (first p l) (length l) h in lt-ltb (suc (first p l)) (suc (length l)) (omega arith)
          more false h = let z = ltb-false (first p l) (length l) h in le-ltb (suc (first p l)) (suc (length l)) (omega arith)

  -- and it passes
  pub first_passes : (l : List Message) → first p l < length l → p (get_or l (first p l) no_message) ≡ true
  unfolding first
  first_passes [] h = absurd (omega arith)
  first_passes (e ∷ l) h = go (p e) refl (first_passes l) h
    where
      go : (b : Bool) → p e ≡ b → (first p l < length l → p (get_or l (first p l) no_message) ≡ true) → cond b 0 (suc (first p l)) < suc (length l)
          → p (get_or (e ∷ l) (cond b 0 (suc (first p l))) no_message) ≡ true
      go true q ih h = q
      go false q ih h = ih (omega arith)

  -- ---- the place as an option, as code answers it
  place-of : {B : Type 0} (f : B → Message) (xs : List B) → first p (map f xs) ≡ position_or_len (λ x. p (f x)) xs
  unfolding first
  place-of f xs = is_position_or_len (λ l. first p (map f l)) (λ x. p (f x)) refl (λ x l. go (p (f x)) (first p (map f l))) xs
    where
      go : (b : Bool) (n : ℕ) → cond b 0 (suc n) ≡ cond b 0 (1 + n)
      go true n = refl
      go false n = omega arith

  first_is : (l : List Message) → first p l ≡ position_or_len p l
  first_is l = ap (first p) (sym (map-id l)) ∙ place-of (λ e. e) l

  -- of entries that are read one by one
  pub found_among : {B : Type 0} (f : B → Message) (xs : List B) → position (λ x. p (f x)) xs ≡ position p (map f xs)
  found_among f xs = rw (← place-of f xs, ← first_is (map f xs), length-map xs f) refl

  -- it is the first, where there is one
  pub found_is : (l : List Message) → position p l ≡ cond (ltb (first p l) (length l)) (Some (first p l)) None
  found_is l = rw (← first_is l) refl

  pub found_one : (l : List Message) (k : ℕ) → position p l ≡ Some k → (k ≡ first p l) × (k < length l)
  found_one l k e = go (ltb (first p l) (length l)) refl (sym (found_is l) ∙ e)
    where
      go : (b : Bool) → ltb (first p l) (length l) ≡ b → cond b (Some (first p l)) None ≡ Some k → (k ≡ first p l) × (k < length l)
      go true h q = let z : first p l ≡ k = cc in let t = ltb-true (first p l) (length l) h in (sym z, omega arith)
      go false h q = cc

  pub found_none : (l : List Message) → position p l ≡ None → first p l ≡ length l
  found_none l e = go (ltb (first p l) (length l)) refl (sym (found_is l) ∙ e)
    where
      go : (b : Bool) → ltb (first p l) (length l) ≡ b → cond b (Some (first p l)) None ≡ None → first p l ≡ length l
      go true h q = cc
      go false h q = let z = first_most l in let t = ltb-false (first p l) (length l) h in omega arith
