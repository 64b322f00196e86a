-- Loops over the first n of a table: what a fold says from place i on. One template for every loop: the invariant is "the fold of all is
-- the fold from i on", and each way out is one of these laws. Assumes nothing.
use Rattle.std.specs.Prelude.{◌≡◌, refl, Bool, true, false, ◌&&◌, List, [], ◌∷◌, map, ℕ, zero, suc, ◌+◌, ◌<◌, ◌≤◌, leb, length, take, drop, get_or}
use Rattle.std.proofs.Common.{sym, ◌∙◌, add-one, arith, drop_of_length-le, drop-cons, get_or-take, length-take-le}
use Rattle.std.proofs.lemmas.List.{length-map}
use borrow.Author.Tests.{eq-eqb, ne_eqb, lt-ltb, le-ltb, le-leb}
use Rattle.model.specs.Lists.{anyb, allb, apart, every}
use Rattle.model.specs.Memory.{place, no_mailbox, known, the_mailbox}
use Rattle.model.specs.Lawful.{counter_ok}
use Rattle.model.specs.declared.Mailbox.{Mailbox}

-- past the end any element is as good as another
module _ {A : Type 0} where
  pub any_default : (l : List A) (k : ℕ) (d e : A) → k < length l → get_or l k d ≡ get_or l k e
  any_default [] k d e h = absurd (let z : ⊥ = omega arith in z)
  any_default (x ∷ l) zero d e h = refl
  any_default (x ∷ l) (suc k) d e h = any_default l k d e (omega arith)

-- the length of an array of structs
pub mapped-length : (A B : Type 0) (f : A → B) (l : List A) (n : ℕ) → length (map f l) ≡ n → length l ≡ n
mapped-length A B f l n h = sym (length-map l f) ∙ h

-- what stands past the end of an array of rows, in code
abbrev pub vacant : Mailbox
vacant = record { id = 0; attributes = 0; namelen = 0; uidvalidity = 0; uidnext = 0; counterlow = 0; counterhigh = 0; name = [] }

module _ {A : Type 0} where
  pub front : (l : List A) (n i : ℕ) (d : A) → i < n → n ≤ length l → drop i (take n l) ≡ get_or l i d ∷ drop (i + 1) (take n l)
  front l n i d h w = let k = length-take-le n l w in let h' : i < length (take n l) = omega arith in rw (add-one, drop-cons (take n l) i d h', get_or-take n l i d h)

  pub past : (l : List A) (n i : ℕ) → n ≤ i → n ≤ length l → drop i (take n l) ≡ []
  past l n i h w = let k = length-take-le n l w in drop_of_length-le (take n l) {i = i} (omega arith)

  module _ (p : A → Bool) (l : List A) (n i : ℕ) (w : n ≤ length l) where
    pub any_here : (d : A) → i < n → p (get_or l i d) ≡ true → anyb p (drop i (take n l)) ≡ true
    any_here d h e = rw (front l n i d h w, e)

    pub any_next : (d : A) → i < n → p (get_or l i d) ≡ false → anyb p (drop i (take n l)) ≡ anyb p (drop (i + 1) (take n l))
    any_next d h e = rw (front l n i d h w, e)

    pub any_past : n ≤ i → anyb p (drop i (take n l)) ≡ false
    any_past h = rw (past l n i h w)

    pub all_here : (d : A) → i < n → p (get_or l i d) ≡ false → allb p (drop i (take n l)) ≡ false
    all_here d h e = rw (front l n i d h w, e)

    pub all_next : (d : A) → i < n → p (get_or l i d) ≡ true → allb p (drop i (take n l)) ≡ allb p (drop (i + 1) (take n l))
    all_next d h e = rw (front l n i d h w, e)

    pub all_past : n ≤ i → allb p (drop i (take n l)) ≡ true
    all_past h = rw (past l n i h w)

  module _ (like : A → A → Bool) (l : List A) (n i : ℕ) (w : n ≤ length l) where
    pub apart_here : (d : A) → i < n → anyb (λ (y : A). like (get_or l i d) y) (drop (i + 1) (take n l)) ≡ true → apart like (drop i (take n l)) ≡ false
    apart_here d h e = rw (front l n i d h w, e)

    pub apart_next : (d : A) → i < n → anyb (λ (y : A). like (get_or l i d) y) (drop (i + 1) (take n l)) ≡ false → apart like (drop i (take n l)) ≡ apart like (drop (i + 1) (take n l))
    apart_next d h e = rw (front l n i d h w, e)

    pub apart_past : n ≤ i → apart like (drop i (take n l)) ≡ true
    apart_past h = rw (past l n i h w)

-- ---- the same over all of a list
module _ {A : Type 0} where
  pub head_at : (l : List A) (i : ℕ) (d : A) → i < length l → drop i l ≡ get_or l i d ∷ drop (i + 1) l
  head_at l i d h = rw (add-one, drop-cons l i d h)

  module _ (p : A → Bool) (l : List A) (i : ℕ) where
    pub any_found : (d : A) → i < length l → p (get_or l i d) ≡ true → anyb p (drop i l) ≡ true
    any_found d h e = rw (head_at l i d h, e)

    pub any_on : (d : A) → i < length l → p (get_or l i d) ≡ false → anyb p (drop i l) ≡ anyb p (drop (i + 1) l)
    any_on d h e = rw (head_at l i d h, e)

    pub any_over : length l ≤ i → anyb p (drop i l) ≡ false
    any_over h = rw (drop_of_length-le l {i = i} h)

    pub all_broken : (d : A) → i < length l → p (get_or l i d) ≡ false → allb p (drop i l) ≡ false
    all_broken d h e = rw (head_at l i d h, e)

    pub all_on : (d : A) → i < length l → p (get_or l i d) ≡ true → allb p (drop i l) ≡ allb p (drop (i + 1) l)
    all_on d h e = rw (head_at l i d h, e)

    pub all_over : length l ≤ i → allb p (drop i l) ≡ true
    all_over h = rw (drop_of_length-le l {i = i} h)

  module _ (like : A → A → Bool) (l : List A) (i : ℕ) where
    pub apart_broken : (d : A) → i < length l → anyb (λ (y : A). like (get_or l i d) y) (drop (i + 1) l) ≡ true → apart like (drop i l) ≡ false
    apart_broken d h e = rw (head_at l i d h, e)

    pub apart_on : (d : A) → i < length l → anyb (λ (y : A). like (get_or l i d) y) (drop (i + 1) l) ≡ false → apart like (drop i l) ≡ apart like (drop (i + 1) l)
    apart_on d h e = rw (head_at l i d h, e)

    pub apart_over : length l ≤ i → apart like (drop i l) ≡ true
    apart_over h = rw (drop_of_length-le l {i = i} h)

-- finding
module _ (k : ℕ) (l : List Mailbox) (i : ℕ) where
  pub place_found : (d : Mailbox) → i < length l → (get_or l i d).id ≡ k → place k l ≡ i + place k (drop i l) → place k l ≡ i
  unfolding place
  place_found d h e inv = inv ∙ rw (head_at l i d h, eq-eqb _ _ e) (omega arith)

  pub place_on : (d : Mailbox) → i < length l → ((get_or l i d).id ≡ k → ⊥) → place k l ≡ i + place k (drop i l) → place k l ≡ i + 1 + place k (drop (i + 1) l)
  unfolding place
  place_on d h e inv = inv ∙ rw (head_at l i d h, ne_eqb _ _ e) (omega arith)

  pub place_over : length l ≤ i → place k l ≡ i + place k (drop i l) → place k l ≡ i
  unfolding place
  place_over h inv = inv ∙ rw (drop_of_length-le l {i = i} h) (omega arith)

-- what was found in all of a list
module _ (o : ℕ) (l : List Mailbox) (k : ℕ) (e : k ≡ place o l) where
  pub unknown_whole : length l ≤ k → known o l ≡ false
  unknown_whole h = le-ltb (place o l) (length l) (omega arith)

  pub known_whole : k < length l → known o l ≡ true
  known_whole h = lt-ltb (place o l) (length l) (omega arith)

-- what was found: k is the place that the code has of the id
module _ (o : ℕ) (l : List Mailbox) (n k : ℕ) (w : n ≤ length l) (e : k ≡ place o (take n l)) where
  pub row_at_lem : (d : Mailbox) → k < n → the_mailbox o (take n l) ≡ get_or l k d
  row_at_lem d h = rw (← e) (get_or-take n l k no_mailbox h ∙ any_default l k no_mailbox d (omega arith))

pub and-true : (b : Bool) → b ≡ (b && true)
and-true true = refl
and-true false = refl

-- a test of three rungs, rung by rung
module _ (a b c : Bool) where
  pub first_no : a ≡ false → false ≡ (a && (b && c))
  first_no e = rw e

  pub second_no : a ≡ true → b ≡ false → false ≡ (a && (b && c))
  second_no e f = rw (e, f)

  pub third : (r : Bool) → a ≡ true → b ≡ true → r ≡ c → r ≡ (a && (b && c))
  third r e f g = rw (e, f) g

pub ok_last : (u f z s c : ℕ) → 1 ≤ u → f ≤ 31 → z ≤ 4294967295 → 1 ≤ c → c ≤ 9223372036854775807 → leb s 2 ≡ every (leb 1 u ∷ leb f 31 ∷ leb z 4294967295 ∷ leb s 2 ∷ counter_ok c ∷ [])
ok_last u f z s c a b d e g = rw (le-leb 1 u a, le-leb f 31 b, le-leb z 4294967295 d, le-leb 1 c e, le-leb c 9223372036854775807 g) (and-true (leb s 2))
