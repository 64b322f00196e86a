-- Counts of many mailboxes at once: an entry adds to the count of its row, and to no other. Assumes nothing.
use Rattle.std.specs.Prelude.{◌≡◌, refl, Bool, true, false, not, cond, ◌&&◌, List, [], ◌∷◌, ℕ, zero, suc, ◌+◌, ◌<◌, ◌≤◌, ◌%◌, eqb, ltb, length, take, get_or, set, Option, Some, None, position}
use Rattle.std.proofs.Common.{ap, sym, ◌∙◌, add-one, arith, length-set, get_or-set_same, get_or-set_other, eq-eqb, ne_eqb, eqb-true, ltb-false, get_or-take, length-take-le}
use Rattle.std.specs.List.{position_or_len}
use Rattle.std.proofs.lemmas.List.Quantifiers.{position-Some}
use Rattle.std.proofs.lemmas.Bool.{eqb-false}
use Rattle.model.specs.Memory.{no_message, in_mailbox, expunged, by_uid, messages_of, existing}
use Rattle.model.specs.Lists.{filterb}
use Rattle.model.specs.declared.Message.{Message}
use Rattle.model.specs.Lists.{apart}
use Rattle.model.specs.Memory.{no_mailbox}
use Rattle.model.specs.Lawful.{clash}
use Rattle.model.specs.declared.Mailbox.{Mailbox}
use Rattle.table_mailboxes.specs.Columns.{Column}
use Rattle.lawful_digests.specs.Distinct.{place_own}
use Rattle.laws.specs.Counting.{countb, filter-count, filter_both, count-sorted}

-- a row with the id, or none
pub record Finds (ids : List ℕ) (n id : ℕ) (r : Option ℕ) : Type 0 where
  pub here : (k : ℕ) → r ≡ Some k → (k < n) × (get_or ids k 0 ≡ id)
  pub none : r ≡ None → (j : ℕ) → j < n → get_or ids j 0 ≡ id → ⊥

pub found : (ids : List ℕ) (n id k : ℕ) → k < n → get_or ids k 0 ≡ id → Finds ids n id (Some k)
found ids n id k h e = record { here = λ j q. (let z : k ≡ j = cc in rw (← z) (h, e)); none = λ q. absurd (let z : ⊥ = cc in z) }

-- none before the end passes
absent : (p : ℕ → Bool) (xs : List ℕ) → length xs ≤ position_or_len p xs → (k : ℕ) → k < length xs → p (get_or xs k 0) ≡ false
absent p [] h k w = absurd (let z : ⊥ = omega arith in z)
absent p (x ∷ xs) h k w = go (p x) refl h (absent p xs) k w
  where
    go : (b : Bool) → p x ≡ b → suc (length xs) ≤ cond (not b) (1 + position_or_len p xs) 0 → (length xs ≤ position_or_len p xs → (j : ℕ) → j < length xs → p (get_or xs j 0) ≡ false)
        → (j : ℕ) → j < suc (length xs) → p (get_or (x ∷ xs) j 0) ≡ false
    go true e t f j v = absurd (let z : ⊥ = omega arith in z)
    go false e t f zero v = e
    go false e t f (suc j) v = f (omega arith) j (omega arith)

-- what was looked for in all of them
pub finds : (ids : List ℕ) (n id : ℕ) (r : Option ℕ) → n ≤ length ids → r ≡ position (λ (y : ℕ). eqb y id) (take n ids) → Finds ids n id r
finds ids n id r w e = record {
  here = λ k q.
      (let f = position-Some (λ (y : ℕ). eqb y id) (take n ids) k 0 (sym e ∙ q) in
      let l = length-take-le n ids w in
      let h : k < n = omega arith in
      (h, sym (get_or-take n ids k 0 h) ∙ eqb-true (get_or (take n ids) k 0) id f.1));
  none = λ q j h g.
      (let l = length-take-le n ids w in
      let f = absent (λ (y : ℕ). eqb y id) (take n ids) (past (ltb (position_or_len (λ (y : ℕ). eqb y id) (take n ids)) (length (take n ids))) refl (sym e ∙ q)) j (omega arith) in
      let t : eqb (get_or (take n ids) j 0) id ≡ true = eq-eqb (get_or (take n ids) j 0) id (get_or-take n ids j 0 h ∙ g) in
      cc);
}
  where
    past : (b : Bool) → ltb (position_or_len (λ (y : ℕ). eqb y id) (take n ids)) (length (take n ids)) ≡ b → cond b (Some (position_or_len (λ (y : ℕ). eqb y id) (take n ids))) None ≡ None → length (take n ids) ≤ position_or_len (λ (y : ℕ). eqb y id) (take n ids)
    past true t q = absurd (let z : ⊥ = cc in z)
    past false t q = ltb-false (position_or_len (λ (y : ℕ). eqb y id) (take n ids)) (length (take n ids)) t

-- no two rows have an id
abbrev pub Apart : List ℕ → ℕ → Type 0
Apart ids n = (i j : ℕ) → i < n → j < n → get_or ids i 0 ≡ get_or ids j 0 → i ≡ j

-- it is a message of the mailbox, and exists
abbrev pub stands : ℕ → Message → Bool
stands id e = in_mailbox id e && not (expunged e)

pub record Tallied (ids : List ℕ) (n : ℕ) (e : Message) (i : ℕ) (c c' : List ℕ) : Type 0 where
  pub more : Apart ids n → (k : ℕ) → k < n → get_or c' k 0 ≡ get_or c k 0 + cond (stands (get_or ids k 0) e) 1 0
  pub below : (k : ℕ) → get_or c' k 0 ≤ i + 1
  pub long : length c' ≡ length c

module _ (ids : List ℕ) (n : ℕ) (e : Message) (i : ℕ) (c : List ℕ) (low : (k : ℕ) → get_or c k 0 ≤ i) where
  nothing : ((k : ℕ) → k < n → stands (get_or ids k 0) e ≡ false) → Tallied ids n e i c c
  nothing f = record {
    more = λ a k h. rw (f k h) (omega arith);
    below = λ k. (let z = low k in omega arith);
    long = refl;
  }

  -- it is expunged
  pub tally-gone : e.states % 2 ≡ 1 → Tallied ids n e i c c
  tally-gone g = nothing (λ k h. go (in_mailbox (get_or ids k 0) e))
    where
      go : (b : Bool) → (b && not (expunged e)) ≡ false
      go true = rw (eq-eqb (e.states % 2) 1 g)
      go false = refl

  -- no row has it
  pub tally_none : Finds ids n e.mailbox None → Tallied ids n e i c c
  tally_none f = nothing (λ k z. rw (ne_eqb e.mailbox (get_or ids k 0) (λ q. f.none refl k z (sym q))))

  -- row r has it
  pub tally_one : (r : ℕ) → (e.states % 2 ≡ 1 → ⊥) → Finds ids n e.mailbox (Some r) → n ≤ length c → Tallied ids n e i c (set c r (get_or c r 0 + 1))
  tally_one r g f w = record {
    more = λ a k z. by_place a k z (eqb k r) refl;
    below = λ k. at_place k (eqb k r) refl;
    long = length-set c r (get_or c r 0 + 1);
  }
    where
      h : r < n
      h = (f.here r refl).0

      inside : r < length c
      inside = let z = h in omega arith

      own : get_or ids r 0 ≡ e.mailbox
      own = (f.here r refl).1

      by_place : Apart ids n → (k : ℕ) → k < n → (b : Bool) → eqb k r ≡ b → get_or (set c r (get_or c r 0 + 1)) k 0 ≡ get_or c k 0 + cond (stands (get_or ids k 0) e) 1 0
      by_place a k z true q =
          let s : k ≡ r = eqb-true k r q in
          rw (s, get_or-set_same c r (get_or c r 0 + 1) 0 inside, eq-eqb e.mailbox (get_or ids r 0) (sym own), ne_eqb (e.states % 2) 1 g)
      by_place a k z false q =
          let s : (k ≡ r → ⊥) = eqb-false k r q in
          get_or-set_other c r k (get_or c r 0 + 1) 0 s ∙ rw (ne_eqb e.mailbox (get_or ids k 0) (λ x. s (a k r z h (sym x ∙ sym own)))) (omega arith)

      at_place : (k : ℕ) (b : Bool) → eqb k r ≡ b → get_or (set c r (get_or c r 0 + 1)) k 0 ≤ i + 1
      at_place k true q =
          let s : k ≡ r = eqb-true k r q in
          let l = low r in
          rw (s, get_or-set_same c r (get_or c r 0 + 1) 0 inside) (omega arith)
      at_place k false q =
          let l = low k in
          rw (get_or-set_other c r k (get_or c r 0 + 1) 0 (eqb-false k r q)) (omega arith)

-- counts of the first i entries
count-take : (p : Message → Bool) (l : List Message) (i : ℕ) → i < length l → countb p (take (suc i) l) ≡ countb p (take i l) + cond (p (get_or l i no_message)) 1 0
count-take p [] i h = absurd (let y : ⊥ = omega arith in y)
count-take p (x ∷ l) zero h = omega arith
count-take p (x ∷ l) (suc i) h = let z = count-take p l i (omega arith) in omega arith

pub existing-count : (id : ℕ) (l : List Message) → length (existing id l) ≡ countb (stands id) l
existing-count id l =
    let q : Message → Bool = λ e. not (expunged e) in
    filter-count q (messages_of id l) ∙ (count-sorted q by_uid (filterb (in_mailbox id) l) ∙ filter_both q (in_mailbox id) l)

abbrev pub Counted : List ℕ → ℕ → List Message → ℕ → List ℕ → Type 0
Counted ids n es i c = (k : ℕ) → k < n → get_or c k 0 ≡ countb (stands (get_or ids k 0)) (take i es)

pub counted_next : (ids : List ℕ) (n : ℕ) (es : List Message) (i : ℕ) (c c' : List ℕ) → i < length es → Tallied ids n (get_or es i no_message) i c c' → Apart ids n → Counted ids n es i c → Counted ids n es (i + 1) c'
counted_next ids n es i c c' h t a q k z = t.more a k z ∙ (ap (λ (x : ℕ). x + cond (stands (get_or ids k 0) (get_or es i no_message)) 1 0) (q k z) ∙ sym (ap (λ (j : ℕ). countb (stands (get_or ids k 0)) (take j es)) (add-one i) ∙ count-take (stands (get_or ids k 0)) es i h))

-- rows that do not clash have ids that differ
pub apart-ids : (l : List Mailbox) (ids : List ℕ) → Column (λ (x : Mailbox). x.id) l ids → apart clash l ≡ true → Apart ids (length l)
apart-ids l ids w a i j h k e =
    sym (place_own (get_or l i no_mailbox).id l i a h refl)
    ∙ place_own (get_or l i no_mailbox).id l j a k (sym (w j k) ∙ (sym e ∙ w i h))
