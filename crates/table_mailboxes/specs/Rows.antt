-- The writes of the mailbox table as code makes them: one row is set, one is put behind the last. Assumes nothing.
use Rattle.std.specs.Prelude.{◌≡◌, Bool, not, ◌&&◌, List, [], ◌∷◌, ◌++◌, ℕ, suc, ◌+◌, ◌-◌, ◌<◌, ◌≤◌, max, eqb, ltb, length, take, drop, set, refl, true, false, cond, Option, Some, None, position}
use Rattle.std.proofs.Common.{ap, ap₂, sym, ◌∙◌, append_assoc, arith, length-set, length-append, length-take-le, ltb-true, ltb-false}
use Rattle.std.specs.List.{position_or_len}
use Rattle.std.specs.Option.{unwrap_or}
use Rattle.std.proofs.lemmas.List.{set_split}
use Rattle.model.specs.Lists.{same}
use Rattle.model.specs.Names.{Name}
use Rattle.model.specs.Memory.{Memory, boxes, name_of, no_mailbox, refill, with_boxes, put_box, add_box, place, known}
use Rattle.model.specs.declared.Mailbox.{Mailbox}
use Rattle.laws.specs.Changing.{refill_same, set_front}
use Rattle.table_mailboxes.specs.Columns.{Column}

-- another mailbox has the name
abbrev pub holds : ℕ → Name → Mailbox → Bool
holds i n x = same (name_of x) n && not (eqb x.id i)

-- the rows become t, and n of them are used
abbrev pub rows_are : Memory → List Mailbox → ℕ → Memory
rows_are m t n = record { rows = t; entries = m.entries; counts = record { mailboxes = n; messages = m.counts.messages; filled = m.counts.filled }; session = m.session; queue = m.queue }

module _ (m : Memory) (fit : m.counts.mailboxes ≤ length m.rows) where
  pub boxes_long : length (boxes m) ≡ m.counts.mailboxes
  boxes_long = length-take-le m.counts.mailboxes m.rows fit

  -- a row is set
  pub put_at_lem : (i k : ℕ) (x : Mailbox) → k ≡ place i (boxes m) → k < m.counts.mailboxes → put_box m i x ≡ rows_are m (set m.rows k x) m.counts.mailboxes
  put_at_lem i k x p h =
      let n = boxes_long in
      let s : length (set (boxes m) k x) ≡ length (boxes m) = length-set (boxes m) k x in
      let r = refill_same no_mailbox m.rows (length (boxes m)) (set (boxes m) k x) s in
      let f : set (boxes m) k x ++ drop (length (boxes m)) m.rows ≡ set m.rows k x = rw n (set_front no_mailbox m.rows m.counts.mailboxes k x h fit) in
      ap (λ (j : ℕ). with_boxes m (set (boxes m) j x)) (sym p) ∙ ap₂ (rows_are m) (r ∙ f) (s ∙ n)

  -- a row is put behind the last
  pub add_at : (x : Mailbox) → m.counts.mailboxes < length m.rows → add_box m x ≡ rows_are m (set m.rows m.counts.mailboxes x) (m.counts.mailboxes + 1)
  add_at x h =
      let n = boxes_long in
      let l = length-append (boxes m) (x ∷ []) in
      let s : length (boxes m ++ (x ∷ [])) ≡ m.counts.mailboxes + 1 = omega arith in
      ap₂ (rows_are m) (grown m.rows m.counts.mailboxes (length (boxes m)) n s h) s
    where
      grown : (t : List Mailbox) (n k : ℕ) → k ≡ n → length (take n t ++ (x ∷ [])) ≡ n + 1 → n < length t → refill no_mailbox t k (take n t ++ (x ∷ [])) ≡ set t n x
      grown t n k e s h =
          let a : k - length (take n t ++ (x ∷ [])) ≡ 0 = omega arith in
          let b : max k (length (take n t ++ (x ∷ []))) ≡ suc n = omega arith in
          rw (a, b) (append_assoc (take n t) (x ∷ []) (drop (suc n) t) ∙ sym (set_split t n x h))

-- ---- the place of the first with id i, if there is one
abbrev pub place_in : ℕ → List Mailbox → Option ℕ
place_in i l = position (λ (x : Mailbox). eqb x.id i) l

place_len : (i : ℕ) (l : List Mailbox) → position_or_len (λ (x : Mailbox). eqb x.id i) l ≡ place i l
unfolding place
place_len i [] = refl
place_len i (x ∷ l) = go (eqb x.id i) (place_len i l)
  where
    go : (b : Bool) → position_or_len (λ (x : Mailbox). eqb x.id i) l ≡ place i l → cond (not b) (1 + position_or_len (λ (x : Mailbox). eqb x.id i) l) 0 ≡ cond b 0 (suc (place i l))
    go true e = refl
    go false e = omega arith

place-le : (i : ℕ) (l : List Mailbox) → place i l ≤ length l
unfolding place
place-le i [] = omega arith
place-le i (x ∷ l) = go (eqb x.id i) (place-le i l)
  where
    go : (b : Bool) → place i l ≤ length l → cond b 0 (suc (place i l)) ≤ suc (length l)
    go true h = omega arith
    go false h = omega arith

-- by where `place` is
pub place_is : (i : ℕ) (l : List Mailbox) → place_in i l ≡ cond (known i l) (Some (place i l)) None
place_is i l = ap (λ (k : ℕ). cond (ltb k (length l)) (Some k) None) (place_len i l)

pub place_some : (i : ℕ) (l : List Mailbox) (k : ℕ) → Some k ≡ place_in i l → (k ≡ place i l) × (k < length l)
place_some i l k e = go (known i l) refl (e ∙ place_is i l)
  where
    go : (b : Bool) → known i l ≡ b → Some k ≡ cond b (Some (place i l)) None → (k ≡ place i l) × (k < length l)
    go true t q = let z : k ≡ place i l = cc in (z, rw z (ltb-true (place i l) (length l) t))
    go false t q = absurd (let z : ⊥ = cc in z)

pub place_none : (i : ℕ) (l : List Mailbox) → None ≡ place_in i l → (place i l ≡ length l) × (known i l ≡ false)
place_none i l e = go (known i l) refl (e ∙ place_is i l)
  where
    go : (b : Bool) → known i l ≡ b → None ≡ cond b (Some (place i l)) None → (place i l ≡ length l) × (known i l ≡ false)
    go true t q = absurd (let z : ⊥ = cc in z)
    go false t q = (let y = ltb-false (place i l) (length l) t in let z = place-le i l in omega arith, t)

-- where there is none, the place behind the last
pub place_or : (i : ℕ) (l : List Mailbox) → unwrap_or (place_in i l) (length l) ≡ place i l
place_or i l = ap (λ (o : Option ℕ). unwrap_or o (length l)) (place_is i l) ∙ go (known i l) refl
  where
    go : (b : Bool) → known i l ≡ b → unwrap_or (cond b (Some (place i l)) None) (length l) ≡ place i l
    go true t = refl
    go false t = let y = ltb-false (place i l) (length l) t in let z = place-le i l in omega arith

-- and by the column of ids
column_place : (i : ℕ) (l : List Mailbox) (c : List ℕ) → length l ≤ length c → Column (λ (x : Mailbox). x.id) l c → position_or_len (λ (y : ℕ). eqb y i) (take (length l) c) ≡ position_or_len (λ (x : Mailbox). eqb x.id i) l
column_place i [] c w p = refl
column_place i (x ∷ l) [] w p = absurd (let z : ⊥ = omega arith in z)
column_place i (x ∷ l) (y ∷ c) w p = ap₂ (λ (j n : ℕ). cond (not (eqb j i)) (1 + n) 0) (p 0 (omega arith)) (column_place i l c (omega arith) (λ k h. p (suc k) (omega arith)))

pub column_place_in : (i : ℕ) (l : List Mailbox) (c : List ℕ) (n : ℕ) → length l ≡ n → n ≤ length c → Column (λ (x : Mailbox). x.id) l c → position (λ (y : ℕ). eqb y i) (take n c) ≡ place_in i l
column_place_in i l c n h w p =
    rw (← h) (ap₂ (λ (k m : ℕ). cond (ltb k m) (Some k) None) (column_place i l c (omega arith) p) (length-take-le (length l) c (omega arith)))
