-- Every entry has one mailbox: those of mailboxes with different ids are together no more than all. Assumes nothing.
use Rattle.std.specs.Prelude.{◌≡◌, Bool, true, false, not, cond, ◌&&◌, List, [], ◌∷◌, eqb}
use Rattle.std.proofs.Math.Path.{refl, ap, ap₂}
use Rattle.std.proofs.Common.{sym, ◌∙◌, eqb-true}
use Prim.Native.Nat.{ℕ, zero, suc, ◌+◌, ◌%◌, ◌<◌, ◌≤◌}
use native.Mathlib.Omega.{arith}
use Rattle.std.proofs.Math.ListN.{length, get_or}
use Rattle.model.specs.Lists.{anyb, apart, filterb, sorted, same}
use Rattle.model.specs.Memory.{by_uid, in_mailbox, messages_of, name_of}
use Rattle.model.specs.Lawful.{clash}
use Rattle.model.specs.Listing.{by_name}
use Rattle.model.specs.declared.Mailbox.{Mailbox}
use Rattle.model.specs.declared.Message.{Message}
use Rattle.model.specs.Laws.{or_l, or_r, and_r, sorted-length}
use Rattle.laws.specs.Counting.{countb, filter-count, filter_both, count-sorted}
use Rattle.table_mailboxes.specs.Columns.{Column}
use Rattle.order_mailboxes.specs.Named.{chosen, Below}
use Rattle.search_find.specs.Runs.{id_at, sizes}

-- ---- entries of several mailboxes together
abbrev total : List Message → List Mailbox → ℕ
total es [] = 0
total es (x ∷ xs) = countb (in_mailbox x.id) es + total es xs

total_none : (xs : List Mailbox) → total [] xs ≡ 0
total_none [] = refl
total_none (x ∷ xs) = let h = total_none xs in omega arith

total-more : (e : Message) (es : List Message) (xs : List Mailbox) → total (e ∷ es) xs ≡ countb (λ (x : Mailbox). in_mailbox x.id e) xs + total es xs
total-more e es [] = refl
total-more e es (x ∷ xs) = let h = total-more e es xs in omega arith

-- an entry is of one of them at most
abbrev pub Single : List Mailbox → Type 0
Single xs = (e : Message) → countb (λ (x : Mailbox). in_mailbox x.id e) xs ≤ 1

total_few : (es : List Message) (xs : List Mailbox) → Single xs → total es xs ≤ length es
total_few [] xs s = let h = total_none xs in omega arith
total_few (e ∷ es) xs s = let h = total-more e es xs in let k = s e in let r = total_few es xs s in omega arith

-- ---- ids that differ
single_filtered : (p q : Mailbox → Bool) (l : List Mailbox) → countb p (sorted by_name (filterb q l)) ≤ countb p l
single_filtered p q l = let a = count-sorted p by_name (filterb q l) in let b = filter_both p q l in let c = fewer l in omega arith
  where
    one : (a b : Bool) (n m : ℕ) → n ≤ m → cond (a && b) 1 0 + n ≤ cond b 1 0 + m
    one true b n m h = omega arith
    one false true n m h = omega arith
    one false false n m h = omega arith

    fewer : (l : List Mailbox) → countb (λ (x : Mailbox). q x && p x) l ≤ countb p l
    fewer [] = omega arith
    fewer (x ∷ l) = one (q x) (p x) (countb (λ (x : Mailbox). q x && p x) l) (countb p l) (fewer l)

and_left : (a b : Bool) → (not a && b) ≡ true → a ≡ false
and_left true b h = sym h
and_left false b h = refl

-- none of the others has the id of one that clashes with none of them
others : (i : ℕ) (x : Mailbox) (l : List Mailbox) → eqb i x.id ≡ true → anyb (λ (y : Mailbox). clash x y) l ≡ false → countb (λ (y : Mailbox). eqb i y.id) l ≡ 0
others i x [] e h = refl
others i x (y ∷ l) e h =
    let t = or_r (clash x y) (anyb (λ (z : Mailbox). clash x z) l) h in
    let u = or_l (eqb x.id y.id) (same (name_of x) (name_of y)) (or_l (clash x y) (anyb (λ (z : Mailbox). clash x z) l) h) in
    let r = others i x l e t in
    ap (λ (b : Bool). cond b 1 0 + countb (λ (z : Mailbox). eqb i z.id) l) (ap (λ (k : ℕ). eqb k y.id) (eqb-true i x.id e) ∙ u) ∙ (let z : 0 + countb (λ (z : Mailbox). eqb i z.id) l ≡ 0 = omega arith in z)

single-apart : (l : List Mailbox) → apart clash l ≡ true → Single l
single-apart [] h e = omega arith
single-apart (x ∷ l) h e = go (eqb e.mailbox x.id) refl (single-apart l (and_r (not (anyb (λ (y : Mailbox). clash x y) l)) (apart clash l) h) e)
  where
    go : (b : Bool) → eqb e.mailbox x.id ≡ b → countb (λ (y : Mailbox). eqb e.mailbox y.id) l ≤ 1 → cond b 1 0 + countb (λ (y : Mailbox). eqb e.mailbox y.id) l ≤ 1
    go true q r = let z = others e.mailbox x l q (and_left (anyb (λ (y : Mailbox). clash x y) l) (apart clash l) h) in omega arith
    go false q r = omega arith

-- ---- the entries at the places of an order of rows
module _ (es : List Message) (l : List Mailbox) (ids rows : List ℕ) (w : length l ≤ 64) (c : Column (λ x. x.id) l ids) where
  box-size : (i : ℕ) → length (messages_of i es) ≡ countb (in_mailbox i) es
  box-size i = sorted-length by_uid (filterb (in_mailbox i) es) ∙ filter-count (in_mailbox i) es

  sizes_total : (n : ℕ) → Below rows n (length l) → sizes es ids rows n ≡ total es (chosen l rows n)
  unfolding sizes chosen
  sizes_total zero b = refl
  sizes_total (suc n) b =
      let h = b n (omega arith) in
      let k : get_or rows n 0 % 64 < length l = omega arith in
      ap₂ (λ (x y : ℕ). x + y) (box-size (id_at ids rows n) ∙ ap (λ (i : ℕ). countb (in_mailbox i) es) (c (get_or rows n 0 % 64) k)) (sizes_total n (λ j z. b j (omega arith)))

  -- all of them together are no more than the table has
  pub sizes_fit : (n : ℕ) (q : Mailbox → Bool) → Below rows n (length l) → chosen l rows n ≡ sorted by_name (filterb q l) → apart clash l ≡ true → sizes es ids rows n ≤ length es
  sizes_fit n q b e a =
      let t = sizes_total n b in
      let f = total_few es (chosen l rows n) (λ d. (let p : Mailbox → Bool = λ x. in_mailbox x.id d in let y = ap (countb p) e in let z = single_filtered p q l in let v = single-apart l a d in omega arith)) in
      omega arith
