-- Numbers that all differ, seen while a table of guesses is filled: whoever finds its slot taken is compared with all before it. Assumes nothing.
use Rattle.std.specs.Prelude.{◌≡◌, ℕ, zero, suc, ◌*◌, ◌/◌, ◌%◌, ◌<◌, ◌≤◌, Bool, true, false, cond, not, List, [], ◌∷◌, length, get_or, replicate, ◌==◌, ◌≢◌, slice_index, slice_index_or, refl}
use Rattle.std.proofs.Common.{ap, sym, ◌∙◌, arith, eq-eqb, eqb-true}
use Rattle.model.specs.Laws.{and_l, and_r, or_r, tf}
use Rattle.model.specs.Lists.{anyb, apart}
use Rattle.model.specs.Memory.{no_mailbox, place}
use Rattle.model.specs.Lawful.{clash}
use Rattle.model.specs.declared.Mailbox.{Mailbox}
use Rattle.table_mailboxes.specs.Columns.{zero_at}

-- the slot of a number: its product with a number near 2 ^ 32 by the golden ratio, the upper ten bits of the lower 32
unfoldable pub slot_of : ℕ → ℕ
slot_of x = x % 4294967296 * 2654435769 % 4294967296 / 4194304

-- none of the numbers up to a place is x
abbrev pub Absent : List ℕ → ℕ → ℕ → Type 0
Absent d upto x = (j : ℕ) → j < upto → slice_index d j ≢ x

-- no two below n are equal
abbrev pub Differ : List ℕ → ℕ → Type 0
Differ d n = (i : ℕ) → i < n → Absent d i (slice_index d i)

-- each number names one of n rows
abbrev pub Low : List ℕ → ℕ → Type 0
Low l n = 1 ≤ n → (s : ℕ) → slice_index l s < n

pub low_zeros : (m n : ℕ) (l : List ℕ) → l ≡ replicate m 0 → Low l n
low_zeros m n l e a s = let z = zero_at m s in rw e (omega arith)

pub low_wider : (l : List ℕ) (n m : ℕ) → 1 ≤ n → n ≤ m → Low l n → Low l m
low_wider l n m o h p a s = let z = p o s in omega arith

-- the slots of the numbers below i are taken; the first number takes none
abbrev pub Taken : List ℕ → List ℕ → ℕ → Type 0
Taken d slots i = (j : ℕ) → 1 ≤ j → j < i → slice_index slots (slot_of (slice_index d j)) ≢ 0

-- rows whose numbers differ, and whose digests do, do not clash
pub differ-apart : (l : List Mailbox) → ((i j : ℕ) → i < j → j < length l → clash (slice_index_or l i no_mailbox) (slice_index_or l j no_mailbox) ≡ false) → apart clash l ≡ true
differ-apart [] h = refl
differ-apart (x ∷ l) h = rw (none l (λ j k. h 0 (suc j) (omega arith) (omega arith)), differ-apart l (λ i j a b. h (suc i) (suc j) (omega arith) (omega arith)))
  where
    none : (l : List Mailbox) → ((j : ℕ) → j < length l → clash x (slice_index_or l j no_mailbox) ≡ false) → anyb (λ (y : Mailbox). clash x y) l ≡ false
    none [] h = refl
    none (y ∷ l) h = rw (h 0 (omega arith)) (none l (λ j k. h (suc j) (omega arith)))

-- ids that differ: the place of an id is where it stands
none_here : (o : ℕ) (x : Mailbox) (l : List Mailbox) (k : ℕ) → x.id ≡ o → k < length l → (get_or l k no_mailbox).id ≡ o → anyb (λ (y : Mailbox). clash x y) l ≢ false
none_here o x [] k e h f n = omega arith
none_here o x (y ∷ l) zero e h f n = let z : ◌≡◌ {A = Bool} true false = sym (rw (eq-eqb x.id y.id (e ∙ sym f)) refl) ∙ n in tf true refl z
none_here o x (y ∷ l) (suc k) e h f n = none_here o x l k e (omega arith) f (or_r (clash x y) (anyb (λ (y : Mailbox). clash x y) l) n)

pub place_own : (o : ℕ) (l : List Mailbox) (k : ℕ) → apart clash l ≡ true → k < length l → (get_or l k no_mailbox).id ≡ o → place o l ≡ k
unfolding place
place_own o [] k a h e = absurd (omega arith)
place_own o (x ∷ l) zero a h e = rw (eq-eqb x.id o e)
place_own o (x ∷ l) (suc k) a h e = go (x.id == o) refl (place_own o l k (and_r (not (anyb (λ (y : Mailbox). clash x y) l)) (apart clash l) a) (omega arith) e)
  where
    n : not (anyb (λ (y : Mailbox). clash x y) l) ≡ true
    n = and_l (not (anyb (λ (y : Mailbox). clash x y) l)) (apart clash l) a

    f : (b : Bool) → not b ≡ true → b ≡ false
    f true q = tf false q refl
    f false q = refl

    go : (b : Bool) → (x.id == o) ≡ b → place o l ≡ k → cond b 0 (suc (place o l)) ≡ suc k
    go true q ih = absurd (none_here o x l k (eqb-true x.id o q) (omega arith) e (f (anyb (λ (y : Mailbox). clash x y) l) n))
    go false q ih = ap suc ih
