-- Counts along the table: how many messages of a mailbox exist, and a place in the view. Assumes nothing.
use mir.Val.{bool_byte}
use Rattle.std.specs.Prelude.{◌≡◌, refl, Bool, true, false, not, cond, ◌&&◌, List, [], ◌∷◌, ℕ, ◌+◌, ◌%◌, ◌<◌, ◌≤◌, ltb, length, map, drop, get_or}
use Rattle.std.specs.List.{filter}
use Rattle.std.specs.Int.Bits.{bit_or}
use Rattle.std.proofs.Common.{ap, sym, ◌∙◌, arith, ne_eqb}
use Rattle.std.proofs.Math.ListN.{get_or-map}
use Rattle.std.proofs.lemmas.List.{at_drop_more, length-map}
use Rattle.std.proofs.lemmas.List.Recursion.{is_count_by}
use Rattle.std.proofs.lemmas.List.Sums.{length-filter}
use Rattle.model.specs.Lists.{filterb}
use Rattle.model.specs.Memory.{no_message, uid_of, expunged, in_mailbox, by_uid, messages_of, existing}
use Rattle.model.specs.declared.Message.{Message}
use Rattle.laws.specs.Counting.{countb, filter-count, filter_both, count-sorted}
use Rattle.table_messages.specs.Words.{of_row}
use Rattle.table_messages.specs.Joined.{join_l, join_r}

abbrev pub lives : ℕ → Message → Bool
lives id e = in_mailbox id e && not (expunged e)

pub existing-count : (id : ℕ) (l : List Message) → length (existing id l) ≡ countb (lives id) l
existing-count id l =
    let p : Message → Bool = λ e. not (expunged e) in
    filter-count p (messages_of id l)
    ∙ (count-sorted p by_uid (filterb (in_mailbox id) l)
    ∙ filter_both p (in_mailbox id) l)

-- ---- as code counts them
one_if : (b : Bool) → bool_byte b ≡ cond b 1 0
one_if true = refl
one_if false = refl

pub one_most : (b : Bool) → bool_byte b ≤ 1
one_most true = omega arith
one_most false = omega arith

pub count_as : (p : Message → Bool) (l : List Message) → length (filter p l) ≡ countb p l
count_as p l = length-filter p l ∙ sym (is_count_by (countb p) p refl (λ x l. go (p x) (countb p l)) l)
  where
    go : (b : Bool) (n : ℕ) → cond b 1 0 + n ≡ cond b (1 + n) n
    go true n = refl
    go false n = omega arith

-- one row more is counted
pub count_next : (p : Message → Bool) (rs : List (List ℕ)) (i n : ℕ) → i < length rs → countb p (map of_row rs) ≡ n + countb p (drop i (map of_row rs))
    → countb p (map of_row rs) ≡ n + bool_byte (p (of_row (get_or rs i []))) + countb p (drop (i + 1) (map of_row rs))
count_next p rs i n h e =
    let l = drop (i + 1) (map of_row rs) in
    let f = at_drop_more (countb p) (map of_row rs) i no_message (rw (length-map rs of_row) h) ∙ ap (λ (y : Message). countb p (y ∷ l)) (get_or-map of_row rs i []) in
    omega (arith, f, one_if (p (of_row (get_or rs i []))))

-- ---- the quick pass: the mailbox's entries, and all states joined bit by bit
-- an entry without a state is not expunged
at_rest : (id : ℕ) (x : Message) → x.states ≡ 0 → in_mailbox id x ≡ lives id x
at_rest id x h = let k : x.states % 2 ≡ 1 → ⊥ = λ z. omega arith in rw (ne_eqb (x.states % 2) 1 k) (all (in_mailbox id x))
  where
    all : (b : Bool) → b ≡ (b && true)
    all true = refl
    all false = refl

-- where the join is zero, so are the states so far and those of the entry
pub at_rest_here : (id s : ℕ) (x : Message) → bit_or s x.states ≡ 0 → (s ≡ 0) × (in_mailbox id x ≡ lives id x)
at_rest_here id s x z =
    let a = join_l s x.states in
    let b = join_r s x.states in
    (omega arith, at_rest id x (omega arith))

-- ---- a place in the view: one more than the mailbox's entries that are announced and have a lower UID
abbrev pub before : ℕ → ℕ → ℕ → Message → Bool
before id told u e = in_mailbox id e && (ltb (uid_of e) told && ltb (uid_of e) u)
