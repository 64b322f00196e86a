-- One pass over the messages: what each entry must meet, and why that is enough. Assumes nothing.
use Rattle.std.specs.Prelude.{◌≡◌, ℕ, zero, suc, ◌+◌, ◌*◌, ◌/◌, ◌%◌, ◌<◌, ◌≤◌, Bool, true, false, ◌&&◌, ◌||◌, List, [], ◌∷◌, ◌++◌, length, get_or, take, ◌==◌, bit_or, nat_le, nat_lt, slice_index, slice_index_or, slice_set, refl}
use Rattle.std.proofs.Common.{ap, sym, ◌∙◌, arith, take-suc, get_or-set_same, get_or-set_other, eq-eqb, ne_eqb, lt-ltb, le-leb, leb-true, ltb-true, eqb-true}
use Rattle.std.proofs.lemmas.Bool.{eqb-false}
use Rattle.model.specs.Laws.{and_l, and_r, or_true, each, all_hold}
use Rattle.model.specs.Lists.{allb, apart, every}
use Rattle.model.specs.Memory.{no_mailbox, no_message, uid_of, place, known, the_mailbox, counter_of}
use Rattle.model.specs.Lawful.{counter_ok, clash, mailbox_ok, message_ok, twin, owned}
use Rattle.demands.specs.Lasting.Rows.{all_snoc, all_imp, all_both, any_none, apart_snoc}
use Rattle.table_mailboxes.specs.Columns.{Column}
use Rattle.table_messages.specs.Words.{row, messages, messages_get, messages-length, messages-count}
use Rattle.std.proofs.Math.Seq.{take-length}
use Rattle.table_messages.specs.Joined.{join_l, join_r}
use Rattle.model.specs.declared.Mailbox.{Mailbox}
use Rattle.model.specs.declared.Message.{Message}
use Rattle.lawful_quick.specs.declared.Pass.{Pass}
use Rattle.lawful_digests.specs.Distinct.{Low, place_own}

-- the ids and the UIDNEXTs of the rows, by which the owner of a message is known
pub record Owners (l : List Mailbox) (ids nexts : List ℕ) : Type 0 where
  pub id : Column (λ (x : Mailbox). x.id) l ids
  pub next : Column (λ (x : Mailbox). x.uidnext) l nexts

-- a state as the selected id and the view's bound let it stand
abbrev pub state_at : ℕ → ℕ → Message → Bool
state_at selected told e = e.states == 0 || (e.mailbox == selected && nat_lt (uid_of e) told)

-- the message whose six words start at b
abbrev pub entry_at : List ℕ → ℕ → Message
entry_at ws b = row (slice_index ws b) (slice_index ws (b + 1)) (slice_index ws (b + 2)) (slice_index ws (b + 3)) (slice_index ws (b + 4)) (slice_index ws (b + 5))

pub entry_at_lem : (ws : List ℕ) (b : ℕ) → b % 6 ≡ 0 → b + 6 ≤ length ws → slice_index_or (messages ws) (b / 6) no_message ≡ entry_at ws b
entry_at_lem ws b r h = let e : b / 6 * 6 ≡ b = omega arith in rw e at (messages_get (b / 6) ws (omega arith))

-- an entry whose state may stand
pub record Viewed (e : Message) (selected told : ℕ) : Type 0 where
  pub few : e.states ≤ 2
  pub state : state_at selected told e ≡ true

-- an entry of the mailbox with this id and this highest counter, above low, whose state may stand
pub record Fits (e : Message) (id low highest selected told : ℕ) : Type 0 where
  pub mailbox : e.mailbox ≡ id
  pub above : low < uid_of e
  pub some : 1 ≤ e.counter
  pub counted : e.counter ≤ highest
  pub viewed : Viewed e selected told

-- a message in order whose flags and size are at most these; its counter's upper end is known by its mailbox's
abbrev pub ok_up_to : ℕ → ℕ → Message → Bool
ok_up_to flags size e = every (
    nat_le 1 (uid_of e)
    ∷ nat_le e.flags flags
    ∷ nat_le e.size size
    ∷ nat_le e.states 2
    ∷ nat_le 1 e.counter
    ∷ []
    )

module _ (e : Message) (flags size : ℕ) where
  ok_up_to_lem : 1 ≤ uid_of e → e.flags ≤ flags → e.size ≤ size → e.states ≤ 2 → 1 ≤ e.counter → ok_up_to flags size e ≡ true
  ok_up_to_lem u f z s c =
      all_hold (nat_le 1 (uid_of e) ∷ nat_le e.flags flags ∷ nat_le e.size size ∷ nat_le e.states 2 ∷ nat_le 1 e.counter ∷ [])
      (le-leb 1 (uid_of e) u, (le-leb e.flags flags f, (le-leb e.size size z, (le-leb e.states 2 s, (le-leb 1 e.counter c, tt)))))

  ok_wider : (low small : ℕ) → low ≤ flags → small ≤ size → ok_up_to low small e ≡ true → ok_up_to flags size e ≡ true
  ok_wider low small h k o =
      let p = each (nat_le 1 (uid_of e) ∷ nat_le e.flags low ∷ nat_le e.size small ∷ nat_le e.states 2 ∷ nat_le 1 e.counter ∷ []) o in
      let f = leb-true e.flags low p.1.0 in
      let z = leb-true e.size small p.1.1.0 in
      ok_up_to_lem (leb-true 1 (uid_of e) p.0) (omega arith) (omega arith) (leb-true e.states 2 p.1.1.1.0) (leb-true 1 e.counter p.1.1.1.1.0)

in_range_lem : (e : Message) → ok_up_to 31 4294967295 e ≡ true → e.counter ≤ 9223372036854775807 → message_ok e ≡ true
in_range_lem e o h =
    let p = each (nat_le 1 (uid_of e) ∷ nat_le e.flags 31 ∷ nat_le e.size 4294967295 ∷ nat_le e.states 2 ∷ nat_le 1 e.counter ∷ []) o in
    all_hold (nat_le 1 (uid_of e) ∷ nat_le e.flags 31 ∷ nat_le e.size 4294967295 ∷ nat_le e.states 2 ∷ counter_ok e.counter ∷ [])
    (p.0, (p.1.0, (p.1.1.0, (p.1.1.1.0, (rw p.1.1.1.1.0 (le-leb e.counter 9223372036854775807 h), tt)))))

-- a row in order, and its counter
pub all_get : (l : List Mailbox) (k : ℕ) → allb mailbox_ok l ≡ true → k < length l → mailbox_ok (slice_index_or l k no_mailbox) ≡ true
all_get [] k e h = absurd (omega arith)
all_get (x ∷ l) zero e h = and_l (mailbox_ok x) _ e
all_get (x ∷ l) (suc k) e h = all_get l k (and_r (mailbox_ok x) _ e) (omega arith)

counter_high : (x : Mailbox) → mailbox_ok x ≡ true → counter_of x ≤ 9223372036854775807
counter_high x h =
    let a = and_r (nat_le 1 x.id) _ h in
    let b = and_r (nat_le x.attributes 63) _ a in
    let c = and_r (nat_le 1 x.uidvalidity) _ b in
    let d = and_r (nat_le 1 x.uidnext) _ c in
    leb-true (counter_of x) 9223372036854775807 (and_r (nat_le 1 (counter_of x)) _ (and_l (counter_ok (counter_of x)) _ d))

-- the last UIDs of n rows are below their UIDNEXTs
abbrev pub Below : List ℕ → List ℕ → ℕ → Type 0
Below last nexts n = (k : ℕ) → k < n → slice_index last k < slice_index nexts k

-- all that is said of the messages
pub record Good (l : List Mailbox) (selected told : ℕ) (es : List Message) : Type 0 where
  pub mail : allb message_ok es ≡ true
  pub owners : allb (owned l) es ≡ true
  pub states : allb (state_at selected told) es ≡ true
  pub twins : apart twin es ≡ true

pub good_none : (l : List Mailbox) (selected told : ℕ) → Good l selected told []
good_none l s t = record { mail = refl; owners = refl; states = refl; twins = refl }

-- the mailbox is known, the counter not above its own, and no UID of it above the last one of its row
abbrev pub at_most : List Mailbox → List ℕ → Message → Bool
at_most l last d = known d.mailbox l && (nat_le d.counter (counter_of (the_mailbox d.mailbox l)) && nat_le (uid_of d) (slice_index last (place d.mailbox l)))

pub record Going (l : List Mailbox) (selected told flags size : ℕ) (last : List ℕ) (es : List Message) : Type 0 where
  pub mail : allb (ok_up_to flags size) es ≡ true
  pub states : allb (state_at selected told) es ≡ true
  pub twins : apart twin es ≡ true
  pub low : allb (at_most l last) es ≡ true

pub going_start : (l : List Mailbox) (selected told flags size : ℕ) (last : List ℕ) → Going l selected told flags size last []
going_start l s t f z last = record { mail = refl; states = refl; twins = refl; low = refl }

-- the entries before the place where a pass is are in order
abbrev pub Passed : List ℕ → List Mailbox → ℕ → ℕ → Pass → List ℕ → Type 0
Passed ws l selected told p last = Going l selected told p.flags p.size last (take (p.at / 6) (messages ws))

-- a run from one place to another: whatever mailboxes the rows are, it keeps the entries passed in order
pub record Ran (ws : List ℕ) (end : ℕ) (ids counters slots : List ℕ) (selected told : ℕ) (from : Pass) (before : List ℕ) (p : Pass) (last : List ℕ) : Type 0 where
  pub on : from.at ≤ p.at
  pub inside : p.at ≤ end
  pub whole : p.at % 6 ≡ 0
  pub long : length last ≡ 64
  pub kept : (l : List Mailbox) (nexts : List ℕ) → Owners l ids nexts → Column counter_of l counters → apart clash l ≡ true → 1 ≤ length l → Low slots (length l)
      → Passed ws l selected told from before → Passed ws l selected told p last

module _ (l : List Mailbox) (ids nexts counters : List ℕ) (w : Owners l ids nexts) (v : Column counter_of l counters) (a : apart clash l ≡ true) (selected told : ℕ) (last : List ℕ) where
  at_most_lem : (d : Message) → at_most l last d ≡ true → uid_of d ≤ slice_index last (place d.mailbox l)
  at_most_lem d h = leb-true _ _ (and_r (nat_le d.counter (counter_of (the_mailbox d.mailbox l))) _ (and_r (known d.mailbox l) _ h))

  counted : (d : Message) → at_most l last d ≡ true → nat_le d.counter (counter_of (the_mailbox d.mailbox l)) ≡ true
  counted d h = and_l (nat_le d.counter (counter_of (the_mailbox d.mailbox l))) _ (and_r (known d.mailbox l) _ h)

  module _ (es : List Message) (e : Message) (k : ℕ) (inside : k < length l) (f : Fits e (slice_index ids k) (slice_index last k) (slice_index counters k) selected told) where
    here : place e.mailbox l ≡ k
    here = place_own e.mailbox l k a inside (sym (w.id k inside) ∙ sym f.mailbox)

    other : (d : Message) → at_most l last d ≡ true → twin d e ≡ false
    other d h = go (d.mailbox == e.mailbox) refl
      where
        b : uid_of d ≤ slice_index last (place d.mailbox l)
        b = at_most_lem d h

        go : (c : Bool) → (d.mailbox == e.mailbox) ≡ c → c && (uid_of d == uid_of e) ≡ false
        go true q =
            ne_eqb (uid_of d) (uid_of e)
            (λ z.
            let p : place d.mailbox l ≡ k = ap (λ (i : ℕ). place i l) (eqb-true d.mailbox e.mailbox q) ∙ here in
            let u : uid_of d ≤ get_or last k 0 = rw p at b in let v = f.above in omega arith)
        go false q = refl

    lower : k < length last → (d : Message) → at_most l last d ≡ true → at_most l (slice_set last k (uid_of e)) d ≡ true
    lower h d q = rw (and_l (known d.mailbox l) _ q, counted d q) (go (place d.mailbox l == k) refl)
      where
        b : uid_of d ≤ slice_index last (place d.mailbox l)
        b = at_most_lem d q

        go : (c : Bool) → (place d.mailbox l == k) ≡ c → nat_le (uid_of d) (slice_index (slice_set last k (uid_of e)) (place d.mailbox l)) ≡ true
        go true r =
            let p = eqb-true (place d.mailbox l) k r in
            let u : uid_of d ≤ get_or last k 0 = rw p at b in let v = f.above in rw (p, get_or-set_same last k (uid_of e) 0 h) (le-leb (uid_of d) (uid_of e) (omega arith))
        go false r = rw (get_or-set_other last k (place d.mailbox l) (uid_of e) 0 (eqb-false (place d.mailbox l) k r)) (le-leb _ _ b)

    -- the join of the flags so far, or of the sizes, takes the entry's in
    in_order : (flags size : ℕ) → allb (ok_up_to flags size) es ≡ true → allb (ok_up_to (bit_or flags e.flags) (bit_or size e.size)) (es ++ (e ∷ [])) ≡ true
    in_order flags size h =
        let above = f.above in
        let ok = ok_up_to (bit_or flags e.flags) (bit_or size e.size) in
        all_snoc ok es e
        (all_imp (ok_up_to flags size) ok (λ d. ok_wider d (bit_or flags e.flags) (bit_or size e.size) flags size (join_l flags e.flags) (join_l size e.size)) es h)
        (ok_up_to_lem e (bit_or flags e.flags) (bit_or size e.size) (omega arith) (join_r flags e.flags) (join_r size e.size) f.viewed.few f.some)

    its_own : e.counter ≤ counter_of (slice_index_or l k no_mailbox)
    its_own = rw (v k inside) at f.counted

    pub going_next : (flags size : ℕ) → k < length last → Going l selected told flags size last es
        → Going l selected told (bit_or flags e.flags) (bit_or size e.size) (slice_set last k (uid_of e)) (es ++ (e ∷ []))
    going_next flags size h g = record {
      mail = in_order flags size g.mail;
      states = all_snoc (state_at selected told) es e g.states f.viewed.state;
      twins = apart_snoc twin es e g.twins (any_none (at_most l last) (λ (d : Message). twin d e) other es g.low);
      low =
          all_snoc (at_most l (slice_set last k (uid_of e))) es e (all_imp (at_most l last) (at_most l (slice_set last k (uid_of e))) (lower h) es g.low)
          (rw (here, lt-ltb k (length l) inside, le-leb e.counter (counter_of (slice_index_or l k no_mailbox)) its_own, get_or-set_same last k (uid_of e) 0 h) (le-leb (uid_of e) (uid_of e) (omega arith)));
    }

  -- where the last UIDs are below the UIDNEXTs, all are
  module _ (p : Below last nexts (length l)) (ok : allb mailbox_ok l ≡ true) where
    is-owned : (d : Message) → at_most l last d ≡ true → owned l d ≡ true
    is-owned d h =
        let b = at_most_lem d h in
        let q = and_l (known d.mailbox l) _ h in
        let i : place d.mailbox l < length l = ltb-true _ _ q in
        let n = w.next (place d.mailbox l) i in
        let m = p (place d.mailbox l) i in
        rw (q, lt-ltb (uid_of d) (the_mailbox d.mailbox l).uidnext (omega arith), counted d h)

    is_ok : (flags size : ℕ) → flags ≤ 31 → size ≤ 4294967295 → (d : Message) → ok_up_to flags size d ≡ true → at_most l last d ≡ true → message_ok d ≡ true
    is_ok flags size f z d o h =
        let i : place d.mailbox l < length l = ltb-true _ _ (and_l (known d.mailbox l) _ h) in
        let b = leb-true d.counter (counter_of (the_mailbox d.mailbox l)) (counted d h) in
        let t = counter_high (the_mailbox d.mailbox l) (all_get l (place d.mailbox l) ok i) in
        in_range_lem d (ok_wider d 31 4294967295 flags size f z o) (omega arith)

    pub gone : (es : List Message) (flags size : ℕ) → flags ≤ 31 → size ≤ 4294967295 → Going l selected told flags size last es → Good l selected told es
    gone es flags size f z g =
        record {
          mail = all_both (ok_up_to flags size) (at_most l last) message_ok (is_ok flags size f z) es g.mail g.low;
          owners = all_imp (at_most l last) (owned l) is-owned es g.low;
          states = g.states;
          twins = g.twins;
        }

-- the entries of all the words
pub all_used : (ws : List ℕ) (n : ℕ) → n ≡ length ws / 6 → take n (messages ws) ≡ messages ws
all_used ws n e = rw (e, ← messages-count ws) (take-length (messages ws))

-- a pass with one entry more
pub passed_next : (ws ids nexts counters : List ℕ) (l : List Mailbox) → Owners l ids nexts → Column counter_of l counters → apart clash l ≡ true
    → (selected told : ℕ) (p : Pass) (last : List ℕ) (k : ℕ) → p.at % 6 ≡ 0 → p.at + 6 ≤ length ws → k < length l → k < length last
    → Fits (entry_at ws p.at) (slice_index ids k) (slice_index last k) (slice_index counters k) selected told → Passed ws l selected told p last
    → Passed ws l selected told (record { at = p.at + 6; flags = bit_or p.flags (slice_index ws (p.at + 2)); size = bit_or p.size (slice_index ws (p.at + 3)) })
    (slice_set last k (slice_index ws (p.at + 1)))
passed_next ws ids nexts counters l w v a selected told p last k r whole inside low f g =
    let es = messages ws in
    let i = p.at / 6 in
    let many = messages-length (i + 1) ws (omega arith) in
    let h : i < length es = omega arith in
    let on : (p.at + 6) / 6 ≡ suc i = omega arith in
    rw (on, take-suc es i no_message h, entry_at_lem ws p.at r (omega arith))
    (going_next l ids nexts counters w v a selected told last (take i es) (entry_at ws p.at) k inside f p.flags p.size low g)

module _ (e : Message) (selected told : ℕ) where
  pub at_rest : e.states ≡ 0 → Viewed e selected told
  at_rest h = record { few = omega arith; state = rw (eq-eqb e.states 0 h) }

  pub in-view : e.states ≤ 2 → e.mailbox ≡ selected → nat_lt (uid_of e) told ≡ true → Viewed e selected told
  in-view f h k = record { few = f; state = rw (eq-eqb e.mailbox selected h, k) (or_true (e.states == 0)) }

-- ---- the conditions on the tables, together
abbrev pub tables_ok : List Mailbox → List Message → ℕ → ℕ → List Bool
tables_ok l es selected told = apart clash l ∷ allb message_ok es ∷ apart twin es ∷ allb (owned l) es ∷ allb (state_at selected told) es ∷ []

abbrev pub entry_ok : List Mailbox → ℕ → ℕ → Message → Bool
entry_ok l selected told e = message_ok e && (owned l e && state_at selected told e)

-- the same in the order of the slow test
regroup : (a b c d e : Bool) → every (a ∷ b ∷ c ∷ d ∷ e ∷ []) ≡ (a && ((b && (d && e)) && c))
regroup false b c d e = refl
regroup true false c d e = refl
regroup true true c false e = swapped c
  where
    swapped : (c : Bool) → (c && false) ≡ false
    swapped true = refl
    swapped false = refl
regroup true true c true false = swapped c
  where
    swapped : (c : Bool) → (c && false) ≡ false
    swapped true = refl
    swapped false = refl
regroup true true true true true = refl
regroup true true false true true = refl

both : (a b c x y z : Bool) → ((a && (b && c)) && (x && (y && z))) ≡ ((a && x) && ((b && y) && (c && z)))
both false b c x y z = refl
both true b c false y z = last b c
  where
    last : (b c : Bool) → ((b && c) && false) ≡ false
    last true true = refl
    last true false = refl
    last false c = refl
both true false c true y z = refl
both true true c true false z = last c
  where
    last : (c : Bool) → (c && false) ≡ false
    last true = refl
    last false = refl
both true true false true true z = refl
both true true true true true z = refl

all_three : (l : List Mailbox) (s t : ℕ) (es : List Message) → allb (entry_ok l s t) es ≡ (allb message_ok es && (allb (owned l) es && allb (state_at s t) es))
all_three l s t [] = refl
all_three l s t (e ∷ es) = rw (all_three l s t es) (both (message_ok e) (owned l e) (state_at s t e) (allb message_ok es) (allb (owned l) es) (allb (state_at s t) es))

pub slow_order : (l : List Mailbox) (es : List Message) (s t : ℕ) → every (tables_ok l es s t) ≡ (apart clash l && (allb (entry_ok l s t) es && apart twin es))
slow_order l es s t =
    regroup (apart clash l) (allb message_ok es) (apart twin es) (allb (owned l) es) (allb (state_at s t) es)
    ∙ sym (ap (λ (b : Bool). apart clash l && (b && apart twin es)) (all_three l s t es))

pub good_decides : (l : List Mailbox) (es : List Message) (s t : ℕ) → Good l s t es → (allb (entry_ok l s t) es && apart twin es) ≡ true
good_decides l es s t g = rw (all_three l s t es, g.mail, g.owners, g.states, g.twins)
