-- The account and the memory agree: the marks, the expunged entries and the view's number are just what the history says. What a command end then owes. Assumes nothing.
use Rattle.std.specs.Prelude.{◌≡◌, Bool, not, ◌&&◌, ℕ, zero, suc, ◌+◌, ◌-◌, eqb, leb, ltb, length}
use Rattle.std.proofs.Math.Path.{refl, ap}
use Rattle.std.proofs.Common.{◌∙◌, ap₂, arith, leb-true}
use mathlib.Core.List.{List, [], ◌∷◌, ◌++◌, map}
use Rattle.std.proofs.Math.Bool.{true, false, cond}
use Rattle.std.proofs.lemmas.List.{length-map}
use Rattle.model.specs.Lists.{filterb, anyb}
use Rattle.model.specs.Laws.{filter_map, each}
use Rattle.model.specs.Text.{bit}
use Rattle.model.specs.Memory.{Memory, mails, selected_box, both_rights, uid_of, expunged, marked, in_mailbox, by_uid, messages_of}
use Rattle.model.specs.Lines.{Line, exists, expunge, render}
use Rattle.model.specs.Queue.{fitting}
use Rattle.model.specs.View.{announced, selected_messages, view, unannounced, expunge_lines, flags_line, marked_lines, exists_line, remainder, owed, place_of}
use Rattle.model.specs.Rules.{rested}
use Rattle.model.specs.Lawful.{message_ok, counter_ok}
use Rattle.demands.specs.Lasting.Law.{Law}
use Rattle.model.specs.declared.Message.{Message}
use Rattle.model.specs.Fates.{arrival, removal, marking, is_notice, is_exists}
use Rattle.model.specs.Seen.{apparent}
use Rattle.model.specs.Due.{Account, waiting, viewed, unseen, removal_lines, marking_lines, left, owing}
use Rattle.model.specs.Account.{notices}
use Rattle.demands.specs.Ledger.Each.{twice, all_append, All, none, also, all_yes, all_to, all_with, all-kept, all_pass, all_ordered, filter-agree, filter_all, sort-map}
use Rattle.demands.specs.Ledger.Entries.{present, state_of, found}

-- the account agrees with memory: in memory waits what waits in the account, and nothing else
pub record Books (m : Memory) (a : Account) : Type 0 where
  pub kept : a.kept ≡ map rested (mails m)
  pub removals : (u : ℕ) → waiting a.fates (removal u) ≡ eqb (state_of m.session.selected u (mails m)) 1
  pub markings : (u : ℕ) → waiting a.fates (marking u) ≡ eqb (state_of m.session.selected u (mails m)) 2
  pub arrivals : (u : ℕ) → waiting a.fates (arrival u) ≡ (present m.session.selected u (mails m) && not (ltb u m.session.told))

-- ---- what it says of each message of the selected mailbox
pub two_bits : (s : ℕ) → leb s 2 ≡ true → (eqb s 1 ≡ bit 0 s) × (eqb s 2 ≡ bit 1 s)
two_bits zero h = (refl, refl)
two_bits (suc zero) h = (refl, refl)
two_bits (suc (suc zero)) h = (refl, refl)
two_bits (suc (suc (suc n))) h = let z = leb-true (suc (suc (suc n))) 2 h in absurd (let b : ⊥ = omega arith in b)

pub small_states : (e : Message) → message_ok e ≡ true → leb e.states 2 ≡ true
small_states e h = (each (leb 1 (uid_of e) ∷ leb e.flags 31 ∷ leb e.size 4294967295 ∷ leb e.states 2 ∷ counter_ok e.counter ∷ []) h).1.1.1.0

pub record Booked (m : Memory) (a : Account) (e : Message) : Type 0 where
  pub gone : waiting a.fates (removal (uid_of e)) ≡ expunged e
  pub marks : waiting a.fates (marking (uid_of e)) ≡ marked e
  pub unseen : waiting a.fates (arrival (uid_of e)) ≡ not (announced m e)

-- EXISTS counts messages, whatever their states
pub same-exists : (n : ℕ) (l : List Message) → exists_line n (map rested l) ≡ exists_line n l
same-exists n [] = refl
same-exists n (e ∷ l) = ap (λ (j : ℕ). exists (record { 0 = n + suc j }) ∷ []) (length-map l rested)

module _ (m : Memory) (k : Law m) (a : Account) (b : Books m a) where
  each_booked : All (λ (e : Message). in_mailbox m.session.selected e ≡ true → Booked m a e) (mails m)
  each_booked = all_with booked (found m.session.selected (mails m) k.twins) (all_yes message_ok (mails m) k.mail)
    where
      booked : (e : Message) → (in_mailbox m.session.selected e ≡ true
          → (state_of m.session.selected (uid_of e) (mails m) ≡ e.states) × (present m.session.selected (uid_of e) (mails m) ≡ true))
          → message_ok e ≡ true → in_mailbox m.session.selected e ≡ true → Booked m a e
      booked e f o h =
          let t = two_bits e.states (small_states e o) in
          record {
            gone = b.removals (uid_of e) ∙ (rw (f h).0 t.0);
            marks = b.markings (uid_of e) ∙ (rw (f h).0 t.1);
            unseen = b.arrivals (uid_of e) ∙ (rw (f h).1);
          }

  pub all_booked : All (Booked m a) (selected_messages m)
  all_booked = all_ordered by_uid (all_to (λ e p. p.0 p.1) (all_pass (in_mailbox m.session.selected) each_booked))

  -- ---- the same lists, the states aside
  pub same_messages : (i : ℕ) → messages_of i a.kept ≡ map rested (messages_of i (mails m))
  same_messages i = rw (b.kept, filter_map rested (in_mailbox i) (λ e. refl) (mails m)) (sort-map by_uid rested (λ x y. refl) (filterb (in_mailbox i) (mails m)))

  pub same-viewed : viewed (apparent m) a ≡ map rested (view m)
  same-viewed =
      ap (filterb (λ (e : Message). not (waiting a.fates (arrival (uid_of e))))) (same_messages m.session.selected)
      ∙ (filter_map rested (λ (e : Message). not (waiting a.fates (arrival (uid_of e)))) (λ e. refl) (selected_messages m)
      ∙ ap (map rested) (filter-agree (λ (e : Message). not (waiting a.fates (arrival (uid_of e)))) (announced m) (selected_messages m)
      (all_to (λ e h. ap not h.unseen ∙ twice (announced m e)) all_booked)))

  pub same-unseen : unseen (apparent m) a ≡ map rested (unannounced m)
  same-unseen =
      ap (filterb (λ (e : Message). waiting a.fates (arrival (uid_of e)))) (same_messages m.session.selected)
      ∙ (filter_map rested (λ (e : Message). waiting a.fates (arrival (uid_of e))) (λ e. refl) (selected_messages m)
      ∙ ap (map rested) (filter-agree (λ (e : Message). waiting a.fates (arrival (uid_of e))) (λ (e : Message). not (announced m e)) (selected_messages m) (all_to (λ e h. h.unseen) all_booked)))

  -- the same places
  pub same_place : (u : ℕ) → place_of u (viewed (apparent m) a) ≡ place_of u (view m)
  same_place u = ap (λ (j : ℕ). record { 0 = 1 + j }) (ap (λ (l : List Message). length (filterb (λ (e : Message). ltb (uid_of e) u) l)) same-viewed
      ∙ (ap length (filter_map rested (λ (e : Message). ltb (uid_of e) u) (λ e. refl) (view m)) ∙ length-map (filterb (λ (e : Message). ltb (uid_of e) u) (view m)) rested))

  -- ---- the same lines
  view_booked : All (Booked m a) (view m)
  view_booked = all-kept (announced m) all_booked

  same_removals : (n : ℕ) {v : List Message} → All (Booked m a) v → removal_lines a.fates n (map rested v) ≡ expunge_lines n v
  unfolding removal_lines expunge_lines
  same_removals n none = refl
  same_removals n (also {x} {l} p h) = rw p.gone (go (expunged x) (same_removals n h) (same_removals (n + 1) h))
    where
      go : (c : Bool) → removal_lines a.fates n (map rested l) ≡ expunge_lines n l → removal_lines a.fates (n + 1) (map rested l) ≡ expunge_lines (n + 1) l
          → cond c (expunge (record { 0 = n }) x.uid ∷ removal_lines a.fates n (map rested l)) (removal_lines a.fates (n + 1) (map rested l))
          ≡ cond c (expunge (record { 0 = n }) x.uid ∷ expunge_lines n l) (expunge_lines (n + 1) l)
      go true e f = ap (λ (t : List Line). expunge (record { 0 = n }) x.uid ∷ t) e
      go false e f = f

  same_markings : (n : ℕ) {v : List Message} → All (Booked m a) v → marking_lines a.fates n (map rested v) ≡ marked_lines n v
  unfolding marking_lines marked_lines
  same_markings n none = refl
  same_markings n (also {x} {l} p h) = rw p.marks (go (marked x) (same_markings (n + 1) h))
    where
      go : (c : Bool) → marking_lines a.fates (n + 1) (map rested l) ≡ marked_lines (n + 1) l
          → cond c (flags_line n x ∷ marking_lines a.fates (n + 1) (map rested l)) (marking_lines a.fates (n + 1) (map rested l))
          ≡ cond c (flags_line n x ∷ marked_lines (n + 1) l) (marked_lines (n + 1) l)
      go true e = ap (λ (t : List Line). flags_line n x ∷ t) e
      go false e = e

  pub same_left : (c : ℕ) → left (apparent m) a c ≡ map rested (remainder m c)
  same_left c = rw same-viewed (go (eqb c 1))
    where
      go : (d : Bool) → cond d (filterb (λ (e : Message). not (waiting a.fates (removal (uid_of e)))) (map rested (view m))) (map rested (view m))
          ≡ map rested (cond d (filterb (λ (e : Message). not (expunged e)) (view m)) (view m))
      go true =
          filter_map rested (λ (e : Message). not (waiting a.fates (removal (uid_of e)))) (λ e. refl) (view m)
          ∙ ap (map rested) (filter-agree (λ (e : Message). not (waiting a.fates (removal (uid_of e)))) (λ (e : Message). not (expunged e)) (view m) (all_to (λ e h. ap not h.gone) view_booked))
      go false = refl

  left_booked : (c : ℕ) → All (Booked m a) (remainder m c)
  left_booked c = go (eqb c 1)
    where
      go : (d : Bool) → All (Booked m a) (cond d (filterb (λ (e : Message). not (expunged e)) (view m)) (view m))
      go true = all-kept (λ (e : Message). not (expunged e)) view_booked
      go false = view_booked

  -- what a command end owes by the account is what it owes by memory
  pub same-owing : (c : ℕ) → owing (apparent m) a c ≡ owed m c
  same-owing c = ap (λ (l : List Line). cond (both_rights (selected_box m)) l [])
      (ap₂ ◌++◌ (gone (eqb c 1))
      (ap₂ ◌++◌ (ap₂ exists_line (ap length (same_left c) ∙ length-map (remainder m c) rested) same-unseen ∙ same-exists (length (remainder m c)) (unannounced m))
      (ap (marking_lines a.fates 1) (same_left c) ∙ same_markings 1 (left_booked c))))
    where
      gone : (d : Bool) → cond d (removal_lines a.fates 1 (viewed (apparent m) a)) [] ≡ cond d (expunge_lines 1 (view m)) []
      gone true = ap (removal_lines a.fates 1) same-viewed ∙ same_removals 1 view_booked
      gone false = refl

-- ---- all that a command end owes are notices
abbrev pub Noticed : List Line → Type 0
Noticed ls = All (λ (l : Line). is_notice l ≡ true) ls

pub noticed_all : {ls : List Line} → Noticed ls → notices ls ≡ ls
noticed_all {ls} h = filter_all is_notice ls h

-- what holds of each line holds of as many as fit
pub all-fitting : {P : Line → Type 0} (free : ℕ) {ls : List Line} → All P ls → All P (fitting free ls)
unfolding fitting
all-fitting free none = none
all-fitting {P} free (also {x = l} {l = ls} p h) = go (leb (length (render l)) free) (all-fitting (free - length (render l)) h)
  where
    go : (b : Bool) → All P (fitting (free - length (render l)) ls) → All P (cond b (l ∷ fitting (free - length (render l)) ls) [])
    go true ih = also p ih
    go false ih = none

noticed-expunge : (n : ℕ) (v : List Message) → Noticed (expunge_lines n v)
unfolding expunge_lines
noticed-expunge n [] = none
noticed-expunge n (e ∷ v) = go (expunged e) (noticed-expunge n v) (noticed-expunge (n + 1) v)
  where
    go : (c : Bool) → Noticed (expunge_lines n v) → Noticed (expunge_lines (n + 1) v) → Noticed (cond c (expunge (record { 0 = n }) e.uid ∷ expunge_lines n v) (expunge_lines (n + 1) v))
    go true h k = also refl h
    go false h k = k

noticed-marked : (n : ℕ) (v : List Message) → Noticed (marked_lines n v)
unfolding marked_lines
noticed-marked n [] = none
noticed-marked n (e ∷ v) = go (marked e) (noticed-marked (n + 1) v)
  where
    go : (c : Bool) → Noticed (marked_lines (n + 1) v) → Noticed (cond c (flags_line n e ∷ marked_lines (n + 1) v) (marked_lines (n + 1) v))
    go true h = also refl h
    go false h = h

-- there is an EXISTS just if a message is new
pub exists_some : (n : ℕ) (l : List Message) → anyb is_exists (exists_line n l) ≡ anyb (λ (e : Message). true) l
exists_some n [] = refl
exists_some n (e ∷ l) = refl

pub noticed-exists : (n : ℕ) (l : List Message) → Noticed (exists_line n l)
noticed-exists n [] = none
noticed-exists n (e ∷ l) = also refl none

pub noticed-owed : (m : Memory) (c : ℕ) → Noticed (owed m c)
noticed-owed m c = go (both_rights (selected_box m)) (eqb c 1)
  where
    rest : Noticed (exists_line (length (remainder m c)) (unannounced m) ++ marked_lines 1 (remainder m c))
    rest = all_append (noticed-exists (length (remainder m c)) (unannounced m)) (noticed-marked 1 (remainder m c))

    go : (b d : Bool) → Noticed (cond b (cond d (expunge_lines 1 (view m)) [] ++ (exists_line (length (remainder m c)) (unannounced m) ++ marked_lines 1 (remainder m c))) [])
    go true true = all_append (noticed-expunge 1 (view m)) rest
    go true false = rest
    go false d = none
