-- A message's change counter is that of its own last `ME` or `FL` (02, 1). Assumes nothing.
use Rattle.std.specs.Prelude.{◌≡◌, refl, Bool, false, not, cond, ◌&&◌, ℕ, ◌+◌, ◌<◌, eqb, ltb}
use Rattle.std.proofs.Common.{◌∙◌, ap, ap₂, arith, ltb-true, ltb-false, eqb-true, eq-eqb, ne_eqb}
use mathlib.Core.List.{List, [], ◌∷◌, ◌++◌, map}
use Rattle.std.proofs.Math.Bool.{true}
use Rattle.model.specs.Lists.{filterb, allb}
use Rattle.model.specs.Laws.{tf, or_l, and_l, all_filtered}
use Rattle.model.specs.Records.{Record, create, delete, rename, subscribe, grant, arrive, expunge, reflag, select, ended, command, drained, record_of_none, record_of}
use Rattle.model.specs.Memory.{Memory, boxes, mails, known, the_mailbox, uid_of, is_message, in_mailbox, expunged, with_next, with_flags, with_states, put_box, drop_box, drop_mails, change_mails}
use Rattle.model.specs.Lines.{Line, status, list, renamed, exists, expunge as expunge_line, fetch, found, overflow, answer, render_all}
use Rattle.model.specs.Queue.{enqueue, unmark, shows_flags, effect, effects, say}
use Rattle.model.specs.View.{expunge_at_once, flags_at_once, flags_wait}
use Rattle.model.specs.Events.{Event, message, created, deleted, renamed_to, subscribed_to, granted, with_arrived, arrived, removed, reflag as reflag_of, reflagged, in_view, silence}
use Rattle.model.specs.Lawful.{owned}
use Rattle.model.specs.Refusals.{stale, wrong_id, wrong_uid}
use Rattle.model.specs.Rules.{rested, raised, end_lines, accepted}
use Rattle.model.specs.Call.{call}
use Rattle.model.specs.Hidden.{Octets}
use Rattle.model.specs.Seen.{seen, history, final}
use Rattle.model.specs.Counters.{own_by, own, CounterOwn}
use Rattle.model.specs.declared.Message.{Message}
use Rattle.demands.specs.Isolation.Alike.{mails_with}
use Rattle.demands.specs.Lasting.Clash.{eqb_sym}
use Rattle.demands.specs.Lasting.Law.{Law}
use Rattle.demands.specs.Lasting.Rows.{all_snoc, all_both, all_map, owned_next}
use Rattle.demands.specs.Ledger.Each.{of_two}
use Rattle.demands.specs.Counted.Taken.{by_call, by_told, by-answered}

-- ---- each message has the counter that k gives for its mailbox and its UID
abbrev has : (ℕ → ℕ → ℕ) → Message → Bool
has k e = eqb e.counter (k e.mailbox (uid_of e))

abbrev Owns : (ℕ → ℕ → ℕ) → Memory → Type 0
Owns k m = allb (has k) (mails m) ≡ true

module _ (k : ℕ → ℕ → ℕ) where
  -- ---- fewer messages, and other states
  fewer : (m : Memory) (p : Message → Bool) → Owns k m → Owns k (drop_mails m p)
  fewer m p h = rw (mails_with m (filterb (λ (e : Message). not (p e)) (mails m))) (all_filtered (has k) (λ (e : Message). not (p e)) (mails m) h)

  changed : (m : Memory) (f : Message → Message) → ((e : Message) → has k e ≡ true → has k (f e) ≡ true) → Owns k m → Owns k (change_mails m f)
  changed m f g h = rw (mails_with m (map f (mails m))) (all_map (has k) (has k) f g (mails m) h)

  stated : (m : Memory) (i u s : ℕ) → Owns k m → Owns k (change_mails m (λ (e : Message). cond (is_message i u e) (with_states e s) e))
  stated m i u s = changed m (λ (e : Message). cond (is_message i u e) (with_states e s) e)
      (λ e h. of_two (λ (x : Message). has k x ≡ true) (is_message i u e) (with_states e s) e h h)

  -- ---- what lines end
  ends : (m : Memory) (l : Line) → Owns k m → Owns k (effect m l)
  ends m (exists n) h = h
  ends m (expunge_line n u) h = fewer m (is_message m.session.selected u.0) h
  ends m (fetch n u is) h = of_two (Owns k) (shows_flags is) (change_mails m (unmark m.session.selected u.0)) m (stated m m.session.selected u.0 0 h) h
  ends m (status n is) h = h
  ends m (list c n) h = h
  ends m (renamed c new old) h = h
  ends m (found t n v rs) h = h
  ends m overflow h = h
  ends m (answer t v r) h = h

  all_end : (m : Memory) (ls : List Line) → Owns k m → Owns k (effects m ls)
  unfolding effects
  all_end m [] h = h
  all_end m (l ∷ ls) h = all_end (effect m l) ls (ends m l h)

  written : (m : Memory) (ls : List Line) → Owns k m → Owns k (say m ls)
  written m ls h = all_end (enqueue m (render_all ls)) ls h

  -- ---- an expunge leaves or drops
  removing : (m : Memory) (i u : ℕ) → Owns k m → Owns k (removed m i u).stored
  removing m i u h = of_two (λ (x : Event). Owns k x.stored) (in_view m i u) _ _
      (of_two (λ (x : Event). Owns k x.stored) (expunge_at_once m) _ _ h (stated m i u 1 h))
      (fewer m (is_message i u) h)

-- none has one in a mailbox that is made
abbrev anew : (i : ℕ) → (ℕ → ℕ → ℕ) → ℕ → ℕ → ℕ
anew i k j w = cond (eqb i j) 0 (k j w)

-- a message's becomes c
abbrev put : (i u c : ℕ) → (ℕ → ℕ → ℕ) → ℕ → ℕ → ℕ
put i u c k j w = cond (eqb i j && eqb u w) c (k j w)

-- ---- a change of flags
module _ (k : ℕ → ℕ → ℕ) (i u f c : ℕ) where
  reflags : (m : Memory) → Owns k m → Owns (put i u c k) (change_mails m (reflag_of i u f c))
  reflags m h = rw (mails_with m (map (reflag_of i u f c) (mails m))) (all_map (has k) (has (put i u c k)) (reflag_of i u f c) one (mails m) h)
    where
      one : (e : Message) → has k e ≡ true → has (put i u c k) (reflag_of i u f c e) ≡ true
      one e g = go (is_message i u e) refl
        where
          alike : (eqb i e.mailbox && eqb u (uid_of e)) ≡ is_message i u e
          alike = ap₂ ◌&&◌ (eqb_sym i e.mailbox) (eqb_sym u (uid_of e))

          go : (b : Bool) → is_message i u e ≡ b → has (put i u c k) (cond b (with_flags e f c) e) ≡ true
          go true z = rw (alike ∙ z) (eq-eqb c c refl)
          go false z = rw (alike ∙ z) g

  reflagging : (m : Memory) → Owns k m → Owns (put i u c k) (reflagged m i u f c).stored
  reflagging m h =
      let a = reflags m h in
      of_two (λ (x : Event). Owns (put i u c k) x.stored) (in_view m i u) _ _
      (of_two (λ (x : Event). Owns (put i u c k) x.stored) (flags_at_once m) _ _ a
      (of_two (λ (x : Event). Owns (put i u c k) x.stored) (flags_wait m) _ _ (stated (put i u c k) (change_mails m (reflag_of i u f c)) i u 2 a) a))
      a

module _ (k : ℕ → ℕ → ℕ) (m : Memory) (l : Law m) (h : Owns k m) where
  -- ---- an arrival: no other message of the mailbox has its UID
  arriving : (i u f z c : ℕ) → ltb u (the_mailbox i (boxes m)).uidnext ≡ false → allb (has (put i u c k)) (mails m ++ (message i u f z c ∷ [])) ≡ true
  arriving i u f z c free = all_snoc (has (put i u c k)) (mails m) (message i u f z c)
      (all_both (owned (boxes m)) (has k) (has (put i u c k)) old (mails m) l.owners h)
      (rw (eq-eqb i i refl, eq-eqb u u refl) (eq-eqb c c refl))
    where
      old : (e : Message) → owned (boxes m) e ≡ true → has k e ≡ true → has (put i u c k) e ≡ true
      old e o g = go (eqb i e.mailbox) refl
        where
          go : (b : Bool) → eqb i e.mailbox ≡ b → eqb e.counter (cond (b && eqb u (uid_of e)) c (k e.mailbox (uid_of e))) ≡ true
          go false q = g
          go true q =
              let a = ltb-true (uid_of e) (the_mailbox e.mailbox (boxes m)).uidnext (owned_next (boxes m) e o) in
              let b : uid_of e < (the_mailbox i (boxes m)).uidnext = rw (← eqb-true i e.mailbox q) at a in
              let d = ltb-false u (the_mailbox i (boxes m)).uidnext free in
              rw (ne_eqb u (uid_of e) (λ y. let n : ⊥ = omega arith in n)) g

  -- ---- a create: its mailbox has no message yet
  creating : (i : ℕ) → known i (boxes m) ≡ false → Owns (anew i k) m
  creating i new = all_both (owned (boxes m)) (has k) (has (anew i k)) old (mails m) l.owners h
    where
      old : (e : Message) → owned (boxes m) e ≡ true → has k e ≡ true → has (anew i k) e ≡ true
      old e o g = go (eqb i e.mailbox) refl
        where
          go : (b : Bool) → eqb i e.mailbox ≡ b → eqb e.counter (cond b 0 (k e.mailbox (uid_of e))) ≡ true
          go false q = g
          go true q = tf (known i (boxes m)) (ap (λ (j : ℕ). known j (boxes m)) (eqb-true i e.mailbox q) ∙ and_l (known e.mailbox (boxes m)) _ o) new

  -- ---- every kind
  kind : (r : Record) → wrong_id m r ≡ false → wrong_uid m r ≡ false → Owns (λ (i u : ℕ). own_by i u (k i u) r) (accepted m r).after
  unfolding accepted
  kind (create i a q v c n) d e =
      let w = creating i d in
      by_told (Owns (anew i k)) (written (anew i k)) m (λ (x : Memory). created x i a q v c n) w w
  kind (delete i q) d e = by_told (Owns k) (written k) m (λ (x : Memory). deleted x i q) (fewer k (drop_box m i) (in_mailbox i) h) (fewer k (drop_box (silence m) i) (in_mailbox i) h)
  kind (rename i q n) d e = by_told (Owns k) (written k) m (λ (x : Memory). renamed_to x i q n) h h
  kind (subscribe i b q) d e = by_told (Owns k) (written k) m (λ (x : Memory). subscribed_to x i b q) h h
  kind (grant i r) d e = by_told (Owns k) (written k) m (λ (x : Memory). granted x i r) h h
  kind (arrive i u f z c) d e =
      let n = raised m i c in
      let w = arriving i u f z c (or_l (ltb u (the_mailbox i (boxes m)).uidnext) (stale m i c) e) in
      by_told (Owns (put i u c k)) (written (put i u c k)) n (λ (x : Memory). arrived x i u f z c) (stored n w) (stored (silence n) w)
    where
      stored : (x : Memory) → allb (has (put i u c k)) (mails x ++ (message i u f z c ∷ [])) ≡ true → Owns (put i u c k) (with_arrived x i u f z c)
      stored x w = rw (mails_with (put_box x i (with_next (the_mailbox i (boxes x)) (u + 1))) (mails x ++ (message i u f z c ∷ []))) w
  kind (expunge i u c) d e =
      let n = raised m i c in
      by_told (Owns k) (written k) n (λ (x : Memory). removed x i u) (removing k n i u h) (removing k (silence n) i u h)
  kind (reflag i u f c) d e =
      let n = raised m i c in
      by_told (Owns (put i u c k)) (written (put i u c k)) n (λ (x : Memory). reflagged x i u f c) (reflagging k i u f c n h) (reflagging k i u f c (silence n) h)
  kind (select i) d e = changed k (drop_mails m expunged) rested (λ e g. g) (fewer k m expunged h)
  kind (ended c) d e = written k m (end_lines m c) h
  kind (command t) d e = by-answered (Owns k) (written k) m (λ n s g. g) t h
  kind (drained n) d e = h
  kind record_of_none d e = h

-- ---- a stream
stream : (k : ℕ → ℕ → ℕ) (m : Memory) → Owns k m → (os : List Octets) → Owns (λ (i u : ℕ). own i u (k i u) (history m os)) (final m os)
stream k m h [] = h
stream k m h (o ∷ os) = stream (λ (i u : ℕ). cond (seen m o).taken (own_by i u (k i u) (record_of o)) (k i u)) (call m o).after
    (by_call (λ (b : Bool). Owns (λ (i u : ℕ). cond b (own_by i u (k i u) (record_of o)) (k i u))) m o h (λ l d e. kind k m l h (record_of o) d e)) os

pub own_last : CounterOwn
own_last m z os = stream (λ (i u : ℕ). 0) m (rw z) os
