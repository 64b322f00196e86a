-- What the code leaves is what the rules say of `ME`: elsewhere, waiting, or announced at once. Assumes nothing.
use Rattle.std.specs.Prelude.{◌≡◌, Bool, cond, ◌&&◌, List, [], ◌∷◌, ◌++◌, ℕ, zero, suc, ◌+◌, ◌-◌, ◌<◌, ◌≤◌, max, eqb, leb, ltb, take, drop, get_or, set}
use Rattle.std.proofs.Math.Path.{refl}
use Rattle.std.proofs.Common.{ap, ap₂, sym, ◌∙◌, append_assoc, arith, length-append, length-take-le, get_or-set_same, eqb-true, eq-eqb, le-ltb}
use Rattle.std.proofs.Math.Bool.{true, false, not}
use Rattle.std.proofs.Math.ListN.{length}
use Rattle.std.proofs.lemmas.List.{set_split}
use Rattle.model.specs.Laws.{tf, and_l, and_r, all_passed}
use Rattle.model.specs.Lists.{when, allb}
use Rattle.model.specs.Memory.{Memory, boxes, mails, filled, name_of, no_mailbox, no_message, place, the_mailbox, both_rights, is_selected, messages_of, in_mailbox, uid_of, selected_box, with_next, with_session, with_view, refill, put_box, add_mail}
use Rattle.model.specs.Groups.{asked_of, asks_new}
use Rattle.model.specs.Lines.{Line, StatusItem, status, overflow, render, render_all}
use Rattle.model.specs.Queue.{room, enqueue, announce, effects}
use Rattle.model.specs.View.{new_at_once, announcing, view, unannounced, selected_messages, shows_any, shown_items, new_lines}
use Rattle.model.specs.Events.{message, with_arrived, arrived, status_lines, counts_of, silence}
use Rattle.model.specs.Rules.{event_outcome}
use Rattle.model.specs.Lawful.{state_ok}
use Rattle.demands.specs.Lasting.Rows.{all_snoc}
use Rattle.demands.specs.Isolation.Alike.{boxes_with, mails_with}
use Rattle.model.specs.declared.Mailbox.{Mailbox}
use Rattle.model.specs.declared.Message.{Message}
use Rattle.laws.specs.Room.{room_same}
use Rattle.table_mailboxes.specs.Rows.{rows_are, boxes_long, put_at_lem}
use Rattle.laws.specs.Announcing.{told_many, told_past, exists-effect, new-effects, among}
use Rattle.line_put.specs.Says.{has_room}
use Rattle.line_fetch.specs.declared.Shows.{Shows}
use Rattle.line_fetch.specs.Items.{shown}
use Rattle.line_message.specs.Whole.{news_text, news-text}
use Rattle.event_message.specs.Taken.{tables_are}
use Rattle.event_message.specs.After.{news_of, news_after, status_after, arrive_after}
use Rattle.event_message.specs.Accepted.{left, away_told, told_tables}

-- an entry is put behind the last
pub add_mail_at : (m : Memory) (e : Message) → m.counts.messages < length m.entries → add_mail m e ≡ tables_are m m.rows (set m.entries m.counts.messages e) (m.counts.messages + 1)
add_mail_at m e h =
    let n = length-take-le m.counts.messages m.entries (omega arith) in
    let l = length-append (mails m) (e ∷ []) in
    let s : length (mails m ++ (e ∷ [])) ≡ m.counts.messages + 1 = omega arith in
    ap₂ (tables_are m m.rows) (grown m.entries m.counts.messages (length (mails m)) n s h) s
  where
    grown : (t : List Message) (n k : ℕ) → k ≡ n → length (take n t ++ (e ∷ [])) ≡ n + 1 → n < length t → refill no_message t k (take n t ++ (e ∷ [])) ≡ set t n e
    grown t n k q s h =
        let a : k - length (take n t ++ (e ∷ [])) ≡ 0 = omega arith in
        let b : max k (length (take n t ++ (e ∷ []))) ≡ suc n = omega arith in
        rw (a, b) (append_assoc (take n t) (e ∷ []) (drop (suc n) t) ∙ sym (set_split t n e h))

-- a row with the same id is found where the old one was
place_set : (i k : ℕ) (l : List Mailbox) (y : Mailbox) → y.id ≡ (get_or l k no_mailbox).id → place i (set l k y) ≡ place i l
unfolding place
place_set i k [] y e = refl
place_set i zero (x ∷ l) y e = rw e
place_set i (suc k) (x ∷ l) y e = ap (λ (n : ℕ). cond (eqb x.id i) 0 (suc n)) (place_set i k l y e)

found : (i : ℕ) (l : List Mailbox) (y : Mailbox) → y.id ≡ (the_mailbox i l).id → place i l < length l → the_mailbox i (set l (place i l) y) ≡ y
found i l y e h = ap (λ (n : ℕ). get_or (set l (place i l) y) n no_mailbox) (place_set i (place i l) l y e) ∙ get_or-set_same l (place i l) y no_mailbox h

arrive-when : (sel soon : Bool) (ls : List Line) (wanted : Bool) (is : List StatusItem) (y : Mailbox) → (sel && soon) ≡ false
    → cond sel (cond soon ls []) (status_lines y wanted is) ≡ when (not sel && (both_rights y && wanted)) (status (name_of y) is)
arrive-when true true ls wanted is y q = tf _ refl q
arrive-when true false ls wanted is y q = refl
arrive-when false soon ls wanted is y q = refl

module _ (m : Memory) (fit : m.counts.mailboxes ≤ length m.rows) (still : allb (state_ok m.session) (mails m) ≡ true) (i u f z c k : ℕ) (at : k ≡ place i (boxes m)) (h : k < m.counts.mailboxes) (space : m.counts.messages < length m.entries) where
  abbrev y : Mailbox
  y = with_next (the_mailbox i (boxes m)) (u + 1)

  abbrev rs : List Mailbox
  rs = set m.rows k y

  abbrev es : List Message
  es = set m.entries m.counts.messages (message i u f z c)

  came : with_arrived m i u f z c ≡ tables_are m rs es (m.counts.messages + 1)
  came = ap (λ (j : Memory). add_mail j (message i u f z c)) (put_at_lem m fit i k y at h) ∙ add_mail_at (rows_are m rs m.counts.mailboxes) (message i u f z c) space

  the_row : the_mailbox i (boxes (with_arrived m i u f z c)) ≡ y
  the_row =
      let n = boxes_long m fit in
      ap (the_mailbox i) (boxes_with m (set (boxes m) (place i (boxes m)) y)) ∙ found i (boxes m) y refl (omega arith)

  said : (is_selected m i && new_at_once m) ≡ false → (arrived m i u f z c).lines ≡ when (away_told m i y asks_new) (status (name_of y) (counts_of (tables_are m rs es (m.counts.messages + 1)) y))
  said calm =
      arrive-when (is_selected m i) (new_at_once m) (announcing (with_arrived m i u f z c)) (asked_of m.session (the_mailbox i (boxes (with_arrived m i u f z c))) asks_new) (counts_of (with_arrived m i u f z c) (the_mailbox i (boxes (with_arrived m i u f z c)))) (the_mailbox i (boxes (with_arrived m i u f z c))) calm
      ∙ ap₂ (λ (w : Mailbox) (j : Memory). when (not (is_selected m i) && (both_rights w && asked_of m.session w asks_new)) (status (name_of w) (counts_of j w))) the_row came

  -- elsewhere, or waiting
  elsewhere : (is_selected m i && new_at_once m) ≡ false → (away_told m i y asks_new ≡ true → filled m ≤ length m.queue - 64)
      → (event_outcome m (λ (j : Memory). arrived j i u f z c)).after ≡ left m rs (status_after m.entries m.counts.messages m.queue m.session (filled m) y (message i u f z c) (away_told m i y asks_new))
  elsewhere calm free =
      told_tables m (λ (j : Memory). arrived j i u f z c) rs es (m.counts.messages + 1) (status (name_of y) (counts_of (tables_are m rs es (m.counts.messages + 1)) y))
      came
      (ap silence came)
      (λ j. refl)
      (away_told m i y asks_new)
      (said calm)
      free

  -- at once
  module _ (sel : is_selected m i ≡ true) (soon : new_at_once m ≡ true) (low : m.session.told ≤ u) (free : filled m ≤ length m.queue - 64)
      (w : Shows) (any : w.any ≡ shows_any m.session) (items : (e : Message) → shown w e ≡ shown_items m.session e) where
    abbrev new : Message
    new = message i u f z c

    abbrev after : Memory
    after = with_arrived m i u f z c

    abbrev lines : List Line
    lines = announcing after

    its : i ≡ m.session.selected
    its = eqb-true i m.session.selected (and_r (not (eqb i 0)) (eqb i m.session.selected) sel)

    held : mails after ≡ mails m ++ (new ∷ [])
    held = mails_with (put_box m i y) (mails m ++ (new ∷ []))

    calm : allb (state_ok m.session) (mails after) ≡ true
    calm = ap (allb (state_ok m.session)) held ∙ all_snoc (state_ok m.session) (mails m) new still refl

    some : 0 < length (unannounced after)
    some = rw held (among (λ (e : Message). not (ltb (uid_of e) m.session.told)) (in_mailbox m.session.selected) (mails m) new (eq-eqb i m.session.selected its) (rw (le-ltb u m.session.told low)))

    -- EXISTS announces, and the FETCH lines end nothing
    ends : (t : List ℕ) → effects (enqueue after t) lines ≡ announce (enqueue after t)
    unfolding effects
    ends t = exists-effect (enqueue after t) (length (view after)) (unannounced after) (cond (shows_any m.session) (new_lines m.session (length (view after) + 1) (unannounced after)) []) some ∙ go (shows_any m.session)
      where
        go : (b : Bool) → effects (announce (enqueue after t)) (cond b (new_lines m.session (length (view after) + 1) (unannounced after)) []) ≡ announce (enqueue after t)
        go true = new-effects (announce (enqueue after t)) m.session (ap length held) calm m.session (length (view after) + 1) (unannounced after) (all_passed (λ (e : Message). not (ltb (uid_of e) m.session.told)) (selected_messages after))
        go false = refl

    text : render_all lines ≡ news_of m.entries m.counts.messages m.queue m.session (filled m) y new w
    text = sym (news-text after w any items) ∙ ap (λ (j : Memory). news_text m.session.told w (messages_of m.session.selected (mails j))) came

    next : (selected_box after).uidnext ≡ u + 1
    next = ap (λ (n : ℕ). (the_mailbox n (boxes after)).uidnext) (sym its) ∙ ap (λ (x : Mailbox). x.uidnext) the_row

    owes : (arrived m i u f z c).lines ≡ lines
    owes = rw (sel, soon)

    pub at-once : (event_outcome m (λ (j : Memory). arrived j i u f z c)).after ≡ left m rs (news_after m.entries m.counts.messages m.queue m.session (filled m) y new w)
    at-once = go (leb (length (render_all lines)) (room m)) refl
      where
        fits : (r : Bool) → leb (length (render_all lines)) (room m) ≡ r → has_room m.queue (filled m) (news_of m.entries m.counts.messages m.queue m.session (filled m) y new w) ≡ r
        fits r q = ap (has_room m.queue (filled m)) (sym text) ∙ (room_same (filled m) (length (render_all lines)) (length m.queue - 64) free ∙ q)

        go : (r : Bool) → leb (length (render_all lines)) (room m) ≡ r → (event_outcome m (λ (j : Memory). arrived j i u f z c)).after ≡ left m rs (news_after m.entries m.counts.messages m.queue m.session (filled m) y new w)
        go true q =
            told_many m (λ (j : Memory). arrived j i u f z c) lines owes q
            ∙ (ends (render_all lines)
            ∙ (ap₂ (λ (j : Memory) (n : ℕ). enqueue (with_session j (with_view m.session m.session.selected n)) (render_all lines)) came next
            ∙ rw (fits true q) (ap (λ (t : List ℕ). enqueue (with_session (tables_are m rs es (m.counts.messages + 1)) (with_view m.session m.session.selected (u + 1))) t) text)))
        go false q =
            told_past m (λ (j : Memory). arrived j i u f z c) lines owes q
            ∙ (ap (λ (j : Memory). enqueue (silence j) (render overflow)) came ∙ rw (fits false q))

  -- what the caller shows where it is at once: the room, and what a FETCH shows
  pub arrive_told : (w : Shows) → w.any ≡ shows_any m.session → ((e : Message) → shown w e ≡ shown_items m.session e) → (is_selected m i ≡ true → m.session.told ≤ u)
      → ((is_selected m i && new_at_once m) ≡ true → filled m ≤ length m.queue - 64) → (away_told m i y asks_new ≡ true → filled m ≤ length m.queue - 64)
      → (event_outcome m (λ (j : Memory). arrived j i u f z c)).after ≡ left m rs (arrive_after m.entries m.counts.messages m.queue m.session (filled m) y (message i u f z c) (is_selected m i && new_at_once m) (away_told m i y asks_new) w)
  unfolding arrive_after
  arrive_told w any items low soon free = go (is_selected m i && new_at_once m) refl
    where
      go : (b : Bool) → (is_selected m i && new_at_once m) ≡ b → (event_outcome m (λ (j : Memory). arrived j i u f z c)).after
          ≡ left m rs (cond b (news_after m.entries m.counts.messages m.queue m.session (filled m) y (message i u f z c) w) (status_after m.entries m.counts.messages m.queue m.session (filled m) y (message i u f z c) (away_told m i y asks_new)))
      go true q = at-once (and_l (is_selected m i) (new_at_once m) q) (and_r (is_selected m i) (new_at_once m) q) (low (and_l (is_selected m i) (new_at_once m) q)) (soon q) w any items
      go false q = elsewhere q free
