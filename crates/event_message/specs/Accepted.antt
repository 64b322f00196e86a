-- What the code leaves is what the rules say of `XP`. Assumes nothing.
use Rattle.std.specs.Prelude.{◌≡◌, Bool, not, cond, ◌&&◌, List, [], ℕ, ◌-◌, ◌<◌, ◌≤◌, eqb, get_or}
use Rattle.std.proofs.Math.Path.{refl, ap}
use Rattle.std.proofs.Common.{sym, ◌∙◌, eqb-true}
use Rattle.std.proofs.Math.Bool.{true, false}
use Rattle.std.proofs.Math.Dec.{leb}
use Rattle.std.proofs.Math.ListN.{length}
use Rattle.model.specs.Laws.{and_l, and_r, and_false}
use Rattle.model.specs.Lists.{when}
use Rattle.model.specs.Memory.{Memory, boxes, filled, name_of, no_message, the_mailbox, selected_box, both_rights, is_selected, is_message, with_states, drop_mails, change_mails}
use Rattle.model.specs.Groups.{asked_of, asks_expunge}
use Rattle.model.specs.Lines.{Line, StatusItem, status, expunge, overflow, render}
use Rattle.model.specs.Queue.{room, enqueue, effect}
use Rattle.model.specs.View.{view, place_of, expunge_at_once}
use Rattle.model.specs.Events.{Event, in_view, expire, removed, status_lines, counts_of, silence}
use Rattle.model.specs.Rules.{Outcome, event_outcome}
use Rattle.demands.specs.Lasting.Law.{Law}
use Rattle.model.specs.declared.Group.{Group}
use Rattle.model.specs.declared.Mailbox.{Mailbox}
use Rattle.model.specs.declared.Message.{Message}
use Rattle.laws.specs.Room.{room_same}
use Rattle.laws.specs.Changing.{set_entry, change_at}
use Rattle.laws.specs.Telling.{told_none, told_one, told_over}
use Rattle.table_mailboxes.specs.Rows.{rows_are}
use Rattle.line_put.specs.Says.{has_room}
use Rattle.table_messages.specs.Taken.{shut}
use Rattle.line_message.specs.Counts.{expunge-text}
use Rattle.line_put.specs.Heard.{heard}
use Rattle.event_message.specs.Taken.{tables_are, drop_at}
use Rattle.event_message.specs.After.{After, drop_after, wait_after, once_after, remove_after}

-- memory with what was left, and these rows
abbrev pub left : Memory → List Mailbox → After → Memory
left m rs x = record {
  rows = rs;
  entries = x.entries;
  counts = record { mailboxes = m.counts.mailboxes; messages = x.used; filled = x.heard.filled };
  session = x.heard.session;
  queue = x.heard.queue;
}

-- a record that changes the tables and owes at most a line that ends nothing
module _ (m : Memory) (event : Memory → Event) (rs : List Mailbox) (es : List Message) (n : ℕ) (l : Line)
    (stored : (event m).stored ≡ tables_are m rs es n) (silent : (event (silence m)).stored ≡ tables_are (silence m) rs es n)
    (ends : (j : Memory) → effect j l ≡ j) where
  pub told_tables : (on : Bool) → (event m).lines ≡ when on l → (on ≡ true → filled m ≤ length m.queue - 64)
      → (event_outcome m event).after ≡ left m rs (record { entries = es; used = n; heard = heard m.queue m.session (filled m) on (render l) })
  unfolding heard
  told_tables false e free = ap (λ (o : Outcome). o.after) (told_none m event e) ∙ stored
  told_tables true e free = go (leb (length (render l)) (room m)) refl
    where
      fit : (r : Bool) → leb (length (render l)) (room m) ≡ r → has_room m.queue (filled m) (render l) ≡ r
      fit r q = room_same (filled m) (length (render l)) (length m.queue - 64) (free refl) ∙ q

      go : (r : Bool) → leb (length (render l)) (room m) ≡ r → (event_outcome m event).after ≡ left m rs (record { entries = es; used = n; heard = heard m.queue m.session (filled m) true (render l) })
      go true q = ap (λ (o : Outcome). o.after) (told_one m event l e q) ∙ (ends (enqueue (event m).stored (render l)) ∙ (ap (λ (j : Memory). enqueue j (render l)) stored ∙ rw (fit true q)))
      go false q = ap (λ (o : Outcome). o.after) (told_over m event l e q) ∙ (ap (λ (j : Memory). enqueue j (render overflow)) silent ∙ rw (fit false q))

-- who is told of a message that comes, goes or changes elsewhere
abbrev pub away_told : Memory → ℕ → Mailbox → (Group → Bool) → Bool
away_told m i x asks = not (is_selected m i) && (both_rights x && asked_of m.session x asks)

-- a STATUS that is owed outside the selected mailbox
pub status-when : (x : Mailbox) (is : List StatusItem) (sel wanted : Bool) → cond sel [] (status_lines x wanted is) ≡ when (not sel && (both_rights x && wanted)) (status (name_of x) is)
status-when x is true wanted = refl
status-when x is false wanted = refl

-- ---- `XP`: m is lawful memory with other rows, since the record's counter is in its mailbox's row already
module _ (b : Memory) (law : Law b) (rs : List Mailbox) (many i u k : ℕ) (h : k < b.counts.messages) (is : is_message i u (get_or b.entries k no_message) ≡ true) where
  abbrev m : Memory
  m = rows_are b rs many

  abbrev x : Mailbox
  x = the_mailbox i (boxes m)

  abbrev n : ℕ
  n = (place_of u (view m)).0

  abbrev out : List Message
  out = shut k m.counts.messages m.entries

  abbrev line : Line
  line = expunge (place_of u (view m)) (record { 0 = u })

  gone : drop_mails m (is_message i u) ≡ tables_are m m.rows out (m.counts.messages - 1)
  gone = ap (λ (j : Memory). rows_are j rs many) (drop_at b law i u k h is)

  only : (e : Message) → is_message i u e ≡ false → expire i u e ≡ e
  only e q = rw q

  waits : change_mails m (expire i u) ≡ set_entry m k (with_states (get_or m.entries k no_message) 1)
  waits = ap (λ (j : Memory). rows_are j rs many) (change_at b law i u (expire i u) only k h is) ∙ ap (set_entry m k) (rw is)

  -- not in the view
  away : in_view m i u ≡ false → (away_told m i x asks_expunge ≡ true → filled m ≤ length m.queue - 64)
      → (event_outcome m (λ (j : Memory). removed j i u)).after ≡ left m m.rows (drop_after m.entries m.counts.messages m.queue m.session (filled m) k x (away_told m i x asks_expunge))
  away v free =
      told_tables m (λ (j : Memory). removed j i u) m.rows out (m.counts.messages - 1) (status (name_of x) (counts_of (tables_are m m.rows out (m.counts.messages - 1)) x))
      (rw v gone)
      (rw v (ap silence gone))
      (λ j. refl)
      (away_told m i x asks_expunge)
      (rw v (status-when x (counts_of (drop_mails m (is_message i u)) x) (is_selected m i) (asked_of m.session x asks_expunge) ∙ ap (λ (j : Memory). when (away_told m i x asks_expunge) (status (name_of x) (counts_of j x))) gone))
      free

  -- in the view, and told at once
  now_told : (r : Bool) → leb (length (render line)) (room m) ≡ r → in_view m i u ≡ true → expunge_at_once m ≡ true → filled m ≤ length m.queue - 64
      → (event_outcome m (λ (j : Memory). removed j i u)).after ≡ left m m.rows (once_after m.entries m.counts.messages m.queue m.session (filled m) k n)
  unfolding heard
  now_told r e v a z = go r e
    where
      fit : (r : Bool) → leb (length (render line)) (room m) ≡ r → has_room m.queue (filled m) (render line) ≡ r
      fit r q = room_same (filled m) (length (render line)) (length m.queue - 64) z ∙ q

      expires : in_view m i u ≡ true → (removed (silence m) i u).stored ≡ silence (set_entry m k (with_states (get_or m.entries k no_message) 1))
      expires v = rw (v, and_false (both_rights (selected_box m))) (ap silence waits)

      sel : i ≡ m.session.selected
      sel = eqb-true i m.session.selected (and_r (not (eqb i 0)) _ (and_l (is_selected m i) _ v))

      go : (r : Bool) → leb (length (render line)) (room m) ≡ r → (event_outcome m (λ (j : Memory). removed j i u)).after ≡ left m m.rows (once_after m.entries m.counts.messages m.queue m.session (filled m) k n)
      go true q =
          ap (λ (o : Outcome). o.after) (told_one m (λ (j : Memory). removed j i u) line (rw (v, a)) q)
          ∙ (ap (λ (j : Memory). effect (enqueue j (render line)) line) (stays v a)
          ∙ (ap (λ (w : ℕ). enqueue (drop_mails m (is_message w u)) (render line)) (sym sel)
          ∙ (ap (λ (j : Memory). enqueue j (render line)) gone
          ∙ rw (expunge-text n (record { 0 = u }), fit true q))))
        where
          stays : in_view m i u ≡ true → expunge_at_once m ≡ true → (removed m i u).stored ≡ m
          stays v a = rw (v, a)
      go false q =
          ap (λ (o : Outcome). o.after) (told_over m (λ (j : Memory). removed j i u) line (rw (v, a)) q)
          ∙ (ap (λ (j : Memory). enqueue j (render overflow)) (expires v)
          ∙ rw (expunge-text n (record { 0 = u }), fit false q))

  pub remove_told : ((in_view m i u && expunge_at_once m) ≡ true → filled m ≤ length m.queue - 64) → (away_told m i x asks_expunge ≡ true → filled m ≤ length m.queue - 64)
      → (event_outcome m (λ (j : Memory). removed j i u)).after ≡ left m m.rows (remove_after m.entries m.counts.messages m.queue m.session (filled m) k x n (in_view m i u) (expunge_at_once m) (away_told m i x asks_expunge))
  unfolding remove_after
  remove_told soon free = go (in_view m i u) refl (expunge_at_once m) refl soon
    where
      go : (v : Bool) → in_view m i u ≡ v → (a : Bool) → expunge_at_once m ≡ a → ((v && a) ≡ true → filled m ≤ length m.queue - 64)
          → (event_outcome m (λ (j : Memory). removed j i u)).after ≡ left m m.rows (cond v (cond a (once_after m.entries m.counts.messages m.queue m.session (filled m) k n) (wait_after m.entries m.counts.messages m.queue m.session (filled m) k)) (drop_after m.entries m.counts.messages m.queue m.session (filled m) k x (away_told m i x asks_expunge)))
      go true v true a z = now_told (leb (length (render line)) (room m)) refl v a (z refl)
      go true v false a z = ap (λ (o : Outcome). o.after) (told_none m (λ (j : Memory). removed j i u) (rw (v, a))) ∙ rw (v, a) waits
      go false v a b z = away v free
