-- What the code leaves is what the rule says of `FL`. Assumes nothing.
use Rattle.std.specs.Prelude.{◌≡◌, Bool, not, cond, ◌&&◌, List, ℕ, ◌-◌, ◌<◌, ◌≤◌, eqb, leb, get_or}
use Rattle.std.proofs.Math.Path.{refl, ap}
use Rattle.std.proofs.Common.{◌∙◌, eqb-true}
use Rattle.std.proofs.Math.Bool.{true, false}
use Rattle.std.proofs.Math.ListN.{length}
use Rattle.model.specs.Laws.{and_l, and_r}
use Rattle.model.specs.Memory.{Memory, boxes, filled, no_message, name_of, uid_of, the_mailbox, both_rights, is_selected, is_message, with_flags, change_mails}
use Rattle.model.specs.Groups.{asked_of, asks_flags}
use Rattle.model.specs.Lines.{Line, status, render}
use Rattle.model.specs.Queue.{room}
use Rattle.model.specs.View.{view, place_of, flags_at_once, flags_wait, flags_line}
use Rattle.model.specs.Events.{in_view, message, reflag, reflagged, changes_of, silence}
use Rattle.model.specs.Rules.{Outcome, event_outcome}
use Rattle.demands.specs.Lasting.Law.{Law}
use Rattle.model.specs.declared.Mailbox.{Mailbox}
use Rattle.laws.specs.Room.{room_same}
use Rattle.laws.specs.Changing.{set_entry}
use Rattle.table_mailboxes.specs.Rows.{rows_are}
use Rattle.line_put.specs.Says.{has_room}
use Rattle.line_fetch.specs.Fetch.{fetch_text, fetch-text}
use Rattle.line_put.specs.Heard.{heard}
use Rattle.event_message.specs.After.{After}
use Rattle.event_message.specs.Flagged.{told_after, kept_after, flag_after}
use Rattle.event_message.specs.Accepted.{left, away_told, told_tables, status-when}
use Rattle.event_message.specs.Reflagging.{plain, fl_plain, fl-waits, fl_told, fl_over}

module _ (b : Memory) (law : Law b) (rs : List Mailbox) (many i u f c k : ℕ) (h : k < b.counts.messages) (is : is_message i u (get_or b.entries k no_message) ≡ true) where
  abbrev m : Memory
  m = rows_are b rs many

  abbrev x : Mailbox
  x = the_mailbox i (boxes m)

  abbrev n : ℕ
  n = (place_of u (view m)).0

  abbrev on : Bool
  on = away_told m i x asks_flags

  abbrev end : Memory
  end = (event_outcome m (λ (j : Memory). reflagged j i u f c)).after

  -- the change told by a FETCH, and not
  abbrev now : After
  now = told_after m.entries m.counts.messages m.queue m.session (filled m) k f c n

  abbrev kept : ℕ → Bool → After
  kept states o = kept_after m.entries m.counts.messages m.queue m.session (filled m) x k f c states o

  abbrev states : ℕ
  states = (get_or m.entries k no_message).states

  the-uid : uid_of (get_or m.entries k no_message) ≡ u
  the-uid = eqb-true (uid_of (get_or m.entries k no_message)) u (and_r (eqb (get_or m.entries k no_message).mailbox i) (eqb (uid_of (get_or m.entries k no_message)) u) is)

  text_is : fetch_text n (uid_of (get_or m.entries k no_message)) f c ≡ render (flags_line n (message i u f 0 c))
  text_is = ap (λ (v : ℕ). fetch_text n v f c) the-uid ∙ fetch-text i n u f c

  fit : (l : Line) (r : Bool) → leb (length (render l)) (room m) ≡ r → filled m ≤ length m.queue - 64 → has_room m.queue (filled m) (render l) ≡ r
  fit l r e z = room_same (filled m) (length (render l)) (length m.queue - 64) z ∙ e

  -- in the view, and told at once
  now_told : (r : Bool) → leb (length (render (flags_line n (message i u f 0 c)))) (room m) ≡ r → in_view m i u ≡ true → flags_at_once m ≡ true → filled m ≤ length m.queue - 64 → end ≡ left m m.rows now
  unfolding heard
  now_told true e v a z = ap (λ (o : Outcome). o.after) (fl_told i u f c b law rs many k h is v a e) ∙ rw (text_is, fit (flags_line n (message i u f 0 c)) true e z)
  now_told false e v a z = ap (λ (o : Outcome). o.after) (fl_over i u f c b law rs many k h is v a e) ∙ rw (text_is, fit (flags_line n (message i u f 0 c)) false e z)

  -- in the view nobody is told by a STATUS
  view_own : in_view m i u ≡ true → on ≡ false
  view_own v = ap (λ (b : Bool). not b && (both_rights x && asked_of m.session x asks_flags)) (and_l (is_selected m i) _ v)

  waits : in_view m i u ≡ true → flags_at_once m ≡ false → (w : Bool) → flags_wait m ≡ w → end ≡ left m m.rows (kept (cond w 2 states) on)
  unfolding heard
  waits v a true w = ap (λ (o : Outcome). o.after) (fl-waits i u f c b law rs many k h is v a w) ∙ rw (view_own v)
  waits v a false w = ap (λ (o : Outcome). o.after) (fl_plain i u f c b law rs many k h is v a w) ∙ rw (view_own v)

  -- elsewhere, or not announced
  away : in_view m i u ≡ false → (on ≡ true → filled m ≤ length m.queue - 64) → end ≡ left m m.rows (kept states on)
  away v free =
      let stored : change_mails m (reflag i u f c) ≡ set_entry m k (with_flags (get_or m.entries k no_message) f c) = plain i u f c b law rs many k h is in
      told_tables m (λ (j : Memory). reflagged j i u f c) m.rows (kept states on).entries m.counts.messages (status (name_of x) (changes_of x))
      (rw v stored)
      (rw v (ap silence stored))
      (λ j. refl)
      on
      (rw v (status-when x (changes_of x) (is_selected m i) (asked_of m.session x asks_flags)))
      free

  pub change_told : ((in_view m i u && flags_at_once m) ≡ true → filled m ≤ length m.queue - 64) → (on ≡ true → filled m ≤ length m.queue - 64)
      → end ≡ left m m.rows (flag_after m.entries m.counts.messages m.queue m.session (filled m) x k f c n (in_view m i u && flags_at_once m) (in_view m i u && flags_wait m) on)
  unfolding flag_after
  change_told free asked = go (in_view m i u) refl (flags_at_once m) refl free
    where
      go : (v : Bool) → in_view m i u ≡ v → (a : Bool) → flags_at_once m ≡ a → ((v && a) ≡ true → filled m ≤ length m.queue - 64)
          → end ≡ left m m.rows (cond (v && a) now (kept (cond (v && flags_wait m) 2 states) on))
      go true v true a z = now_told (leb (length (render (flags_line n (message i u f 0 c)))) (room m)) refl v a (z refl)
      go true v false a z = waits v a (flags_wait m) refl
      go false v a b z = away v asked
