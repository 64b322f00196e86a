-- `FL` of a message in the view, as code does it: one entry is set; a line is written, or the overflow line, or none. Memory m is a lawful one with other rows: the
-- record's counter is in its mailbox's row already. Assumes nothing.
use Rattle.std.specs.Prelude.{◌≡◌, refl, Bool, true, false, not, List, [], ◌∷◌, ℕ, ◌<◌, eqb, leb, length, get_or}
use Rattle.std.proofs.Math.Path.{ap}
use Rattle.std.proofs.Common.{sym, ◌∙◌, eqb-true}
use Rattle.std.proofs.Math.Bool.{cond}
use Rattle.model.specs.Laws.{and_l, and_r, and_false}
use Rattle.model.specs.Memory.{Memory, no_message, selected_box, both_rights, is_selected, is_message, with_flags, with_states, change_mails}
use Rattle.model.specs.Lines.{Line, overflow, render}
use Rattle.model.specs.Queue.{room, enqueue, effect, unmark}
use Rattle.model.specs.View.{view, place_of, flags_at_once, flags_wait, flags_line}
use Rattle.model.specs.Events.{in_view, reflag, reflagged, silence, message}
use Rattle.model.specs.Rules.{Outcome, event_outcome}
use Rattle.demands.specs.Lasting.Law.{Law}
use Rattle.model.specs.declared.Mailbox.{Mailbox}
use Rattle.model.specs.declared.Message.{Message}
use Rattle.model.specs.declared.Answer.TheVariants.{Done}
use Rattle.laws.specs.Changing.{set_entry, change_at, change_twice}
use Rattle.laws.specs.Telling.{told_none, told_one, told_over}
use Rattle.table_mailboxes.specs.Rows.{rows_are}

-- an outcome that says nothing, and one that says a line
abbrev pub quiet : Memory → Outcome
quiet k = record { answer = Done; lines = []; after = k }

abbrev pub saying : Line → Memory → Outcome
saying l k = record { answer = Done; lines = l ∷ []; after = enqueue k (render l) }

module _ (i u f c : ℕ) where
  only : (g : Message → Message) (e : Message) → is_message i u e ≡ false → cond (is_message i u e) (g e) e ≡ e
  only g e h = rw h

  -- the changes, and that they are of one message alone
  again : (s : ℕ) → Message → Message
  again s e = cond (is_message i u (reflag i u f c e)) (with_states (reflag i u f c e) s) (reflag i u f c e)

  still : (e : Message) → is_message i u (reflag i u f c e) ≡ is_message i u e
  still e = go (is_message i u e) refl
    where
      go : (b : Bool) → is_message i u e ≡ b → is_message i u (cond b (with_flags e f c) e) ≡ is_message i u e
      go true q = refl
      go false q = refl

  again-only : (s : ℕ) (e : Message) → is_message i u e ≡ false → again s e ≡ e
  unfolding again
  again-only s e h = rw (still e, h)

  again_is : (s : ℕ) (e : Message) → is_message i u e ≡ true → again s e ≡ with_states (with_flags e f c) s
  unfolding again
  again_is s e h = rw (still e, h)

  module _ (b : Memory) (law : Law b) (rs : List Mailbox) (many k : ℕ) (h : k < b.counts.messages) (is : is_message i u (get_or b.entries k no_message) ≡ true) where
    abbrev m : Memory
    m = rows_are b rs many

    abbrev the : Message
    the = get_or b.entries k no_message

    pub plain : change_mails m (reflag i u f c) ≡ set_entry m k (with_flags the f c)
    plain = ap (λ (j : Memory). rows_are j rs many) (change_at b law i u (reflag i u f c) (only (λ (e : Message). with_flags e f c)) k h is) ∙ ap (set_entry m k) (rw is)

    twice : (s : ℕ) → change_mails (change_mails m (reflag i u f c)) (λ (e : Message). cond (is_message i u e) (with_states e s) e) ≡ set_entry m k (with_states (with_flags the f c) s)
    unfolding again
    twice s =
        ap (λ (j : Memory). rows_are j rs many) (change_twice b law (reflag i u f c) (λ (e : Message). cond (is_message i u e) (with_states e s) e) ∙ change_at b law i u (again s) (again-only s) k h is)
        ∙ ap (set_entry m k) (again_is s the is)

    abbrev pub outcome : Outcome
    outcome = event_outcome m (λ (x : Memory). reflagged x i u f c)

    -- nobody asks, and nothing waits
    pub fl_plain : in_view m i u ≡ true → flags_at_once m ≡ false → flags_wait m ≡ false → outcome ≡ quiet (set_entry m k (with_flags the f c))
    fl_plain v a w = told_none m (λ (x : Memory). reflagged x i u f c) (rw (v, a, w)) ∙ ap quiet (rw (v, a, w) plain)

    -- it waits as a mark
    pub fl-waits : in_view m i u ≡ true → flags_at_once m ≡ false → flags_wait m ≡ true → outcome ≡ quiet (set_entry m k (with_states (with_flags the f c) 2))
    fl-waits v a w = told_none m (λ (x : Memory). reflagged x i u f c) (rw (v, a, w)) ∙ ap quiet (rw (v, a, w) (twice 2))

    -- it is told at once, and ends a mark
    abbrev pub line : Line
    line = flags_line (place_of u (view m)).0 (message i u f 0 c)

    pub fl_told : in_view m i u ≡ true → flags_at_once m ≡ true → leb (length (render line)) (room m) ≡ true → outcome ≡ saying line (set_entry m k (with_states (with_flags the f c) 0))
    fl_told v a r =
        let e : i ≡ m.session.selected = eqb-true i m.session.selected (and_r (not (eqb i 0)) _ (and_l (is_selected m i) _ v)) in
        let t : (reflagged m i u f c).stored ≡ change_mails m (reflag i u f c) = rw (v, a) in
        told_one m (λ (x : Memory). reflagged x i u f c) line (rw (v, a)) r
        ∙ (ap (λ (x : Memory). record { answer = Done; lines = line ∷ []; after = effect (enqueue x (render line)) line }) t
        ∙ ap (saying line) (ap (λ (n : ℕ). change_mails (change_mails m (reflag i u f c)) (unmark n u)) (sym e) ∙ twice 0))

    -- its line does not fit: the session is as after NOTIFY NONE, and the change is told to nobody
    pub fl_over : in_view m i u ≡ true → flags_at_once m ≡ true → leb (length (render line)) (room m) ≡ false → outcome ≡ saying overflow (silence (set_entry m k (with_flags the f c)))
    fl_over v a r =
        told_over m (λ (x : Memory). reflagged x i u f c) line (rw (v, a)) r
        ∙ ap (λ (x : Memory). record { answer = Done; lines = overflow ∷ []; after = enqueue x (render overflow) }) (rw (v, and_false (both_rights (selected_box m))) (ap silence plain))
