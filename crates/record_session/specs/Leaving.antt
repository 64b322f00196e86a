-- `SE`, `CE` and `DR`: what the code leaves is what the rules say of them. Assumes nothing.
use Rattle.std.specs.Prelude.{◌≡◌, refl, Bool, true, false, not, ◌&&◌, List, ℕ, ◌*◌, ◌-◌, ◌<◌, ◌≤◌, eqb, ltb, length, take, Option, Some, None, Ok, Err}
use Rattle.std.proofs.Common.{ap, ap₂, sym, ◌∙◌, lt-ltb, le-ltb}
use Rattle.std.specs.Option.{is_none}
use Rattle.model.specs.Lists.{anyb}
use Rattle.model.specs.Memory.{Memory, boxes, filled, known, the_mailbox, selected_box, both_rights, with_view}
use Rattle.model.specs.Queue.{shifted}
use Rattle.model.specs.Records.{select, ended, drained}
use Rattle.model.specs.Refusals.{unfit}
use Rattle.model.specs.Rules.{Outcome, accepted}
use Rattle.model.specs.declared.Mailbox.{Mailbox}
use Rattle.model.specs.declared.Message.{Message}
use Rattle.model.specs.declared.Counts.{Counts}
use Rattle.model.specs.declared.Session.{Session}
use Rattle.model.specs.declared.Refusal.TheVariants.{WrongId, WrongState}
use Rattle.model.specs.declared.Answer.TheVariants.{Counted}
use Rattle.demands.specs.Lasting.Law.{Law}
use Rattle.table_messages.specs.Words.{messages, messages-take}
use Rattle.table_messages.specs.Laid.{laid, laid_own}
use Rattle.event_session.specs.After.{After, left, drain_after, select_after, select_entries, rests, drain-accepted, drain-answer, select-accepted, select-answer}
use Rattle.event_session.specs.Ending.{end_after, end_rest, Leaves}
use Rattle.event_session.specs.Quiet.{owes, leaves_all}
use Rattle.event_session.specs.Accepted.{end-answer}
use Rattle.event_session.specs.Closing.{end-accepted}
use Rattle.event_session.specs.declared.Closed.{Closed}
use Rattle.record_outcome.specs.Coming.{Lends, Found, row_of, Comes, Came, counting, answer_of, rows_after, counts_after, session_after, calm, ladder}
use Rattle.record_outcome.specs.Laws.{comes-refused, row_is}
use Rattle.record_outcome.specs.declared.Place.{Place}

-- counts with as many entries and octets as are left
abbrev pub counts_left : Counts → ℕ → ℕ → Counts
counts_left k n f = record { mailboxes = k.mailboxes; messages = n; filled = f }

-- what was not found is not known
unfound : (m : Memory) (i : ℕ) (o : Option Place) → Found m i o → is_none o ≡ not (known i (boxes m))
unfound m i (Some p) w = rw w.0 refl
unfound m i None w = rw w refl

module _ (m : Memory) (ws : List ℕ) (k : Counts) (s : Session) (q : List ℕ) (lent : Lends m ws k s q) where
  -- no row changes: what a record leaves, by entries and counts, queue, session and F before it
  pub comes_left : (u o : Outcome) (a : Option ℕ) (after : List Message → ℕ → List ℕ → Session → ℕ → After) {ws' q' : List ℕ} (n f : ℕ) (s' : Session) (r : Came)
      → u ≡ o → u.answer ≡ counting a → u.after ≡ left m (after m.entries m.counts.messages m.queue m.session (filled m))
      → ws' ≡ laid ws (after (messages ws) k.messages q s k.filled).entries
      → n ≡ (after (messages ws) k.messages q s k.filled).used
      → q' ≡ (after (messages ws) k.messages q s k.filled).queue
      → s' ≡ (after (messages ws) k.messages q s k.filled).session
      → f ≡ (after (messages ws) k.messages q s k.filled).filled
      → r ≡ Ok (calm a (counts_left k n f) s') → Comes m o r ws ws' q'
  comes_left u o a after n f s' r same done is w v y z x e =
      let t : o.after ≡ left m (after (messages ws) k.messages q s k.filled) =
      ap (λ (j : Outcome). j.after) (sym same)
      ∙ (is
      ∙ ap (left m) (ap₂ (λ (l : List Message) (p : List ℕ). after l m.counts.messages p m.session (filled m)) lent.entries lent.queue
      ∙ ap₂ (λ (c : Counts) (p : Session). after (messages ws) c.messages q p c.filled) lent.counts lent.session)) in
      record {
        answer = ap answer_of e ∙ (sym done ∙ ap (λ (j : Outcome). j.answer) same);
        rows = ap (λ (c : Came). rows_after c m.counts.mailboxes m.rows) e ∙ sym (ap (λ (j : Memory). j.rows) t);
        words = w ∙ ap (laid ws) (sym (ap (λ (j : Memory). j.entries) t));
        counts = ap (λ (c : Came). counts_after c m.counts) e
            ∙ (ap₂ (counts_left k) v x
            ∙ (ap (λ (c : Counts). counts_left c (after (messages ws) k.messages q s k.filled).used (after (messages ws) k.messages q s k.filled).filled) (sym lent.counts)
            ∙ sym (ap (λ (j : Memory). j.counts) t)));
        session = ap (λ (c : Came). session_after c m.session) e ∙ (z ∙ sym (ap (λ (j : Memory). j.session) t));
        queue = y ∙ sym (ap (λ (j : Memory). j.queue) t);
      }

  -- ---- `DR`
  module _ (n : ℕ) (r : Came) where
    pub drain-refused : k.filled < n → r ≡ Err WrongState → Comes m (ladder m (drained n)) r ws ws q
    drain-refused h e =
        let b : ltb (filled m) n ≡ true = ap (λ (c : Counts). ltb c.filled n) lent.counts ∙ lt-ltb k.filled n h in
        comes-refused m ws k s q lent WrongState (ladder m (drained n)) r (rw b) e

    pub drain_comes : {q' : List ℕ} {f : ℕ} → n ≤ k.filled → (q' ≡ shifted q k.filled n) × (f ≡ k.filled - n) → r ≡ Ok (calm None (counts_left k k.messages f) s) → Comes m (ladder m (drained n)) r ws ws q'
    drain_comes {q'} {f} h y e =
        let b : ltb (filled m) n ≡ false = ap (λ (c : Counts). ltb c.filled n) lent.counts ∙ le-ltb k.filled n h in
        comes_left (accepted m (drained n)) (ladder m (drained n)) None (λ (es : List Message) (u : ℕ) (p : List ℕ) (t : Session) (g : ℕ). drain_after es u p t g n) k.messages f s r
        (rw b) (drain-answer m n) (drain-accepted m n) (laid_own ws) refl y.0 refl y.1 e

  -- ---- `CE`
  module _ (law : Law m) (x : Mailbox) (is : x ≡ selected_box m) (c : ℕ) (r : Came) where
    pub end_comes : (b : Bool) → b ≡ both_rights x → {ws' q' : List ℕ} (d : Closed)
        → Leaves (end_after (messages ws) k.messages q s k.filled (eqb c 1) b x.uidnext) (end_rest (messages ws) k.messages q s k.filled (eqb c 1) b) ws ws' q' d
        → r ≡ Ok (calm (Some d.rest) (counts_left k d.used d.filled) d.session) → Comes m (ladder m (ended c)) r ws ws' q'
    end_comes b g d y e =
        let j : b ≡ both_rights (selected_box m) = g ∙ ap both_rights is in
        comes_left (accepted m (ended c)) (ladder m (ended c)) (Some d.rest)
        (λ (es : List Message) (u : ℕ) (p : List ℕ) (t : Session) (f : ℕ). end_after es u p t f (eqb c 1) b x.uidnext) d.used d.filled d.session r
        refl
        (end-answer m c ∙ ap Counted (ap₂ (λ (es : List Message) (p : List ℕ). end_rest es m.counts.messages p m.session (filled m) (eqb c 1) (both_rights (selected_box m))) lent.entries lent.queue
        ∙ (ap₂ (λ (n : Counts) (t : Session). end_rest (messages ws) n.messages q t n.filled (eqb c 1) (both_rights (selected_box m))) lent.counts lent.session
        ∙ (ap (end_rest (messages ws) k.messages q s k.filled (eqb c 1)) (sym j) ∙ sym y.rest))))
        (end-accepted m law c ∙ ap₂ (λ (v : Bool) (z : Mailbox). left m (end_after m.entries m.counts.messages m.queue m.session (filled m) (eqb c 1) v z.uidnext)) (sym j) (sym is))
        y.words y.used y.queue y.session y.filled e

    -- no line is owed: nothing changes
    pub end-unowed : k.messages * 6 ≤ length ws → anyb (owes s.selected s.told) (messages (take (6 * k.messages) ws)) ≡ false → r ≡ Ok (calm (Some 0) k s) → Comes m (ladder m (ended c)) r ws ws q
    end-unowed h none e =
        end_comes (both_rights x) refl (record { session = s; used = k.messages; filled = k.filled; rest = 0 })
        (leaves_all ws k.messages q s k.filled (eqb c 1) x.uidnext h (ap (anyb (owes s.selected s.told)) (sym (messages-take k.messages ws)) ∙ none) (both_rights x)) e

  -- ---- `SE`
  module _ (law : Law m) (i : ℕ) (o : Option Place) (w : Found m i o) (x : Mailbox) (is : x ≡ row_of o) (r : Came) where
    unknown : (b : Bool) → (not (eqb i 0) && is_none o) ≡ b → (not (eqb i 0) && not (known i (boxes m))) ≡ b
    unknown b h = ap (λ (v : Bool). not (eqb i 0) && v) (sym (unfound m i o w)) ∙ h

    it : x ≡ the_mailbox i (boxes m)
    it = is ∙ row_is m i o w

    barred : (b : Bool) → (not (eqb i 0) && unfit x) ≡ b → (not (eqb i 0) && unfit (the_mailbox i (boxes m))) ≡ b
    barred b h = ap (λ (z : Mailbox). not (eqb i 0) && unfit z) (sym it) ∙ h

    pub select_unknown : (not (eqb i 0) && is_none o) ≡ true → r ≡ Err WrongId → Comes m (ladder m (select i)) r ws ws q
    select_unknown h e = comes-refused m ws k s q lent WrongId (ladder m (select i)) r (rw (unknown true h)) e

    pub select_barred : (not (eqb i 0) && is_none o) ≡ false → (not (eqb i 0) && unfit x) ≡ true → r ≡ Err WrongState → Comes m (ladder m (select i)) r ws ws q
    select_barred h d e = comes-refused m ws k s q lent WrongState (ladder m (select i)) r (rw (unknown false h, barred true d)) e

    pub select_comes : (not (eqb i 0) && is_none o) ≡ false → (not (eqb i 0) && unfit x) ≡ false → {ws' : List ℕ} {n : ℕ} {s' : Session}
        → (ws' ≡ laid ws (select_entries (messages ws) k.messages)) × (n ≡ length (rests (take k.messages (messages ws)))) × (s' ≡ with_view s i x.uidnext)
        → r ≡ Ok (calm None (counts_left k n k.filled) s') → Comes m (ladder m (select i)) r ws ws' q
    select_comes h d {ws'} {n} {s'} y e =
        comes_left (accepted m (select i)) (ladder m (select i)) None (λ (es : List Message) (u : ℕ) (p : List ℕ) (t : Session) (f : ℕ). select_after es u p t f i x.uidnext) n k.filled s' r
        (rw (unknown false h, barred false d)) (select-answer m i)
        (select-accepted m law i ∙ ap (λ (z : Mailbox). left m (select_after m.entries m.counts.messages m.queue m.session (filled m) i z.uidnext)) (sym it))
        y.0 y.1 refl y.2 refl e
