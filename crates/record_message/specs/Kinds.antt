-- `FL` and `XP`, rung by rung: each end of the code comes to what the ladder says. Assumes nothing.
use Rattle.std.specs.Prelude.{◌≡◌, true, false, not, cond, ◌||◌, List, ℕ, ◌*◌, ◌<◌, leb, take, set, Option, Some, None, position, Ok, Err}
use Rattle.std.proofs.Math.Path.{refl, ap}
use Rattle.std.proofs.Common.{sym, ◌∙◌}
use Rattle.model.specs.Laws.{or_true}
use Rattle.model.specs.Memory.{Memory, boxes, filled, known, the_mailbox, counter_of, with_counter}
use Rattle.model.specs.Records.{reflag, expunge}
use Rattle.model.specs.Refusals.{absent, stale}
use Rattle.model.specs.Events.{removed, reflagged}
use Rattle.model.specs.Rules.{Outcome, accepted, event_outcome}
use Rattle.model.specs.Call.{refuse}
use Rattle.demands.specs.Lasting.Law.{Law}
use Rattle.model.specs.declared.Mailbox.{Mailbox}
use Rattle.model.specs.declared.Counts.{Counts}
use Rattle.model.specs.declared.Session.{Session}
use Rattle.model.specs.declared.Refusal.TheVariants.{WrongId, WrongUid}
use Rattle.model.specs.declared.Answer.TheVariants.{Done}
use Rattle.table_messages.specs.Words.{messages}
use Rattle.table_messages.specs.Found.{stands}
use Rattle.event_message.specs.After.{After, Leaves}
use Rattle.event_message.specs.Accepted.{left}
use Rattle.event_message.specs.Deciding.{reflag_after, reflag_told, expunge_after, expunge_told}
use Rattle.record_outcome.specs.Coming.{Lends, Found, Comes, Came, putting, ladder}
use Rattle.record_outcome.specs.Laws.{comes-refused, not-known, is_known, is_placed, is_within as is_inside}
use Rattle.record_outcome.specs.declared.Place.{Place}
use Rattle.record_message.specs.Met.{counts_of, comes_put, is-stale, is-absent, is-there, is_within, is_that}
use Rattle.record_message.specs.Raised.{raised_rows, risen, is_risen, risen-known, risen_row}

-- the ladder of a record about a message that must be there
abbrev pub rungs : Memory → ℕ → ℕ → ℕ → Outcome → Outcome
rungs m i u c o = cond (not (known i (boxes m))) (refuse m WrongId) (cond (absent m i u || stale m i c) (refuse m WrongUid) o)

module _ (m : Memory) (ws : List ℕ) (k : Counts) (s : Session) (q : List ℕ) (lent : Lends m ws k s q) (law : Law m) (i : ℕ) (f : Option Place) (w : Found m i f) (u c : ℕ) where
  -- ---- refused
  pub no_mailbox_lem : (o : Outcome) (r : Came) → f ≡ None → r ≡ Err WrongId → Comes m (rungs m i u c o) r ws ws q
  no_mailbox_lem o r h = comes-refused m ws k s q lent WrongId (rungs m i u c o) r (sym (rw (not-known m i w h)))

  module _ (r : Came) (pl : Place) (e : f ≡ Some pl) where
    there : known i (boxes m) ≡ true
    there = is_known m i w e

    pub not-above : (o : Outcome) → leb c (counter_of pl.row) ≡ true → r ≡ Err WrongUid → Comes m (rungs m i u c o) r ws ws q
    not-above o h = comes-refused m ws k s q lent WrongUid (rungs m i u c o) r (sym (rw (there, is-stale m ws k s q lent i (is_placed m i w e) c true h, or_true (absent m i u))))

    module _ (a : Option ℕ) (found : a ≡ position (stands i u) (messages (take (6 * k.messages) ws))) where
      pub no-message : (o : Outcome) → a ≡ None → r ≡ Err WrongUid → Comes m (rungs m i u c o) r ws ws q
      no-message o h = comes-refused m ws k s q lent WrongUid (rungs m i u c o) r (sym (rw (there, is-absent m ws k s q lent law i u a found h)))

      -- ---- done: the row with the record's counter is put
      module _ (above : leb c (counter_of pl.row) ≡ false) (row : Mailbox) (is : row ≡ with_counter pl.row c) (ws' : List ℕ) (n : ℕ) (q' : List ℕ) (s' : Session) (g at : ℕ) (h : a ≡ Some at) (z : r ≡ Ok (putting pl.at row (counts_of k n g) s')) where
        inside : at < m.counts.messages
        inside = rw lent.counts (is_within m ws k s q lent law i u a found at h)

        many : pl.at < m.counts.mailboxes
        many = is_inside m i w e law

        abbrev rs : List Mailbox
        rs = raised_rows m pl.at pl.row c

        the_row : the_mailbox i (boxes (risen m pl.at pl.row c)) ≡ row
        the_row = risen_row m law i pl.at pl.row (is_placed m i w e) many there c ∙ sym is

        served : (o : Outcome) (v : After) → o.answer ≡ Done → o.after ≡ left m rs v → Leaves v ws ws' n q' s' g → Comes m (rungs m i u c o) r ws ws' q'
        served o v d x l =
            let past : rungs m i u c o ≡ o = rw (there, is-there m ws k s q lent law i u a found at h, is-stale m ws k s q lent i (is_placed m i w e) c false above) in
            rw past (comes_put m ws k s q lent o v ws' n q' s' g d l r pl.at row (x ∙ ap (λ (y : Mailbox). left m (set m.rows pl.at y) v) (sym is)) z)

        pub flag_done : (b : ℕ) → Leaves (reflag_after (messages ws) k.messages q s k.filled at row b c) ws ws' n q' s' g → Comes m (ladder m (reflag i u b c)) r ws ws' q'
        unfolding accepted
        flag_done b =
            let y = the_row in
            let same : reflag_after m.entries m.counts.messages m.queue m.session (filled m) at (the_mailbox i (boxes (risen m pl.at pl.row c))) b c ≡ reflag_after (messages ws) k.messages q s k.filled at row b c = cc in
            served (accepted m (reflag i u b c)) (reflag_after (messages ws) k.messages q s k.filled at row b c) refl
            (ap (λ (j : Memory). (event_outcome j (λ (v : Memory). reflagged v i u b c)).after) (is_risen m law i pl.at pl.row (is_placed m i w e) many there c)
            ∙ (reflag_told m law rs m.counts.mailboxes i u at inside (is_that m ws k s q lent law i u a found at h) (risen-known m law i pl.at pl.row (is_placed m i w e) many there c) b c ∙ ap (left m rs) same))

        pub expunge_done : Leaves (expunge_after (messages ws) k.messages q s k.filled at row) ws ws' n q' s' g → Comes m (ladder m (expunge i u c)) r ws ws' q'
        unfolding accepted
        expunge_done =
            let y = the_row in
            let same : expunge_after m.entries m.counts.messages m.queue m.session (filled m) at (the_mailbox i (boxes (risen m pl.at pl.row c))) ≡ expunge_after (messages ws) k.messages q s k.filled at row = cc in
            served (accepted m (expunge i u c)) (expunge_after (messages ws) k.messages q s k.filled at row) refl
            (ap (λ (j : Memory). (event_outcome j (λ (v : Memory). removed v i u)).after) (is_risen m law i pl.at pl.row (is_placed m i w e) many there c)
            ∙ (expunge_told m law rs m.counts.mailboxes i u at inside (is_that m ws k s q lent law i u a found at h) (risen-known m law i pl.at pl.row (is_placed m i w e) many there c) ∙ ap (left m rs) same))
