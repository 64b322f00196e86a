-- `ME`, rung by rung: each end of the code comes to what the ladder says. Assumes nothing.
use Rattle.std.specs.Prelude.{◌≡◌, Bool, true, ◌||◌, ℕ, ◌+◌, ◌/◌, ◌<◌, ◌≤◌, leb, ltb, Option, Some, None, Ok, Err}
use Rattle.std.proofs.Math.Path.{refl, ap, ap₂, sym}
use Rattle.std.proofs.Common.{◌∙◌, le-leb, ltb-false}
use Rattle.std.proofs.Math.Bool.{false}
use mathlib.Core.List.{List}
use Rattle.std.proofs.Math.ListN.{length, set}
use Rattle.std.proofs.Math.Seq.{set-set}
use Rattle.std.proofs.lemmas.Bool.{lt-leb}
use Rattle.model.specs.Memory.{Memory, boxes, mails, filled, known, the_mailbox, counter_of, with_counter, with_next}
use Rattle.model.specs.Records.{arrive}
use Rattle.model.specs.Laws.{or_l}
use Rattle.model.specs.Refusals.{table_full, stale}
use Rattle.model.specs.Events.{arrived}
use Rattle.model.specs.Rules.{accepted, event_outcome}
use Rattle.demands.specs.Lasting.Law.{Law}
use Rattle.model.specs.declared.Mailbox.{Mailbox}
use Rattle.model.specs.declared.Counts.{Counts}
use Rattle.model.specs.declared.Session.{Session}
use Rattle.model.specs.declared.Refusal.TheVariants.{WrongId, WrongUid, TableFull}
use Rattle.laws.specs.Changing.{used_long}
use Rattle.table_messages.specs.Words.{messages, messages-count}
use Rattle.event_message.specs.After.{Leaves}
use Rattle.event_message.specs.Accepted.{left}
use Rattle.event_message.specs.Receiving.{receive_after, told_low}
use Rattle.event_message.proofs.Receiving.{receive_told}
use Rattle.record_outcome.specs.Coming.{Lends, Found, Comes, Came, putting, ladder}
use Rattle.record_outcome.specs.Laws.{comes-refused, not-known, is_known, is_placed, is_within}
use Rattle.record_outcome.specs.declared.Place.{Place}
use Rattle.record_message.specs.Met.{counts_of, comes_put}
use Rattle.record_message.specs.Raised.{raised_rows, risen, is_risen, risen_fit, risen-known, risen-place, risen_row}

module _ (m : Memory) (ws : List ℕ) (k : Counts) (s : Session) (q : List ℕ) (lent : Lends m ws k s q) (law : Law m) (i : ℕ) (o : Option Place) (w : Found m i o) (u f z c : ℕ) where
  pub arrive_unknown : (r : Came) → o ≡ None → r ≡ Err WrongId → Comes m (ladder m (arrive i u f z c)) r ws ws q
  arrive_unknown r h = comes-refused m ws k s q lent WrongId (ladder m (arrive i u f z c)) r (sym (rw (not-known m i w h)))

  module _ (r : Came) (pl : Place) (is : o ≡ Some pl) where
    there : known i (boxes m) ≡ true
    there = is_known m i w is

    -- whether its UID or its counter is spent
    spent : (b : Bool) → (ltb u pl.row.uidnext || leb c (counter_of pl.row)) ≡ b → (ltb u (the_mailbox i (boxes m)).uidnext || stale m i c) ≡ b
    spent b e = ap (λ (y : Mailbox). ltb u y.uidnext || leb c (counter_of y)) (sym (is_placed m i w is).is) ∙ e

    pub arrive_spent : (ltb u pl.row.uidnext || leb c (counter_of pl.row)) ≡ true → r ≡ Err WrongUid → Comes m (ladder m (arrive i u f z c)) r ws ws q
    arrive_spent h = comes-refused m ws k s q lent WrongUid (ladder m (arrive i u f z c)) r (sym (rw (there, spent true h)))

    module _ (above : (ltb u pl.row.uidnext || leb c (counter_of pl.row)) ≡ false) where
      -- how many entries there are, and how many are in use
      size : length m.entries ≡ length ws / 6
      size = ap length lent.entries ∙ messages-count ws

      in_use : length (mails m) ≡ k.messages
      in_use = used_long m law ∙ ap (λ (v : Counts). v.messages) lent.counts

      by-room : (b : Bool) → leb (length ws / 6) k.messages ≡ b → table_full m (arrive i u f z c) ≡ b
      by-room b e = ap₂ leb size in_use ∙ e

      pub arrive-full : length ws / 6 ≤ k.messages → r ≡ Err TableFull → Comes m (ladder m (arrive i u f z c)) r ws ws q
      arrive-full h = comes-refused m ws k s q lent TableFull (ladder m (arrive i u f z c)) r (sym (rw (there, spent false above, by-room true (le-leb (length ws / 6) k.messages h))))

      -- done: y is the row with the message's counter, and the row that is put has its UIDNEXT too
      pub arrive_done : (ws' : List ℕ) (n : ℕ) (q' : List ℕ) (s' : Session) (e : ℕ) (y row : Mailbox) → k.messages < length ws / 6
          → y ≡ with_counter pl.row c → row ≡ with_next y (u + 1) → Leaves (receive_after (messages ws) k.messages q s k.filled y u f z c) ws ws' n q' s' e
          → r ≡ Ok (putting pl.at row (counts_of k n e) s') → Comes m (ladder m (arrive i u f z c)) r ws ws' q'
      unfolding accepted
      arrive_done ws' n q' s' e y row h a d l t =
          let many : pl.at < m.counts.mailboxes = is_within m i w is law in
          let at = is_placed m i w is in
          let space : m.counts.messages < length m.entries = rw (lent.counts, size) h in
          let next : (the_mailbox i (boxes m)).uidnext ≤ u = rw (← at.is) (ltb-false u pl.row.uidnext (or_l (ltb u pl.row.uidnext) (leb c (counter_of pl.row)) above)) in
          let rs : List Mailbox = raised_rows m pl.at pl.row c in
          let the_row : the_mailbox i (boxes (risen m pl.at pl.row c)) ≡ y = risen_row m law i pl.at pl.row at many there c ∙ sym a in
          let past : ladder m (arrive i u f z c) ≡ accepted m (arrive i u f z c) = rw (there, spent false above, by-room false (lt-leb (length ws / 6) k.messages h)) in
          let same : receive_after m.entries m.counts.messages m.queue m.session (filled m) (the_mailbox i (boxes (risen m pl.at pl.row c))) u f z c ≡ receive_after (messages ws) k.messages q s k.filled y u f z c = cc in
          let rows : set rs pl.at (with_next (the_mailbox i (boxes (risen m pl.at pl.row c))) (u + 1)) ≡ set m.rows pl.at row = set-set m.rows pl.at (with_counter pl.row c) (with_next (the_mailbox i (boxes (risen m pl.at pl.row c))) (u + 1)) ∙ ap (set m.rows pl.at) (ap (λ (v : Mailbox). with_next v (u + 1)) the_row ∙ sym d) in
          rw past (comes_put m ws k s q lent (accepted m (arrive i u f z c)) (receive_after (messages ws) k.messages q s k.filled y u f z c) ws' n q' s' e refl l r pl.at row
          (ap (λ (j : Memory). (event_outcome j (λ (v : Memory). arrived v i u f z c)).after) (is_risen m law i pl.at pl.row at many there c)
          ∙ (receive_told m law rs m.counts.mailboxes (risen_fit m law i pl.at pl.row at many there c) i u f z c pl.at (risen-place m law i pl.at pl.row at many there c) many space (risen-known m law i pl.at pl.row at many there c) (told_low m law i u next) ∙ ap₂ (left m) rows same)) t)
