-- A record that raises its mailbox's counter: the rules put the row before the event is told. Assumes nothing.
use Rattle.std.specs.Prelude.{◌≡◌, true, ℕ, ◌<◌, ◌≤◌, length, set}
use Rattle.std.proofs.Common.{ap, sym, ◌∙◌, leb-true, lt-ltb}
use Rattle.model.specs.Memory.{Memory, boxes, known, the_mailbox, place, with_counter, put_box}
use Rattle.model.specs.Rules.{raised}
use Rattle.model.specs.declared.Mailbox.{Mailbox}
use Rattle.demands.specs.Isolation.Erase.{box_id}
use Rattle.demands.specs.Lasting.Law.{Law}
use Rattle.demands.specs.Lasting.Raised.{raised-boxes, raised_row}
use Rattle.demands.specs.Lasting.Rows.{place_set}
use Rattle.table_mailboxes.specs.Rows.{rows_are, boxes_long, put_at_lem}
use Rattle.record_outcome.specs.Coming.{Placed}

module _ (m : Memory) (law : Law m) (i p : ℕ) (x : Mailbox) (w : Placed m i p x) (h : p < m.counts.mailboxes) (c : ℕ) where
  fit : m.counts.mailboxes ≤ length m.rows
  fit = leb-true _ _ law.used

  there : known i (boxes m) ≡ true
  there = lt-ltb (place i (boxes m)) (length (boxes m)) (rw (← w.at, boxes_long m fit) h)

  -- one row is another
  pub raised_is : raised m i c ≡ rows_are m (set m.rows p (with_counter x c)) m.counts.mailboxes
  raised_is = ap (λ (y : Mailbox). put_box m i (with_counter y c)) (sym w.is) ∙ put_at_lem m fit i p (with_counter x c) w.at h

  -- the mailbox is where it was
  pub raised_placed : Placed (raised m i c) i p (with_counter x c)
  raised_placed = record {
    at = w.at ∙ sym (ap (place i) (raised-boxes m i c there) ∙ place_set i (with_counter (the_mailbox i (boxes m)) c) (box_id i (boxes m) there) i (boxes m));
    is = ap (λ (y : Mailbox). with_counter y c) w.is ∙ sym (raised_row m i c there);
  }
