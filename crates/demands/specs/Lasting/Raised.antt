-- A mailbox whose counter is raised: what is read of memory then. Assumes nothing.
use Rattle.std.specs.Prelude.{◌≡◌, true, ℕ, ◌+◌, ◌*◌, ◌/◌, ◌%◌, leb, set}
use Rattle.std.proofs.Common.{ap, ◌∙◌, arith, le-leb}
use Rattle.model.specs.Memory.{Memory, boxes, known, the_mailbox, place, counter_of, with_counter}
use Rattle.model.specs.Rules.{raised}
use Rattle.model.specs.declared.Mailbox.{Mailbox}
use Rattle.demands.specs.Isolation.Erase.{box_id}
use Rattle.demands.specs.Isolation.Alike.{boxes_with}
use Rattle.demands.specs.Lasting.Rows.{row-set, known_own}

-- a counter is its two halves
pub counter_halves : (c : ℕ) → c % 4294967296 + 4294967296 * (c / 4294967296) ≡ c
counter_halves c = omega arith

module _ (m : Memory) (i c : ℕ) (h : known i (boxes m) ≡ true) where
  pub raised-boxes : boxes (raised m i c) ≡ set (boxes m) (place i (boxes m)) (with_counter (the_mailbox i (boxes m)) c)
  raised-boxes = boxes_with m (set (boxes m) (place i (boxes m)) (with_counter (the_mailbox i (boxes m)) c))

  pub raised_row : the_mailbox i (boxes (raised m i c)) ≡ with_counter (the_mailbox i (boxes m)) c
  raised_row = rw raised-boxes (row-set i (with_counter (the_mailbox i (boxes m)) c) (box_id i (boxes m) h) (boxes m) h)

  pub raised-known : known i (boxes (raised m i c)) ≡ true
  raised-known = rw raised-boxes (known_own i (with_counter (the_mailbox i (boxes m)) c) (box_id i (boxes m) h) (boxes m) h)

  pub raised_next : (the_mailbox i (boxes (raised m i c))).uidnext ≡ (the_mailbox i (boxes m)).uidnext
  raised_next = ap (λ (x : Mailbox). x.uidnext) raised_row

  pub raised_counter : counter_of (the_mailbox i (boxes (raised m i c))) ≡ c
  raised_counter = ap counter_of raised_row ∙ counter_halves c

  -- a message of the record has no higher counter
  pub raised_reaches : leb c (counter_of (the_mailbox i (boxes (raised m i c)))) ≡ true
  raised_reaches = rw raised_counter (le-leb c c (omega arith))
