-- The memory that an event about a message is told of: its mailbox's row has the record's counter, and all else is as it was. Assumes nothing.
use Rattle.std.specs.Prelude.{◌≡◌, true, List, ℕ, ◌<◌, ◌≤◌, length, set}
use Rattle.std.proofs.Common.{ap, sym, ◌∙◌, length-set, leb-true}
use Rattle.model.specs.Memory.{Memory, boxes, known, the_mailbox, place, with_counter}
use Rattle.model.specs.Rules.{raised}
use Rattle.model.specs.declared.Mailbox.{Mailbox}
use Rattle.demands.specs.Lasting.Law.{Law}
use Rattle.demands.specs.Lasting.Raised.{raised-known}
use Rattle.table_mailboxes.specs.Rows.{rows_are}
use Rattle.record_outcome.specs.Coming.{Placed}
use Rattle.record_outcome.specs.Raising.{raised_is, raised_placed}

-- the rows, and the memory
abbrev pub raised_rows : Memory → ℕ → Mailbox → ℕ → List Mailbox
raised_rows m p x c = set m.rows p (with_counter x c)

abbrev pub risen : Memory → ℕ → Mailbox → ℕ → Memory
risen m p x c = rows_are m (raised_rows m p x c) m.counts.mailboxes

module _ (m : Memory) (law : Law m) (i p : ℕ) (x : Mailbox) (w : Placed m i p x) (h : p < m.counts.mailboxes) (there : known i (boxes m) ≡ true) (c : ℕ) where
  pub is_risen : raised m i c ≡ risen m p x c
  is_risen = raised_is m law i p x w h c

  pub risen_fit : m.counts.mailboxes ≤ length (raised_rows m p x c)
  risen_fit = rw (length-set m.rows p (with_counter x c)) (leb-true m.counts.mailboxes (length m.rows) law.used)

  pub risen-known : known i (boxes (risen m p x c)) ≡ true
  risen-known = sym (ap (λ (j : Memory). known i (boxes j)) is_risen) ∙ raised-known m i c there

  pub risen-place : p ≡ place i (boxes (risen m p x c))
  risen-place = (raised_placed m law i p x w h c).at ∙ ap (λ (j : Memory). place i (boxes j)) is_risen

  pub risen_row : the_mailbox i (boxes (risen m p x c)) ≡ with_counter x c
  risen_row = sym ((raised_placed m law i p x w h c).is ∙ ap (λ (j : Memory). the_mailbox i (boxes j)) is_risen)
