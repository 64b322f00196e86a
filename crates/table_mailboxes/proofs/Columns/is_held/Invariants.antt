-- `is_held`: the loop keeps that no row before k is another that holds the name. Assumes nothing.
use Rattle.std.proofs.Common.{◌≡◌, List, length, drop}
use Rattle.model.specs.Lists.{anyb}
use Rattle.model.specs.declared.Mailbox.{Mailbox}
use Rattle.table_mailboxes.specs.Columns.{Column, Names}
use Rattle.table_mailboxes.specs.Rows.{holds}
use Rattle.table_mailboxes.proofs.Columns.is_held.Given as goal

abbrev pub invariant-loop-k : goal.invariant-loop-k
invariant-loop-k now = (l : List Mailbox) → length l ≡ now.self.n → Column (λ (x : Mailbox). x.id) l now.self.ids → Column (λ (x : Mailbox). x.namelen) l now.self.lens → Names l now.self.names → anyb (holds now.id now.name) l ≡ anyb (holds now.id now.name) (drop now.k l)
