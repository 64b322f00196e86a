-- `listed_bits`: the loop keeps that no row before k may be listed and has the name. Assumes nothing.
use Rattle.std.proofs.Common.{◌≡◌, List, length, drop}
use Rattle.model.specs.Events.{listed_row}
use Rattle.model.specs.declared.Mailbox.{Mailbox}
use Rattle.table_mailboxes.specs.Columns.{Column, Names}
use Rattle.table_mailboxes.proofs.Columns.listed_bits.Given as goal

abbrev pub invariant-loop-k : goal.invariant-loop-k
invariant-loop-k now = (l : List Mailbox) → length l ≡ now.self.n → Column (λ (x : Mailbox). x.attributes) l now.self.attributes → Column (λ (x : Mailbox). x.namelen) l now.self.lens → Names l now.self.names → listed_row now.name l ≡ listed_row now.name (drop now.k l)
