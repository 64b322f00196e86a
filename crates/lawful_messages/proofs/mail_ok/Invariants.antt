-- `mail_ok`: the loop keeps that all entries are in order exactly if those from i on are. Assumes nothing.
use Rattle.std.proofs.Common.{◌≡◌, List, length, drop}
use Rattle.model.specs.Lists.{allb}
use Rattle.model.specs.Memory.{counter_of}
use Rattle.model.specs.declared.Mailbox.{Mailbox}
use Rattle.table_messages.specs.Words.{messages}
use Rattle.table_mailboxes.specs.Columns.{Column}
use Rattle.lawful_quick.specs.Passing.{Owners, entry_ok}
use Rattle.lawful_messages.proofs.mail_ok.Given as goal

abbrev pub invariant-loop-i : goal.invariant-loop-i
invariant-loop-i now = (l : List Mailbox) → length l ≡ now.cols.n → Owners l now.cols.ids now.cols.nexts → Column counter_of l now.cols.counters
    → allb (entry_ok l now.view.selected now.view.told.0) (messages now.words) ≡ allb (entry_ok l now.view.selected now.view.told.0) (drop now.i (messages now.words))
