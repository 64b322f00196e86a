-- `rows_ok`: the loop keeps that all rows are in order exactly if those from k on are. Assumes nothing.
use Rattle.std.proofs.Common.{◌≡◌, List, drop}
use Rattle.model.specs.Lists.{allb}
use Rattle.model.specs.Lawful.{mailbox_ok}
use Rattle.model.specs.declared.Mailbox.{Mailbox}
use Rattle.table_mailboxes.specs.Whole.{LaidIn}
use Rattle.lawful_mailboxes.proofs.rows_ok.Given as goal

abbrev pub invariant-loop-k : goal.invariant-loop-k
invariant-loop-k now = (l : List Mailbox) → LaidIn l now.cols → allb mailbox_ok l ≡ allb mailbox_ok (drop now.k l)
