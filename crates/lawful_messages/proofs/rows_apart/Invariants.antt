-- No two rows clash: the fold of all is the fold from row j on.
use Rattle.std.proofs.Common.{◌≡◌, List, length, drop}
use Rattle.model.specs.Lists.{apart}
use Rattle.model.specs.Lawful.{clash}
use Rattle.model.specs.declared.Mailbox.{Mailbox}
use Rattle.lawful_messages.specs.Clashing.{Called}
use Rattle.lawful_messages.proofs.rows_apart.Given as goal

abbrev pub invariant-loop-j : goal.invariant-loop-j
invariant-loop-j now = (l : List Mailbox) → length l ≡ now.cols.n → Called l now.cols.ids now.cols.lens now.cols.names → apart clash l ≡ apart clash (drop now.j l)
