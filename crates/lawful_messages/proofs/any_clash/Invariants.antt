-- `any_clash`: the loop keeps that row j clashes with a row from `from` on exactly if it does with one from k on. Assumes nothing.
use Rattle.std.proofs.Common.{◌≡◌, List, length, drop, get_or}
use Rattle.model.specs.Lists.{anyb}
use Rattle.model.specs.Memory.{no_mailbox}
use Rattle.model.specs.Lawful.{clash}
use Rattle.model.specs.declared.Mailbox.{Mailbox}
use Rattle.lawful_messages.specs.Clashing.{Called}
use Rattle.lawful_messages.proofs.any_clash.Given as goal

abbrev pub invariant-loop-k : goal.invariant-loop-k
invariant-loop-k now = (l : List Mailbox) → length l ≡ now.cols.n → Called l now.cols.ids now.cols.lens now.cols.names → anyb (clash (get_or l now.j no_mailbox)) (drop now.from l) ≡ anyb (clash (get_or l now.j no_mailbox)) (drop now.k l)
