-- The last UID of each row bounds those of its mailbox so far, behind each run and the entry between two; in the end it is below the UIDNEXT.
use Rattle.std.proofs.Common.{◌≡◌, ◌-◌, ◌*◌, ◌/◌, ◌%◌, ◌≤◌, true, List, length}
use Rattle.model.specs.Lists.{apart}
use Rattle.model.specs.Memory.{counter_of}
use Rattle.model.specs.Lawful.{clash}
use Rattle.model.specs.declared.Mailbox.{Mailbox}
use Rattle.table_mailboxes.specs.Columns.{Column}
use Rattle.lawful_quick.specs.Passing.{Owners, Passed}
use Rattle.lawful_quick.proofs.all_fit.Given as goal

abbrev pub invariant-loop-p : goal.invariant-loop-p
invariant-loop-p now = (now.end ≡ length now.words / 6 * 6) × (now.p.at ≤ now.end) × (now.p.at % 6 ≡ 0) × (length now.last ≡ 64)
    × ((l : List Mailbox) → length l ≡ now.cols.n → Owners l now.cols.ids now.cols.nexts → Column counter_of l now.cols.counters → apart clash l ≡ true
    → Passed now.words l now.view.selected now.view.told.0 now.p now.last)

abbrev pub decreases-loop-p : goal.decreases-loop-p
decreases-loop-p l = l.end - l.p.at
