-- `lay`: the loop keeps that the columns hold the rows before k, and that these have numbers of their types. Assumes nothing.
use Rattle.std.proofs.Common.{◌≡◌, ℕ, ◌<◌, length, get_or}
use Rattle.model.specs.Memory.{no_mailbox}
use Rattle.table_mailboxes.specs.Filling.{Filling}
use Rattle.lent_rows.specs.Standing.{Narrow}
use Rattle.lent_rows.proofs.lay.Given as goal

abbrev pub invariant-loop-k : goal.invariant-loop-k
invariant-loop-k l =
    (l.cols.n ≡ length l.taken) × Filling l.taken l.k l.cols.ids l.cols.attributes l.cols.lens l.cols.validities l.cols.nexts l.cols.counters l.cols.names
    × ((k : ℕ) → k < l.k → Narrow (get_or l.taken k no_mailbox))
