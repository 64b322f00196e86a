-- `count`: the loop keeps that the counts are those of the entries before i. Assumes nothing.
use Rattle.std.proofs.Common.{ℕ, ◌≤◌, get_or}
use Rattle.table_messages.specs.Words.{messages}
use Rattle.table_counts.specs.Tally.{Apart, Counted}
use Rattle.table_counts.proofs.count.Given as goal

abbrev pub invariant-loop-i : goal.invariant-loop-i
invariant-loop-i l = ((k : ℕ) → get_or l.counts k 0 ≤ l.i) × (Apart l.cols.ids l.cols.n → Counted l.cols.ids l.cols.n (messages l.words) l.i l.counts)
