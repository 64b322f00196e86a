-- `find_runs`: the loop keeps that the runs of the places above i stand one behind the other. Assumes nothing.
use Rattle.std.proofs.Common.{length}
use Rattle.table_messages.specs.Words.{messages}
use Rattle.search_find.specs.Runs.{Finding}
use Rattle.search_find.proofs.find_runs.Given as goal

abbrev pub invariant-loop-i : goal.invariant-loop-i
invariant-loop-i l = Finding (messages l.words) l.ids l.rows (length l.rows) l.wanted.selected l.wanted.below.0 l.wanted.cells.now l.uids l.starts l.counts l.i l.total
