-- `find`: the loop keeps that the UIDs of those that match above place k are put, rising. Assumes nothing.
use Rattle.std.proofs.Common.{length}
use Rattle.search_find.specs.Laws.{Sought}
use Rattle.table_messages.specs.Words.{messages}
use Rattle.search_find.proofs.find.Given as goal

abbrev pub invariant-loop-k : goal.invariant-loop-k
invariant-loop-k l = Sought (messages l.words) l.order (length l.order) l.cells l.lastuid l.initial.uids l.uids l.k l.r
