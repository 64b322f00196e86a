-- `told_of`: the loop keeps that the places before it are those of the view. Assumes nothing.
use Rattle.std.proofs.Common.{length}
use Rattle.search_find.specs.Laws.{Keeping}
use Rattle.table_messages.specs.Words.{messages}
use Rattle.search_find.proofs.told_of.Given as goal

abbrev pub invariant-loop-place : goal.invariant-loop-place
invariant-loop-place l = Keeping (messages l.words) l.order (length l.order) l.told.0 l.initial.view l.view l.place-index l.r
