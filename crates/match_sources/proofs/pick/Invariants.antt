-- `pick`: the loop keeps that the notes before k say whether their rows are searched. Assumes nothing.
use Rattle.match_sources.specs.Picking.{Noted}
use Rattle.match_sources.proofs.pick.Given as goal

abbrev pub invariant-loop-k : goal.invariant-loop-k
invariant-loop-k l = Noted l.listed l.selected l.cols.ids l.cols.attributes l.cols.lens l.cols.names l.k l.picked
