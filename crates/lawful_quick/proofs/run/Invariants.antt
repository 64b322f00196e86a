-- Each turn is a step of the pass, with the row of the entry's slot; where the loop is left nothing changes.
use Rattle.std.proofs.Common.{◌-◌}
use Rattle.lawful_quick.specs.Passing.{Ran}
use Rattle.lawful_quick.proofs.run.Given as goal

abbrev pub invariant-loop-p : goal.invariant-loop-p
invariant-loop-p l = Ran l.words l.end l.cols.ids l.cols.counters l.g.slots l.view.selected l.view.told.0 l.initial.p l.initial.last l.p l.last

abbrev pub decreases-loop-p : goal.decreases-loop-p
decreases-loop-p l = l.end - l.p.at
