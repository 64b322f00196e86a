-- `list_row`: the list grows by a source at each turn; what is left of the row says the same behind it. Assumes nothing.
use Prim.Native.Nat.{◌-◌}
use lib.ListN.{length}
use Rattle.read_sources.proofs.Keeping.{Goes}
use Rattle.read_sources.proofs.list_row.Given as goal

abbrev pub invariant-loop-longer : goal.invariant-loop-longer
invariant-loop-longer l = Goes l.text l.at l.initial.more l.more l.p

abbrev pub decreases-loop-longer : goal.decreases-loop-longer
decreases-loop-longer l = length l.text - l.p
