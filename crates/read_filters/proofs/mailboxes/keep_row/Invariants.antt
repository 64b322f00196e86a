-- `keep_row`: the names that are kept grow by one at each turn; what is left of the row says the same behind them. Assumes nothing.
use Prim.Native.Nat.{◌-◌}
use lib.ListN.{length}
use Rattle.read_filters.proofs.Storing.{Goes}
use Rattle.read_filters.proofs.mailboxes.keep_row.Given as goal

abbrev pub invariant-loop-q : goal.invariant-loop-q
invariant-loop-q l = Goes l.text l.at l.fn.kept l.more l.p

abbrev pub decreases-loop-q : goal.decreases-loop-q
decreases-loop-q l = length l.text - l.p
