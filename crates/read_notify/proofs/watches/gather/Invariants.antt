-- `gather`: what is counted and kept grows by a group at each turn; what is left of the row says the same behind it. Assumes nothing.
use Prim.Native.Nat.{◌-◌}
use lib.ListN.{length}
use Rattle.read_notify.proofs.Storing.{Goes}
use Rattle.read_notify.proofs.watches.gather.Given as goal

abbrev pub invariant-loop-lent : goal.invariant-loop-lent
invariant-loop-lent l = Goes l.text l.at l.tally l.watch l.kept l.p

abbrev pub decreases-loop-lent : goal.decreases-loop-lent
decreases-loop-lent l = length l.text - l.p
