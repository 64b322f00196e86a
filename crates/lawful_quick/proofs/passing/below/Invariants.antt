-- `below`: the loop keeps that the last UIDs before k are below; a no promises nothing. Assumes nothing.
use Rattle.lawful_quick.specs.Passing.{Below}
use Rattle.lawful_quick.proofs.passing.below.Given as goal

abbrev pub invariant-loop-k : goal.invariant-loop-k
invariant-loop-k l = Below l.last l.cols.nexts l.k
