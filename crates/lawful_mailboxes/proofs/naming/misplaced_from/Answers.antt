-- `misplaced_from`: the loop keeps that the sum counts the misplaced pairs before i. Assumes nothing.
use Rattle.std.proofs.Common.{refl, arith}
use Rattle.lawful_mailboxes.specs.Neighbours.{misplaced_up, misplaced_next}
use Rattle.lawful_mailboxes.proofs.naming.misplaced_from.Goals as goal

pub loop-i-init : goal.loop-i-init
unfolding misplaced_up
loop-i-init c = (omega arith, refl)

pub loop-i-preserved : goal.loop-i-preserved
loop-i-preserved c =
    (omega arith, misplaced_next c.args.octets.now c.args.at c.loop-i.i c.loop-i.sum c.misplaced-sum.result c.loop-i.invariant.1 c.misplaced-sum.ensures.0)
