-- `misplaced`: one where a pair is not placed, and 0 where it is. Assumes nothing.
use Rattle.std.proofs.Common.{arith}
use Rattle.std.proofs.lemmas.Grind.{common_steps}
use Rattle.lawful_mailboxes.specs.Neighbours.{misplaced}
use Rattle.lawful_mailboxes.proofs.naming.misplaced.Goals as goal

pub returns : goal.returns
unfolding misplaced
returns c = grind (arith, common_steps)
