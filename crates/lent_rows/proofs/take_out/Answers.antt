-- `take_out`: the later rows move up, and the last becomes zeros. Assumes nothing.
use Rattle.std.proofs.Common.{arith}
use Rattle.lent_rows.specs.Closing.{taken_out}
use Rattle.lent_rows.proofs.take_out.Goals as goal

pub returns-clause-taken : goal.returns-clause-taken
returns-clause-taken c = λ fits. rw (c.vacant.ensures, c.copy_within.ensures.after, c.min-at.ensures) (taken_out c.args.at c.args.used c.args.rows.now fits c.min-n.result c.min-n.ensures (omega arith))
