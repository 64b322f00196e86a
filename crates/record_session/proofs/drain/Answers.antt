-- `drain`: octets were sent, or they are more than the queue holds. Assumes nothing.
use mathlib.Core.Path.{refl, ap}
use Rattle.std.proofs.Common.{Ok}
use Rattle.record_outcome.specs.declared.Outcome.{Outcome}
use Rattle.record_session.specs.Leaving.{drain-refused, drain_comes}
use Rattle.record_session.proofs.drain.Goals as goal

pub returns-then-counts-n : goal.returns-then-counts-n
returns-then-counts-n c = λ m ws lent. drain-refused m ws c.args.counts c.args.s.now c.args.queue.now lent c.args.n _ c.if-counts-n.true refl

pub returns : goal.returns
returns c = λ m ws lent. drain_comes m ws c.args.counts c.args.s.now c.args.queue.now lent c.args.n _ c.if-counts-n.false c.drain-left.ensures (ap (λ (j : Outcome). Ok j) c.unmoved.ensures)
