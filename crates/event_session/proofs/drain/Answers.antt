-- `drain`: the queue moves up by the octets that were sent, and F falls by them. Assumes nothing.
use Rattle.std.proofs.Common.{refl, ◌∙◌}
use Rattle.event_session.specs.Shift.{shifted_is}
use Rattle.event_session.proofs.drain.Goals as goal

pub returns : goal.returns
returns c = (c.copy_within.ensures.after ∙ shifted_is c.args.queue.now c.args.filled c.args.n c.requires.0, refl)
