-- `tell`: the line is said and heard, or nobody is told. Assumes nothing.
use Rattle.line_put.specs.Heard.{hears_none, hears-said}
use Rattle.line_put.proofs.tell.Goals as goal

pub returns-then-on : goal.returns-then-on
returns-then-on g c = rw c.if-on.true (hears-said _ _ _ _ _ _ _ _ _ c.say.ensures c.hear.ensures.0 c.hear.ensures.1)

pub returns-else-on : goal.returns-else-on
returns-else-on g c = hears_none _ _ _ _ _ c.if-on.false
