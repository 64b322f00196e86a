-- `before`: the library's order. Assumes nothing.
use Rattle.std.proofs.Common.{◌∙◌}
use Rattle.names.proofs.Laws.{before_is}
use Rattle.names.proofs.before.Goals as goal

pub returns : goal.returns
returns c = c.le.ensures ∙ before_is c.args.a.now c.args.b.now
