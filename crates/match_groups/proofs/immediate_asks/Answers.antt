-- At once. Assumes nothing.
use Rattle.std.proofs.Common.{◌∙◌}
use Rattle.match_groups.specs.Asking.{immediate-stands}
use Rattle.match_groups.proofs.immediate_asks.Goals as goal

pub returns : goal.returns
returns c = c.any_stands.ensures ∙ immediate-stands c.args.s.now c.args.k
