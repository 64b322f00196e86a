-- At once or delayed. Assumes nothing.
use Rattle.std.proofs.Common.{◌∙◌}
use Rattle.match_groups.specs.Asking.{selected-stands}
use Rattle.match_groups.proofs.selected_asks.Goals as goal

pub returns : goal.returns
returns c = c.any_stands.ensures ∙ selected-stands c.args.s.now c.args.k
