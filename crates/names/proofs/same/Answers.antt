-- `same`: the library's `==` on octets. Assumes nothing.
use Rattle.std.proofs.Common.{◌∙◌}
use Rattle.model.specs.Iterating.{same_is_eq}
use Rattle.names.proofs.same.Goals as goal

pub returns : goal.returns
returns c = c.eq.ensures ∙ same_is_eq c.args.a.now c.args.b.now
