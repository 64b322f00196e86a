-- `==` on names is the rules'. Assumes nothing.
use Rattle.std.proofs.Common.{rules}
use Rattle.model.specs.Groups.{lent_name}
use Rattle.model.specs.Iterating.{same_is_eq}
use Rattle.match_groups.proofs.hits.Goals as goal

pub returns-else-deep : goal.returns-else-deep
returns-else-deep c = rw (c.if-deep.false, ← same_is_eq (lent_name c.args.x.now) c.args.name.now) (search rules)
