-- `lies`: the row has the name. Assumes nothing.
use Rattle.std.proofs.Common.{rules}
use Rattle.model.specs.Iterating.{same_is_eq}
use Rattle.match_rows.proofs.marking.lies.Goals as goal

pub returns-else-deep : goal.returns-else-deep
returns-else-deep c = rw (c.if-deep.false, ← c.name-else-deep.ensures, ← same_is_eq) (search rules)
