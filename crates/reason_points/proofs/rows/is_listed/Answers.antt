-- `is_listed`: `==` on texts is the model's. Assumes nothing.
use Rattle.std.proofs.Common.{rules}
use Rattle.model.specs.Iterating.{same_is_eq}
use Rattle.reason_points.proofs.rows.is_listed.Goals as goal

pub returns-then-has : goal.returns-then-has
returns-then-has c = rw (← c.name.ensures.name, ← same_is_eq) (search rules)
