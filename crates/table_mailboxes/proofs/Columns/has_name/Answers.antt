-- `has_name`: `==` on texts is the model's. Assumes nothing.
use Rattle.std.proofs.Common.{rules}
use Rattle.model.specs.Iterating.{same_is_eq}
use Rattle.table_mailboxes.proofs.Columns.has_name.Goals as goal

pub returns : goal.returns
returns c = rw (← c.name.ensures, ← same_is_eq) (search rules)
