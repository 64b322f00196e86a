-- `is_narrow`: each number is in the range of its type. Assumes nothing.
use Rattle.std.proofs.Common.{rules}
use Rattle.lent_rows.proofs.is_narrow.Goals as goal

pub returns : goal.returns
returns c = record { id = search rules; validity = search rules; next = search rules; low = search rules; high = search rules }
