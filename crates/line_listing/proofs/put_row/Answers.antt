-- `put_row`: a name in the table has at most 64 octets. Assumes nothing.
use native.Mathlib.Omega.{arith}
use Rattle.line_listing.specs.Telling.{name_short}
use Rattle.line_listing.proofs.put_row.Goals as goal

pub put_line-requires : goal.put_line-requires
put_line-requires c = (omega arith, omega arith, rw c.name.ensures (name_short c.args.cols.now.lens c.args.cols.now.names c.args.k))
