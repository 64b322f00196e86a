-- `in_use`: the rows in use, as many as there are. Assumes nothing.
use Rattle.std.specs.Prelude.{◌≡◌, min, length}
use Rattle.std.proofs.Common.{arith}
use Rattle.lent_rows.specs.Rows.{take_used}
use Rattle.lent_rows.proofs.in_use.Goals as goal

-- by arithmetic, so that the proof does not say how the number is come by
pub returns-clause-rows : goal.returns-clause-rows
returns-clause-rows c =
    let w : c.min.result ≡ min (min c.args.used 64) (length c.args.rows.now) = omega (arith, c.min.ensures, c.min-most.ensures) in
    rw w (take_used c.args.used c.args.rows.now)
