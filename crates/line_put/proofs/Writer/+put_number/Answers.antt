-- `put_number`: the digits before the last, then the last. Assumes nothing.
use native.Mathlib.Omega.{arith}
use mathlib.Core.Path.{sym}
use Rattle.line_put.specs.Writes.{◌then◌, writes_as}
use Rattle.line_put.specs.Decimals.{decimal-last, decimal-more, decimal_short}
use Rattle.line_put.proofs.Writer.+put_number.Goals as goal
use Rattle.line_put.proofs.Writer.+put_number.Goals.{then-n-ge10, else-n-ge10}

pub returns-clause-put : goal.returns-clause-put
returns-clause-put t c =
    elim c.if-n-ge10.branch [
      | then-n-ge10 w ↦ writes_as (◌then◌ w.put_number.ensures.put (rw w.self-is at c.put_byte.ensures)) (sym (decimal-more c.args.n w.if-n-ge10.true))
      | else-n-ge10 w ↦ writes_as (rw w.self-is at c.put_byte.ensures) (decimal-last c.args.n w.if-n-ge10.false)
    ]

pub returns-clause-upper_bound : goal.returns-clause-upper_bound
returns-clause-upper_bound t c =
    let p = returns-clause-put t c in let l = decimal_short 19 c.args.n (omega arith) in let x = p.put.next in omega arith
