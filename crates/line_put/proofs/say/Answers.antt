-- `say`: measured with limit 0, then written, or else the overflow line. Assumes nothing.
use native.Mathlib.Omega.{arith}
use Rattle.line_put.specs.Says.{says-fits, says_over}
use mathlib.Core.Path.{refl}
use Rattle.line_put.proofs.say.Goals as goal

pub returns-then-end-limit : goal.returns-then-end-limit
returns-then-end-limit g c = says-fits c.write-end.ensures c.write-end-then-end-limit.ensures refl (omega arith)

pub returns : goal.returns
returns g c = rw c.overflow.ensures.0 (says_over c.write-end.ensures c.overflow.ensures.1 c.write-end.ensures.same (omega arith) (omega arith) (omega arith))
