-- `bit_of`: a bit above 63 is never set; any other by a shift. Assumes nothing.
use Rattle.match_keys.specs.Laws.{bit_shifted, bit_none}
use borrow.Author.Tests.{le-ltb}
use native.Mathlib.Omega.{arith}
use Rattle.match_keys.proofs.bit_of.Goals as goal

pub returns-then-k-lt64 : goal.returns-then-k-lt64
returns-then-k-lt64 c = bit_shifted c.args.k c.args.n

pub returns-else-k-lt64 : goal.returns-else-k-lt64
returns-else-k-lt64 c = rw (le-ltb _ _ c.if-k-lt64.false) (bit_none c.args.k c.args.n (omega arith) c.ranges.n.fits)
