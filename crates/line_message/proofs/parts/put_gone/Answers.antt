-- `put_gone`: an entry that the client was not told of has no line. Assumes nothing.
use Prim.Native.Nat.{◌≤◌}
use borrow.Author.Rules.{rules}
use native.Mathlib.Omega.{arith}
use Rattle.line_put.specs.Writes.{writes_nothing}
use Rattle.line_message.specs.Parts.{off-gone}
use Rattle.line_message.proofs.parts.put_gone.Goals as goal

pub returns-then-le-clause-put : goal.returns-then-le-clause-put
returns-then-le-clause-put c = let h : c.args.told.0 ≤ c.args.e.uid.0 = search rules in writes_nothing (off-gone c.args.told.0 c.args.n.0 c.args.e h) (omega arith)
