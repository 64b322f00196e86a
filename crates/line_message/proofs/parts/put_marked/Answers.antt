-- `put_marked`: a marked message of the view that exists has its line. Assumes nothing.
use Prim.Native.Nat.{◌<◌, ◌≤◌}
use borrow.Author.Rules.{rules}
use native.Mathlib.Omega.{arith}
use Rattle.line_put.specs.Writes.{writes_nothing, writes_as}
use Rattle.line_message.specs.Parts.{off-marked, gone-marked, is-marked, not-marked}
use Rattle.line_message.proofs.parts.put_marked.Goals as goal
use Rattle.line_message.proofs.parts.put_marked.Goals.{then-le-via-then-le, then-le-via-else-le+then-e-eq1, then-e-eq1-2, else-e-eq1-2}

pub returns-then-le-clause-put : goal.returns-then-le-clause-put
returns-then-le-clause-put c =
    writes_nothing
    (elim c.then-le.branch [ then-le-via-then-le w ↦ let h : c.args.told.0 ≤ c.args.e.uid.0 = search rules in off-marked c.args.told.0 c.args.n.0 c.args.e h | then-le-via-else-le+then-e-eq1 w ↦ gone-marked c.args.told.0 c.args.n.0 c.args.e w.if-e-eq1.true ])
    (omega arith)

pub returns-clause-put : goal.returns-clause-put
returns-clause-put c =
    let h : c.args.e.uid.0 < c.args.told.0 = search rules in
    elim c.if-e-eq1-2.branch [
      | then-e-eq1-2 w ↦ rw w.w-is (writes_as w.put_fetch.ensures.put (is-marked c.args.told.0 c.args.n.0 c.args.e h c.if-e-eq1.false w.if-e-eq1-2.true))
      | else-e-eq1-2 w ↦ rw w.w-is (writes_nothing (not-marked c.args.told.0 c.args.n.0 c.args.e w.if-e-eq1-2.false) (omega arith))
    ]
