-- `text_ok`: each octet decides, or leaves it to those behind it. Assumes nothing.
use Rattle.std.specs.Prelude.{◌≤◌, get_or}
use Rattle.std.proofs.Common.{sym, ◌∙◌, arith, rules}
use Rattle.names.specs.Once.{empty-part, text_next, text_past}
use Rattle.names.proofs.text_ok.Goals as goal

pub returns-then-both_slashes : goal.returns-then-both_slashes
returns-then-both_slashes c =
    let loop = c.loop-b in
    sym (loop.invariant ∙ empty-part c.args.name.now loop.b-index loop.last (omega arith) (sym c.both_slashes.ensures ∙ c.if-both_slashes.true))

pub loop-b-preserved : goal.loop-b-preserved
loop-b-preserved c =
    let loop = c.loop-b in
    let low : 32 ≤ get_or c.args.name.now loop.b-index 0 = search rules in
    let high : get_or c.args.name.now loop.b-index 0 ≤ 126 = search rules in
    loop.invariant ∙ text_next c.args.name.now loop.b-index loop.last (omega arith) low high (sym c.both_slashes.ensures ∙ c.if-both_slashes.false)

pub returns : goal.returns
returns c = sym (c.loop-b.invariant ∙ text_past c.args.name.now c.loop-b.b-index c.loop-b.last (omega arith))
