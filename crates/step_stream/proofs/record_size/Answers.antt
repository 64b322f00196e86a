-- `record_size`: how long the record from a place on is. Assumes nothing.
use native.Mathlib.Omega.{arith}
use mathlib.Core.Path.{sym, ◌∙◌}
use lib.ListN.{drop, length-drop}
use Rattle.step_stream.specs.Cutting.{cuts, size_short, size-torn, size_entire, field_at}
use Rattle.step_stream.proofs.record_size.Goals as goal

pub returns-then-left-lt4 : goal.returns-then-left-lt4
returns-then-left-lt4 c =
    let l = length-drop c.args.at c.args.stream.now in
    cuts c.args.stream.now c.args.at _ c.requires.0 (sym l ∙ size_short (drop c.args.at c.args.stream.now) (omega arith))

pub returns-then-left-size : goal.returns-then-left-size
returns-then-left-size c =
    let l = length-drop c.args.at c.args.stream.now in
    let f = field_at c.args.stream.now c.args.at c.little-size.ensures in
    cuts c.args.stream.now c.args.at _ c.requires.0 (sym l ∙ size-torn (drop c.args.at c.args.stream.now) (omega arith) (omega arith))

pub returns : goal.returns
returns c =
    let l = length-drop c.args.at c.args.stream.now in
    let f = field_at c.args.stream.now c.args.at c.little-size.ensures in
    cuts c.args.stream.now c.args.at _ c.requires.0 (f ∙ size_entire (drop c.args.at c.args.stream.now) (omega arith) (omega arith))
