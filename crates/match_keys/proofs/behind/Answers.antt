-- `behind`: the width of a key from its second cell, cut at `stop`. Assumes nothing.
use Rattle.match_keys.specs.Laws.{behind_all, behind-part}
use mathlib.Core.Path.{refl}
use Prim.Native.Nat.{◌-◌}
use Rattle.match_keys.proofs.behind.Goals as goal

pub returns-then-left-w : goal.returns-then-left-w
returns-then-left-w c =
    behind_all c.args.cells.now c.args.at c.args.stop c.cell-kind.result c.cell-x.result (c.args.stop - c.args.at) c.cell-kind.ensures c.cell-x.ensures refl c.requires.0.0 c.width-w.result c.requires.1 c.width-w.ensures.0 c.width-w.ensures.1 c.if-left-w.true

pub returns : goal.returns
returns c =
    behind-part c.args.cells.now c.args.at c.args.stop c.cell-kind.result c.cell-x.result (c.args.stop - c.args.at) c.cell-kind.ensures c.cell-x.ensures refl c.requires.0.0 c.width-w.result c.requires.1 c.width-w.ensures.0 c.width-w.ensures.1 c.if-left-w.false
