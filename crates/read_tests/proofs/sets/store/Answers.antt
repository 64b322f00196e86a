-- `store`: one value more; to set a cell behind the last one changes nothing. Assumes nothing.
use mathlib.Core.Path.{sym, ◌∙◌}
use Prim.Native.Nat.{◌+◌}
use lib.ListN.{get_or}
use lib.Seq.{set_out}
use Rattle.read_tests.proofs.Cells.{sets_next}
use Rattle.read_tests.proofs.sets.store.Goals as goal
use Rattle.read_tests.proofs.sets.store.Goals.{then-n-i, else-n-i}

pub loop-i-preserved : goal.loop-i-preserved
loop-i-preserved c =
    let next = sets_next c.args.cells.now c.loop-i.cells c.args.n c.args.values.now c.loop-i.i c.loop-i-test.true c.loop-i.invariant in
    elim c.if-n-i.branch [
      | then-n-i w ↦ w.cells-is ∙ next
      | else-n-i w ↦ w.cells-is ∙ sym (set_out c.loop-i.cells (c.args.n + c.loop-i.i) (get_or c.args.values.now c.loop-i.i 0) w.if-n-i.false) ∙ next
    ]
