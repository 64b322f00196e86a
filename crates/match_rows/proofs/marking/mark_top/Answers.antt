-- `mark_top`: a row more is marked. Assumes nothing.
use Rattle.std.proofs.Common.{rules}
use Rattle.match_rows.specs.Marks.{marking_next}
use Rattle.match_rows.proofs.marking.mark_top.Goals as goal

pub loop-k-preserved : goal.loop-k-preserved
loop-k-preserved c = marking_next _ c.args.marks.now c.loop-k.marks c.loop-k.k _ (search rules) c.loop-k.invariant (search rules)
