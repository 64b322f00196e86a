-- `put`: within the limit the text is written, past it nothing is. Assumes nothing.
use native.Mathlib.Omega.{arith}
use Rattle.line_put.specs.Put.{put_past, put_wrote}
use Rattle.line_put.specs.Wrote.{written_mid}
use mathlib.Core.Path.{refl}
use Rattle.line_put.proofs.Writer.put.Goals as goal
use Rattle.line_put.proofs.Writer.put.Goals.{then-fits, else-fits}

pub returns : goal.returns
returns c =
    elim c.if-fits.branch [
      | then-fits w ↦
          rw w.self-is (record { same = refl; limit = refl; put = put_wrote _ (omega arith) (omega arith) (record { next = refl; within = omega arith; is = rw w.copy_from_slice.ensures.after (written_mid _ _ _ _ (omega arith)) }) })
      | else-fits w ↦ rw w.self-is (record { same = refl; limit = refl; put = put_past _ _ _ _ _ (omega arith) refl (omega arith) })
    ]
