-- `put_byte`: within the limit the octet is written, past it nothing is. Assumes nothing.
use native.Mathlib.Omega.{arith}
use Rattle.line_put.specs.Put.{put_past, put_wrote}
use Rattle.line_put.specs.Wrote.{wrote_one}
use mathlib.Core.Path.{refl}
use Rattle.line_put.proofs.Writer.put_byte.Goals as goal
use Rattle.line_put.proofs.Writer.put_byte.Goals.{then-self, else-self}

pub returns : goal.returns
returns c = elim c.if-self.branch [ then-self w ↦ rw w.self-is (record { same = refl; limit = refl; put = put_wrote _ (omega arith) (omega arith) (wrote_one _ _ _ _ (omega arith) refl) }) | else-self w ↦ rw w.self-is (record { same = refl; limit = refl; put = put_past _ _ _ _ _ (omega arith) refl (omega arith) }) ]
