-- `put`: a text, where all of it has room. Assumes nothing.
use native.Mathlib.Omega.{arith}
use mathlib.Core.Path.{refl}
use Rattle.line_put.specs.Put.{put_wrote}
use Rattle.line_put.specs.Wrote.{written_mid}
use Rattle.step_stream.proofs.put.Goals as goal

pub returns-then-end-out : goal.returns-then-end-out
returns-then-end-out c = put_wrote _ (omega arith) (omega arith) (record { next = refl; within = omega arith; is = rw c.copy_from_slice.ensures.after (written_mid _ _ _ _ (omega arith)) })
