-- `run`: on empty tables the walk of the stream puts what `pushrun` prints; a stream that is too long is left unread at once. Assumes nothing.
use mathlib.Core.Path.{refl}
use native.Mathlib.Omega.{arith}
use Rattle.line_put.specs.Put.{put_as}
use Rattle.step_stream.specs.Printing.{start_is}
use Rattle.step_stream.proofs.run.Goals as goal

pub returns-then-stream-ge4294967296 : goal.returns-then-stream-ge4294967296
returns-then-stream-ge4294967296 c = (λ h. absurd (let z : ⊥ = omega arith in z), λ h. (refl, refl))

pub returns : goal.returns
returns c = (
  λ h. put_as c.walk.ensures
      (start_is c.args.stream.now),
  λ h. absurd (let z : ⊥ = omega arith in z),
)
