-- `run`: on empty tables the reason at the place, as the tool prints it; a stream that is too long is left unread at once. Assumes nothing.
use mathlib.Core.Path.{refl, sym, ◌∙◌, ap}
use native.Mathlib.Omega.{arith}
use Rattle.model.specs.Memory.{Memory}
use Rattle.model.specs.Pushrun.{records_of}
use Rattle.model.specs.Reasons.{reason_at, reason_text, why_text}
use Rattle.line_put.specs.Put.{put_as}
use Rattle.step_stream.specs.Printing.{start_memory}
use Rattle.reason_stream.proofs.run.Goals as goal

pub returns-then-stream-ge4294967296 : goal.returns-then-stream-ge4294967296
returns-then-stream-ge4294967296 c = (λ h. absurd (let z : ⊥ = omega arith in z), λ h. (refl, refl))

pub returns-then-place-eq0 : goal.returns-then-place-eq0
returns-then-place-eq0 c =
    (λ h. put_as c.put_reason.ensures.put (ap (why_text c.args.stream.now) (sym c.if-place-eq0.true)), λ h. absurd (let z : ⊥ = omega arith in z))

pub returns : goal.returns
returns c = (
  λ h. put_as c.put_reason-2.ensures.put (ap reason_text (c.walk-reason.ensures ∙ ap (λ (m : Memory). reason_at m (records_of c.args.stream.now) c.args.place) start_memory)),
  λ h. absurd (let z : ⊥ = omega arith in z),
)
