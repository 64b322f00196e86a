-- `turn`: a record of a stream. Assumes nothing.
use native.Mathlib.Omega.{arith}
use mathlib.Core.Path.{refl}
use Rattle.step_stream.specs.Printing.{turns}
use Rattle.step_stream.proofs.turn.Goals as goal

pub returns : goal.returns
returns c =
    turns _ c.args.octets.now c.serve-d.result.answer c.serve-d.result.table c.serve-d.result.counts c.serve-d.result.session _ _ c.serve-d.ensures
    c.serve-d.result.table _ c.serve-d.result.session c.put_held-end.result refl refl refl refl c.put_refusal-at.ensures.0 c.put_held-end.ensures.0 (omega arith)
