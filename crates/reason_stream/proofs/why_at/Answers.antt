-- `why_at`: a record is served, and it is said why it was told or not. Assumes nothing.
use mathlib.Core.Path.{refl, ◌∙◌, ap}
use lib.Dec.{eqb}
use Rattle.model.specs.Memory.{Memory}
use Rattle.model.specs.Answers.{number_of}
use Rattle.step_stream.specs.Printing.{standing}
use Rattle.reason_stream.proofs.Judging.{judged}
use Rattle.reason_stream.proofs.why_at.Goals as goal

pub returns : goal.returns
returns c =
    let m = standing c.args.table.now c.args.counts c.args.session.now c.args.words.now c.args.queue.now in
    record {
      reason = judged m c.args.octets.now c.points_before-p.result (eqb c.serve-d.result.session.groupcount 0) c.number_of-n.result (c.points_before-p.ensures m refl refl)
          (ap (λ (k : Memory). eqb k.session.groupcount 0) c.serve-d.ensures.after) (c.number_of-n.ensures.number ∙ ap number_of c.serve-d.ensures.answer) c.reason_by-reason.ensures;
      after = c.serve-d.ensures.after;
    }
