-- `put_refusal`: `! n` for a refusal. Assumes nothing.
use native.Mathlib.Omega.{arith}
use mathlib.Core.Path.{◌≡◌, ap, sym, ◌∙◌}
use lib.ListN.{length}
use Rattle.model.specs.Answers.{number_of}
use Rattle.model.specs.Pushrun.{refusal_text}
use Rattle.line_put.specs.Put.{put_none, put_as}
use Rattle.step_stream.specs.Printing.{refusal-text}
use Rattle.step_stream.proofs.put_refusal.Goals as goal

pub returns-then-n-eq0 : goal.returns-then-n-eq0
returns-then-n-eq0 c =
    (put_as (put_none c.args.out.now c.args.at (length c.args.out.now) (omega arith)) (ap refusal_text (sym c.if-n-eq0.true ∙ c.number_of-n.ensures.number)), omega arith)

pub returns : goal.returns
returns c =
    let t : refusal_text c.number_of-n.result ≡ refusal_text (number_of c.args.answer.now) = ap refusal_text c.number_of-n.ensures.number in
    (put_as c.put.ensures (refusal-text c.number_of-n.result (omega arith) c.number_of-n.ensures.small ∙ t), omega arith)
