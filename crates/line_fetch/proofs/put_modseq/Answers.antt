-- `put_modseq`: a gap, the word, the number and the parenthesis. Assumes nothing.
use Rattle.line_put.specs.Writes.{◌then◌, writes_as}
use mathlib.Core.Path.{refl}
use mathlib.Core.Bool.{true}
use Rattle.model.specs.Lines.{modseq, item_text}
use Rattle.line_fetch.specs.Fetch.{piece_gap}
use Rattle.line_fetch.proofs.put_modseq.Goals as goal

pub returns-clause-put : goal.returns-clause-put
returns-clause-put c = writes_as (◌then◌ c.put_gap.ensures.put (◌then◌ c.put.ensures (◌then◌ c.put_number.ensures.put c.put-2.ensures))) (piece_gap true c.args.began (item_text (modseq c.args.counter)) refl)
