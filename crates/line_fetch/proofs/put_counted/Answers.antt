-- `put_counted`: a gap, the word and the number, where they are asked. Assumes nothing.
use Rattle.line_put.specs.Writes.{◌then◌, writes_as}
use Rattle.line_fetch.specs.Fetch.{piece_gap}
use Rattle.model.specs.Text.{decimal}
use mathlib.Core.List.{◌++◌}
use Rattle.line_fetch.proofs.put_counted.Goals as goal

pub returns-then-on-clause-put : goal.returns-then-on-clause-put
returns-then-on-clause-put c = writes_as (◌then◌ c.put_gap.ensures.put (◌then◌ c.put.ensures c.put_number.ensures.put)) (piece_gap c.args.on c.args.began (c.args.word.now ++ decimal c.args.n) c.if-on.true)
