-- `put_flag`: a gap and the name, where the flag is set. Assumes nothing.
use Rattle.line_put.specs.Writes.{◌then◌, writes_as}
use Rattle.line_fetch.specs.Fetch.{piece_gap}
use Rattle.line_fetch.proofs.put_flag.Goals as goal

pub returns-then-on-clause-put : goal.returns-then-on-clause-put
returns-then-on-clause-put c = writes_as (◌then◌ c.put_gap.ensures.put c.put.ensures) (piece_gap c.args.on c.args.began c.args.name.now c.if-on.true)
