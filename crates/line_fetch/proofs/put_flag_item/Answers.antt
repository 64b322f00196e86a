-- `put_flag_item`: a gap and the names between parentheses, where they are asked. Assumes nothing.
use Rattle.line_put.specs.Writes.{◌then◌, writes_as}
use Rattle.line_fetch.specs.Fetch.{piece_gap, flag_item}
use Rattle.line_fetch.proofs.put_flag_item.Goals as goal

pub returns-then-on-clause-put : goal.returns-then-on-clause-put
returns-then-on-clause-put c = writes_as (◌then◌ c.put_gap.ensures.put (◌then◌ (◌then◌ c.put.ensures c.put_flags.ensures.put) c.put-then-on.ensures)) (piece_gap c.args.on c.args.began (flag_item c.args.flags) c.if-on.true)
