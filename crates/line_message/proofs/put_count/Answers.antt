-- `put_count`: three texts one behind the other. Assumes nothing.
use Rattle.line_put.specs.Writes.{◌then◌}
use Rattle.line_message.specs.Counts.{count_text}
use Rattle.line_message.proofs.put_count.Goals as goal

pub returns-clause-put : goal.returns-clause-put
unfolding count_text
returns-clause-put c = ◌then◌ (◌then◌ c.put.ensures c.put_number.ensures.put) c.put-2.ensures
