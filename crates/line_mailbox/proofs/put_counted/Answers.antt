-- `put_counted`: a word and the number behind it. Assumes nothing.
use Rattle.line_put.specs.Writes.{◌then◌}
use Rattle.line_mailbox.proofs.put_counted.Goals as goal

pub returns-clause-put : goal.returns-clause-put
returns-clause-put c = ◌then◌ c.put.ensures c.put_number.ensures.put
