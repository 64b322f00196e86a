-- `put_highest`: the counter, then the end of the line. Assumes nothing.
use Rattle.line_put.specs.Writes.{◌then◌}
use Rattle.line_mailbox.specs.Texts.{ending}
use Rattle.line_mailbox.proofs.put_highest.Goals as goal

pub returns-clause-put : goal.returns-clause-put
unfolding ending
returns-clause-put c = ◌then◌ c.put_counted.ensures.put c.put.ensures
