-- `put_listed`: word, mark, separator and name. Assumes nothing.
use Rattle.line_put.specs.Writes.{◌then◌}
use Rattle.line_mailbox.specs.Texts.{listed}
use Rattle.line_mailbox.proofs.put_listed.Goals as goal

pub returns-clause-put : goal.returns-clause-put
unfolding listed
returns-clause-put c = ◌then◌ (◌then◌ (◌then◌ c.put.ensures (rw c.words.ensures.text at c.put-2.ensures)) c.put-3.ensures) c.put_quoted.ensures.put
