-- `put_opening`: the word, the name, the parenthesis. Assumes nothing.
use Rattle.line_put.specs.Writes.{◌then◌}
use Rattle.line_mailbox.specs.Texts.{opening}
use Rattle.line_mailbox.proofs.put_opening.Goals as goal

pub returns-clause-put : goal.returns-clause-put
unfolding opening
returns-clause-put c = ◌then◌ (◌then◌ c.put.ensures c.put_quoted.ensures.put) c.put-2.ensures
