-- `put_pair`: the one line behind the other. Assumes nothing.
use Rattle.line_put.specs.Writes.{◌then◌, writes_as}
use Rattle.line_mailbox.specs.Texts.{pair-text}
use Rattle.line_mailbox.proofs.put_pair.Goals as goal

pub returns-clause-put : goal.returns-clause-put
returns-clause-put c = writes_as (◌then◌ c.put_wanted.ensures.put c.put_wanted-2.ensures.put) (pair-text _ _ _ _)
