-- `put_list`: what LIST lines begin with, and the end of the line. Assumes nothing.
use Rattle.line_put.specs.Writes.{◌then◌, writes_as}
use Rattle.line_mailbox.specs.Texts.{list-text}
use Rattle.line_mailbox.proofs.put_list.Goals as goal

pub returns-clause-put : goal.returns-clause-put
returns-clause-put c = writes_as (◌then◌ c.put_listed.ensures.put c.put.ensures) (list-text _ _)
