-- `put_status`: its pieces are those of the line. Assumes nothing.
use Rattle.line_put.specs.Writes.{◌then◌, writes_as}
use Rattle.line_mailbox.specs.Texts.{mail-text}
use Rattle.line_mailbox.proofs.put_status.Goals as goal

pub returns-clause-put : goal.returns-clause-put
returns-clause-put c = writes_as (◌then◌ (◌then◌ (◌then◌ c.put_opening.ensures.put c.put_counted.ensures.put) c.put_counted-2.ensures.put) c.put_highest.ensures.put) (mail-text _ _ _ _)
