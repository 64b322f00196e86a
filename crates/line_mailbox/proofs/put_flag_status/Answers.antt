-- `put_flag_status`: its pieces are those of the line. Assumes nothing.
use Rattle.line_put.specs.Writes.{◌then◌, writes_as}
use Rattle.line_mailbox.specs.Texts.{flag-text}
use Rattle.line_mailbox.proofs.put_flag_status.Goals as goal

pub returns-clause-put : goal.returns-clause-put
returns-clause-put c = writes_as (◌then◌ (◌then◌ c.put_opening.ensures.put c.put_counted.ensures.put) c.put_highest.ensures.put) (flag-text _ _ _)
