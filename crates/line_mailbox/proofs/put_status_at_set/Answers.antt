-- `put_status_at_set`: its pieces are those of the line. Assumes nothing.
use Rattle.line_put.specs.Writes.{◌then◌, writes_as}
use Rattle.line_mailbox.specs.Texts.{set-text}
use Rattle.line_mailbox.proofs.put_status_at_set.Goals as goal

pub returns-clause-put : goal.returns-clause-put
returns-clause-put c = writes_as (◌then◌ (◌then◌ (◌then◌ (◌then◌ c.put_opening.ensures.put c.put_counted.ensures.put) c.put_counted-2.ensures.put) c.put_counted-3.ensures.put) c.put_highest.ensures.put) (set-text _ _ _ _ _)
