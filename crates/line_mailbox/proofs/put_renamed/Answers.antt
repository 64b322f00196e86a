-- `put_renamed`: the line of the new name with the old one in OLDNAME. Assumes nothing.
use Rattle.line_put.specs.Writes.{◌then◌, writes_as}
use Rattle.line_mailbox.specs.Texts.{renamed-text}
use Rattle.line_mailbox.proofs.put_renamed.Goals as goal

pub returns-clause-put : goal.returns-clause-put
returns-clause-put c = writes_as (◌then◌ (◌then◌ (◌then◌ c.put_listed.ensures.put c.put.ensures) c.put_quoted.ensures.put) c.put-2.ensures) (renamed-text _ _ _)
