-- `put_wanted`: the line, or nothing. Assumes nothing.
use native.Mathlib.Omega.{arith}
use Rattle.line_put.specs.Writes.{writes_none, writes_as}
use Rattle.line_mailbox.specs.Texts.{none-text, one-text}
use Rattle.line_mailbox.proofs.put_wanted.Goals as goal

pub returns-then-on-clause-put : goal.returns-then-on-clause-put
returns-then-on-clause-put c = writes_as c.put_list.ensures.put (one-text _ _ c.if-on.true)

pub returns-else-on-clause-put : goal.returns-else-on-clause-put
returns-else-on-clause-put c = writes_as (writes_none _ (omega arith)) (none-text _ _ c.if-on.false)
