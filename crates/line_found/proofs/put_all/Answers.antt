-- `put_all`: the label and the set behind it. Assumes nothing.
use Rattle.line_put.specs.Writes.{◌then◌}
use Rattle.line_found.proofs.put_all.Goals as goal

pub returns-then-on-clause-put : goal.returns-then-on-clause-put
returns-then-on-clause-put c = rw c.if-on.true (◌then◌ c.put.ensures c.put_set.ensures.put)
