-- `put_labelled`: the label and the number. Assumes nothing.
use Rattle.line_put.specs.Writes.{◌then◌}
use Rattle.line_found.proofs.put_labelled.Goals as goal

pub returns-then-on-clause-put : goal.returns-then-on-clause-put
returns-then-on-clause-put c = rw c.if-on.true (◌then◌ c.put.ensures c.put_number.ensures.put)
