-- `put_new`: its pieces are those of the line. Assumes nothing.
use Rattle.line_put.specs.Writes.{◌then◌}
use Rattle.line_fetch.specs.Items.{new_text}
use Rattle.line_fetch.proofs.put_new.Goals as goal

pub returns-clause-put : goal.returns-clause-put
unfolding new_text
returns-clause-put c = ◌then◌ (◌then◌ (◌then◌ (◌then◌ c.put.ensures c.put_number.ensures.put) c.put-2.ensures) c.put_items.ensures.put) c.put-3.ensures
