-- `put_box`: four texts one behind the other make the text of the definition. Assumes nothing.
use Rattle.line_put.specs.Writes.{◌then◌}
use Rattle.line_found.specs.Line.{box_text}
use Rattle.line_found.proofs.put_box.Goals as goal

pub returns-clause-put : goal.returns-clause-put
unfolding box_text
returns-clause-put c = ◌then◌ (◌then◌ (◌then◌ c.put_quoted.ensures.put c.put.ensures) c.put_number.ensures.put) c.put-2.ensures
