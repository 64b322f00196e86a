-- `put_tag`: three texts one behind the other. Assumes nothing.
use Rattle.line_put.specs.Writes.{◌then◌}
use Rattle.line_found.specs.Line.{tag_text}
use Rattle.line_found.proofs.put_tag.Goals as goal

pub returns-clause-put : goal.returns-clause-put
unfolding tag_text
returns-clause-put c = ◌then◌ (◌then◌ c.put.ensures c.put-2.ensures) c.put-3.ensures
