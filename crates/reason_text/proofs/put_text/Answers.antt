-- `put_text`: the words, and the end of the line. Assumes nothing.
use Rattle.line_put.specs.Writes.{◌then◌}
use Rattle.reason_text.proofs.put_text.Goals as goal

pub returns-clause-put : goal.returns-clause-put
returns-clause-put c = ◌then◌ c.put_words.ensures.put c.put.ensures
