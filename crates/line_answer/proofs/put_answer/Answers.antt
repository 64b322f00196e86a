-- `put_answer`: the tag, a space, the words and the end of the line. Assumes nothing.
use Rattle.line_put.specs.Writes.{◌then◌, writes_as}
use Rattle.line_answer.specs.Tagged.{answer-text}
use Rattle.line_answer.proofs.put_answer.Goals as goal

pub returns-clause-put : goal.returns-clause-put
returns-clause-put c = writes_as (◌then◌ (◌then◌ (◌then◌ c.put.ensures c.put-2.ensures) (rw c.words.ensures.text at c.put-3.ensures)) c.put-4.ensures) (answer-text c.args.tag.now _ c.args.reply)
