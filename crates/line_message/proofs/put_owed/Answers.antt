-- `put_owed`: the three parts one behind the other, EXISTS by the two counts along the order. Assumes nothing.
use Rattle.line_put.specs.Writes.{◌then◌, writes_as}
use Rattle.line_message.specs.Whole.{owed_text, exists_as}
use Rattle.line_message.proofs.put_owed.Goals as goal

pub returns-clause-put : goal.returns-clause-put
unfolding owed_text
returns-clause-put c = ◌then◌ (◌then◌ c.put_part.ensures.put (writes_as c.put_exists.ensures.put (exists_as _ _ _ _ c.staying-has.ensures.0 c.unseen-new.ensures.0))) c.put_part-2.ensures.put
