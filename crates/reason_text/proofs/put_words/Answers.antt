-- `put_words`: the two longest texts, and those with a number. Assumes nothing.
use Rattle.std.proofs.Common.{sym, ap}
use Rattle.model.specs.Reasons.{words}
use Rattle.line_put.specs.Writes.{writes_as, ◌then◌}
use Rattle.reason_text.proofs.put_words.Goals as goal

pub returns-in-Unmet-clause-put : goal.returns-in-Unmet-clause-put
returns-in-Unmet-clause-put c = writes_as c.put-in-Unmet.ensures (ap words (sym c.in-Unmet.is))

pub returns-in-Unasked-clause-put : goal.returns-in-Unasked-clause-put
returns-in-Unasked-clause-put c = writes_as c.put-in-Unasked.ensures (ap words (sym c.in-Unasked.is))

pub returns-in-Refused-clause-put : goal.returns-in-Refused-clause-put
returns-in-Refused-clause-put c = writes_as (◌then◌ c.put-in-Refused.ensures c.put_number.ensures.put) (ap words (sym c.in-Refused.is))

pub returns-in-Waiting-clause-put : goal.returns-in-Waiting-clause-put
returns-in-Waiting-clause-put c = writes_as (◌then◌ c.put-in-Waiting.ensures c.put_number-in-Waiting.ensures.put) (ap words (sym c.in-Waiting.is))

pub returns-in-Written-clause-put : goal.returns-in-Written-clause-put
returns-in-Written-clause-put c = writes_as (◌then◌ c.put-in-Written.ensures c.put_number-in-Written.ensures.put) (ap words (sym c.in-Written.is))
