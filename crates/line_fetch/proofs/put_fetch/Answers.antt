-- `put_fetch`: its pieces are those of the line. Assumes nothing.
use Rattle.line_put.specs.Writes.{◌then◌}
use Rattle.line_fetch.specs.Fetch.{fetch_text}
use Rattle.line_fetch.proofs.put_fetch.Goals as goal

pub returns-clause-put : goal.returns-clause-put
unfolding fetch_text
returns-clause-put c = ◌then◌ (◌then◌ (◌then◌ (◌then◌ (◌then◌ (◌then◌ c.put.ensures c.put_number.ensures.put) c.put-2.ensures) c.put_number-2.ensures.put) c.put_flag_item.ensures.put) c.put_modseq.ensures.put) c.put-3.ensures
