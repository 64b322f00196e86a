-- `put_part`: a run and a comma behind it. Assumes nothing.
use Rattle.line_put.specs.Writes.{◌then◌}
use Rattle.line_found.proofs.put_part.Goals as goal

pub returns-clause-put : goal.returns-clause-put
returns-clause-put c = ◌then◌ c.put_run.ensures.put c.put_byte.ensures
