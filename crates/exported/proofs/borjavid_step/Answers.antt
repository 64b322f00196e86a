-- `borjavid_step`: what is served, what is written back and the answer in numbers make the contract. Assumes nothing.
use Rattle.exported.specs.Called.{calls_ok, calls_err}
use Rattle.exported.proofs.borjavid_step.Goals as goal
use Rattle.exported.proofs.borjavid_step.Goals.{in-Ok, in_default}

pub returns : goal.returns
returns c =
    elim c.match-came.branch [
      | in-Ok w ↦ rw (w.rows-is, w.counts-is, w.session-is) (calls_ok _ _ _ _ _ _ _ _ _ c.served-came.ensures w.in-Ok.is w.write_back.ensures.after c.numbers.ensures)
      | in_default w ↦ rw (w.rows-is, w.counts-is, w.session-is) (calls_err _ _ _ _ _ _ _ _ _ c.served-came.ensures w.in_default.is c.numbers.ensures)
    ]
