-- `found`: the first row with the id, if there is one. Assumes nothing.
use Rattle.model.specs.Memory.{boxes}
use Rattle.step_record.specs.Kinds.{found_none, found_some}
use Rattle.step_record.proofs.found.Goals as goal

pub returns-in_err-at : goal.returns-in_err-at
returns-in_err-at c =
    λ m stands. rw c.from_residual.ensures (found_none m c.args.id (c.in_err-at.ensures.column (boxes m) stands.laid.0 stands.laid.1.id))

pub returns : goal.returns
returns c =
    λ m stands. found_some m c.args.id c.in_ok-at.at c.row_at-row.result (c.in_ok-at.ensures.column (boxes m) stands.laid.0 stands.laid.1.id) (c.row_at-row.ensures (boxes m) stands)
