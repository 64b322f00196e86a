-- `row_of`: the row is among those from x on. Assumes nothing.
use Rattle.std.proofs.Common.{◌≡◌, drop}
use Rattle.model.specs.Memory.{the_mailbox}
use Rattle.reason_points.proofs.rows.row_of.Given as goal

abbrev pub invariant-loop-x : goal.invariant-loop-x
invariant-loop-x l = the_mailbox l.id l.rows ≡ the_mailbox l.id (drop l.x-index l.rows)
