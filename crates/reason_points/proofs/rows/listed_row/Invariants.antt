-- `listed_row`: the row is among those from x on. Assumes nothing.
use Rattle.std.proofs.Common.{◌≡◌, drop, get_or}
use Rattle.model.specs.Lists.{filterb}
use Rattle.model.specs.Events.{is_listed}
use Rattle.reason_points.proofs.rows.listed_row.Given as goal

abbrev pub invariant-loop-x : goal.invariant-loop-x
invariant-loop-x l = get_or (filterb (is_listed l.name) l.rows) 0 l.other ≡ get_or (filterb (is_listed l.name) (drop l.x-index l.rows)) 0 l.other
