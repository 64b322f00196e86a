-- `place_of`: the number of all digits is the number of those from b on behind v; above the top of u64 it does not count how far. Assumes nothing.
use Rattle.std.proofs.Common.{◌≡◌, ◌≤◌, drop}
use Rattle.std.specs.Prelude.{min}
use Rattle.model.specs.Reading.{value_from}
use Rattle.reason_text.proofs.Places.{top}
use Rattle.reason_text.proofs.place_of.Given as goal

abbrev pub invariant-loop-b : goal.invariant-loop-b
invariant-loop-b l = (l.v ≤ top) × (min (value_from 0 l.text) top ≡ min (value_from l.v (drop l.b-index l.text)) top)
