-- `octets::numbers::number_at` meets its contract: the value from the start is the value from here; more digits make none less. Assumes nothing.
use mathlib.Core.Path.{◌≡◌}
use Prim.Native.Nat.{◌≤◌}
use lib.ListN.{drop}
use Rattle.model.specs.Reading.{piece, value_from}
use Rattle.octets.proofs.numbers.number_at.Given as goal

abbrev pub invariant-loop-b : goal.invariant-loop-b
invariant-loop-b l = (l.v ≤ 4294967295) × (value_from 0 (piece l.text l.at l.end) ≡ value_from l.v (drop l.b-index (piece l.text l.at l.end)))
