-- `little`: the loop goes from the highest octet down, and keeps that v is the number of the octets from i on. Assumes nothing.
use mathlib.Core.Path.{◌≡◌}
use Prim.Native.Nat.{◌+◌, ◌-◌, ◌≤◌, ◌<◌}
use lib.ListN.{drop}
use Rattle.model.specs.Text.{little}
use Rattle.octets.proofs.numbers.little.Given as goal

abbrev pub invariant-loop-i : goal.invariant-loop-i
invariant-loop-i l = (l.i ≤ l.w) × (l.v < 4294967296) × (l.v ≡ little (l.w - l.i) (drop (l.at + l.i) l.b))
