-- `in_set`: the loop keeps that no part before the ones from place i on has the number. Assumes nothing.
use Rattle.std.proofs.Common.{◌≡◌, ◌*◌, ◌-◌, take}
use Rattle.std.proofs.Math.ListN.{drop}
use Rattle.match_keys.specs.Tests.{set_by}
use Rattle.match_keys.proofs.in_set.Given as goal

abbrev pub invariant-loop-i : goal.invariant-loop-i
invariant-loop-i l = set_by l.last l.n (take (l.stop - l.at) (drop l.at l.cells)) ≡ set_by l.last l.n (drop (2 * l.i) (take (l.stop - l.at) (drop l.at l.cells)))
