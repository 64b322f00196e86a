-- Each number is none of those before it; then its slot names it, and its row the one that had the slot.
use Rattle.std.proofs.Common.{◌≡◌, length}
use Rattle.lawful_digests.specs.Distinct.{Differ, Taken}
use Rattle.lawful_digests.specs.Guessing.{Rows}
use Rattle.lawful_digests.proofs.differ.Given as goal

abbrev pub invariant-loop-i : goal.invariant-loop-i
invariant-loop-i l = (length l.g.slots ≡ 1024) × (length l.g.chain ≡ 64) × Differ l.d l.i × Rows l.g l.n × Taken l.d l.g.slots l.i
