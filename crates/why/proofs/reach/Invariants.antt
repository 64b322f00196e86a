-- `reach`: no slice changes its length, and a record is no longer than its slice.
use Rattle.std.proofs.Common.{◌≡◌, ◌≤◌, length}
use Rattle.why.proofs.reach.Given as goal

abbrev pub invariant-loop : goal.invariant-loop
invariant-loop g l =
    (length l.words ≡ length l.initial.words) × (length l.queue ≡ length l.initial.queue) × (length l.octets ≡ length l.initial.octets) × (65539 ≤ length l.octets) × (l.read.size ≤ 65539)
