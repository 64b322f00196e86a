-- `serve`: no slice changes its length, and what a record shows starts at the front.
use Rattle.std.proofs.Common.{◌≡◌, length}
use Rattle.pushrun.proofs.serve.Given as goal

abbrev pub invariant-loop : goal.invariant-loop
invariant-loop g l =
    (l.s.end ≡ 0) × (length l.words ≡ length l.initial.words) × (length l.queue ≡ length l.initial.queue) × (length l.octets ≡ length l.initial.octets) × (length l.out ≡ length l.initial.out)
