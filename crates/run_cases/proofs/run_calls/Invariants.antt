-- `run_calls`: no slice changes its length, and the reader lost what was read.
use Rattle.std.proofs.Common.{◌≡◌, ℕ, List, length}
use Rattle.std.specs.Io.KnownBytes.{Consumes}
use Rattle.run_cases.proofs.run_calls.Given as goal

abbrev pub invariant-loop-i : goal.invariant-loop-i
invariant-loop-i g l =
    (length l.words ≡ length l.initial.words) × (length l.queue ≡ length l.initial.queue) × (length l.octets ≡ length l.initial.octets)
    × (length l.wanted ≡ length l.initial.wanted) × ((t : List ℕ) × Consumes (g.R.Read.remaining l.initial.reader) (g.R.Read.remaining l.reader) t)
