-- `walk`: the reason at a place. The invariant: it is that of the rest of the stream at the place that is left. Assumes nothing.
use mathlib.Core.Path.{◌≡◌}
use Prim.Native.Nat.{◌-◌}
use lib.ListN.{length, replicate}
use Rattle.model.specs.Memory.{no_mailbox}
use Rattle.model.specs.Hidden.{no_counts, no_session}
use Rattle.step_stream.specs.Printing.{standing}
use Rattle.reason_stream.specs.Placing.{Reaching}
use Rattle.reason_stream.proofs.walk.Given as goal

abbrev pub invariant-loop-i : goal.invariant-loop-i
invariant-loop-i l = (length l.words ≡ length l.initial.words) × (length l.queue ≡ length l.initial.queue)
    × Reaching l.stream l.place (standing (replicate 64 no_mailbox) no_counts no_session l.initial.words l.initial.queue) (standing l.s.table l.s.counts l.s.session l.words l.queue) l.i l.left

abbrev pub decreases-loop-i : goal.decreases-loop-i
decreases-loop-i l = length l.stream - l.i
