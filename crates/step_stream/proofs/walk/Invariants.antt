-- `walk`: every record of a stream. The invariant: what is still to be written is what the run's memory prints for the rest. Assumes nothing.
use mathlib.Core.Path.{◌≡◌}
use Prim.Native.Nat.{◌-◌}
use lib.ListN.{length, replicate}
use Rattle.model.specs.Memory.{no_mailbox}
use Rattle.model.specs.Hidden.{no_counts, no_session}
use Rattle.model.specs.Pushrun.{records_of, printed}
use Rattle.step_stream.specs.Printing.{standing, Running}
use Rattle.step_stream.proofs.walk.Given as goal

abbrev pub invariant-loop-i : goal.invariant-loop-i
invariant-loop-i l = (length l.words ≡ length l.initial.words) × (length l.queue ≡ length l.initial.queue)
    × Running l.stream (printed (standing (replicate 64 no_mailbox) no_counts no_session l.initial.words l.initial.queue) (records_of l.stream)) l.initial.out l.out l.s.end (standing l.s.table l.s.counts l.s.session l.words l.queue) l.i

abbrev pub decreases-loop-i : goal.decreases-loop-i
decreases-loop-i l = length l.stream - l.i
