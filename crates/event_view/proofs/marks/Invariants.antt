-- `marks`: at each turn the run from here over the entries left is the run from the start over all. Assumes nothing.
use mathlib.Core.Path.{◌≡◌}
use Prim.Native.Nat.{◌≤◌, ◌+◌}
use lib.ListN.{length}
use Rattle.table_messages.specs.Words.{messages}
use Rattle.order_messages.specs.Chosen.{chosen}
use Rattle.event_view.specs.Saying.{run_m}
use Rattle.event_view.specs.Coded.{state_of}
use Rattle.event_view.proofs.marks.Given as goal

abbrev pub invariant-loop-j : goal.invariant-loop-j
invariant-loop-j l = (length l.queue ≡ length l.initial.queue) × (l.s.end ≤ 65536) × (l.s.rest + l.j ≤ l.initial.s.rest + length l.order) × (l.s.next.0 + l.j ≤ l.initial.s.next.0 + length l.order)
    × (run_m l.told.0 l.skip l.limit (chosen (messages l.words) l.order l.j) (state_of l.queue l.s)
    ≡ run_m l.told.0 l.skip l.limit (chosen (messages l.words) l.order (length l.order)) (state_of l.initial.queue l.initial.s))
