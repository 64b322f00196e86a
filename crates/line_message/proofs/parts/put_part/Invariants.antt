-- `put_part`: the lines of the places above j are written, and the place of the next message is kept. Assumes nothing.
use Prim.Native.Nat.{◌≤◌, ◌+◌, ◌*◌}
use lib.ListN.{length}
use Rattle.line_put.specs.Writes.{Goes}
use Rattle.table_messages.specs.Words.{messages}
use Rattle.order_messages.specs.Chosen.{chosen}
use Rattle.line_message.specs.Parts.{part_text}
use Rattle.line_message.proofs.parts.put_part.Given as goal

abbrev pub invariant-loop-j : goal.invariant-loop-j
invariant-loop-j l = record {
  limit : l.w.limit ≤ length l.w.queue.now;
  upper_bound : l.w.at + 231 * l.j ≤ l.initial.w.at + 231 * length l.order;
  places : l.next.0 + l.j ≤ l.initial.next.0 + length l.order;
  put : Goes l.initial.w (part_text l.part l.told.0 l.initial.next.0 (chosen (messages l.words) l.order (length l.order))) l.w
      (part_text l.part l.told.0 l.next.0 (chosen (messages l.words) l.order l.j));
}
