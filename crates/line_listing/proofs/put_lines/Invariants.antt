-- `put_lines`: the lines of the places above i are written. Assumes nothing.
use Prim.Native.Nat.{◌≤◌, ◌+◌, ◌*◌}
use lib.ListN.{length}
use Rattle.line_put.specs.Writes.{Goes}
use Rattle.line_listing.specs.Telling.{texts}
use Rattle.line_listing.proofs.put_lines.Given as goal

abbrev pub invariant-loop-i : goal.invariant-loop-i
invariant-loop-i l = record {
  limit : l.w.limit ≤ length l.w.queue.now;
  upper_bound : l.w.at + 300 * l.i ≤ l.initial.w.at + 300 * (length l.order);
  put : Goes l.initial.w (texts l.cols l.order l.counts l.asks (length l.order)) l.w (texts l.cols l.order l.counts l.asks l.i);
}
