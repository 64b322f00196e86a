-- `put_rows`: the lines of the places above i are written. Assumes nothing.
use Prim.Native.Nat.{◌≤◌, ◌+◌, ◌*◌}
use lib.ListN.{length}
use Rattle.line_put.specs.Writes.{Goes}
use Rattle.line_found.specs.Telling.{texts}
use Rattle.line_found.proofs.put_rows.Given as goal

abbrev pub invariant-loop-i : goal.invariant-loop-i
invariant-loop-i l = record {
  limit : l.w.limit ≤ length l.w.queue.now;
  upper_bound : l.w.at + 43500 * l.i ≤ l.initial.w.at + 43500 * length l.rows;
  put : Goes l.initial.w (texts l.tag l.cols l.rows l.wanted l.uids l.starts l.counts (length l.rows)) l.w (texts l.tag l.cols l.rows l.wanted l.uids l.starts l.counts l.i);
}
