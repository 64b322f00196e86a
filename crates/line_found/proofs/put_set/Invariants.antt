-- `put_set`: the open run and what is left are all that is to be written. Assumes nothing.
use Prim.Native.Nat.{◌≤◌, ◌+◌, ◌*◌}
use lib.ListN.{length, drop}
use Rattle.model.specs.Lines.{runs_text, set_text}
use Rattle.line_put.specs.Writes.{Goes}
use Rattle.line_found.specs.Line.{uids_of}
use Rattle.line_found.proofs.put_set.Given as goal

abbrev pub invariant-loop-u : goal.invariant-loop-u
invariant-loop-u l = record {
  limit : l.w.limit ≤ length l.w.queue.now;
  upper_bound : l.w.at ≤ l.initial.w.at + 42 * l.u-index;
  put : Goes l.initial.w (set_text (uids_of l.uids)) l.w (runs_text l.from.0 l.upto.0 (uids_of (drop l.u-index l.u-items)));
}
