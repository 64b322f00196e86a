-- `put_quoted`: the octets so far are written, escaped, behind the opening quote. Assumes nothing.
use Prim.Native.Nat.{◌≤◌, ◌+◌, ◌*◌}
use lib.ListN.{take}
use Rattle.line_put.specs.Writes.{Writes}
use Rattle.model.specs.Text.{escape}
use Rattle.line_put.proofs.Writer.put_quoted.Given as goal

abbrev pub invariant-loop-b : goal.invariant-loop-b
invariant-loop-b l = record {
  put : Writes l.initial.self (escape (take l.b-index l.text)) l.self;
  upper_bound : l.self.at ≤ l.initial.self.at + 2 * l.b-index;
}
