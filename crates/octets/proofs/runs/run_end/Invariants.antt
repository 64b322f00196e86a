-- `octets::runs::run_end` meets its contract: the end of the run from the start is its end from here. Assumes nothing.
use mathlib.Core.Path.{◌≡◌}
use Prim.Native.Nat.{◌≤◌, ◌+◌, ◌-◌}
use lib.ListN.{length}
use Rattle.model.specs.Reading.{end_of}
use Rattle.octets.specs.Classes.{in_class}
use Rattle.octets.proofs.runs.run_end.Given as goal

abbrev pub invariant-loop-p : goal.invariant-loop-p
invariant-loop-p l = (l.at ≤ l.p) × (l.p ≤ l.at + (length l.text - l.at)) × (end_of (in_class l.c) l.text l.at ≡ end_of (in_class l.c) l.text l.p)
