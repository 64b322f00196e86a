-- `copy_quoted`: the loop keeps that what is written and the value of what is left of the string make the whole. Assumes nothing.
use mathlib.Core.Path.{◌≡◌}
use Prim.Native.Nat.{◌≤◌, ◌<◌}
use lib.ListN.{length, drop}
use Rattle.model.specs.Reading.{unquote, quoted_at}
use Rattle.octets.specs.Found.{next_of}
use Rattle.octets.specs.Values.{value_of}
use Rattle.std.specs.Prelude.{None}
use Rattle.octets.proofs.Filling.{Copied}
use Rattle.octets.proofs.texts.copy_quoted.Given as goal

abbrev pub invariant-loop-p : goal.invariant-loop-p
invariant-loop-p l = (l.n < l.p) × (l.n ≤ length l.text) × (length l.out ≡ length l.initial.out) × (next_of (unquote (drop l.p l.text) l.escaped l.p) ≡ None → ⊥)
    × Copied (value_of (quoted_at l.text l.at)) l.initial.out (value_of (unquote (drop l.p l.text) l.escaped l.p)) l.out l.n
