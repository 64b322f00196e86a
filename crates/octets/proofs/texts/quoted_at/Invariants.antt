-- `octets::texts::quoted_at` meets its contract: the answer from the start is the answer from here. Assumes nothing.
use mathlib.Core.Path.{◌≡◌}
use Prim.Native.Nat.{◌≤◌, ◌<◌}
use lib.ListN.{length, drop}
use Rattle.model.specs.Reading.{unquote, quoted_at}
use Rattle.octets.specs.Found.{next_of}
use Rattle.octets.proofs.texts.quoted_at.Given as goal

abbrev pub invariant-loop-p : goal.invariant-loop-p
invariant-loop-p l = (l.at < l.p) × (l.p ≤ length l.text) × (next_of (quoted_at l.text l.at) ≡ next_of (unquote (drop l.p l.text) l.escaped l.p))
