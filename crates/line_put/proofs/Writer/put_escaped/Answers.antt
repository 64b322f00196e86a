-- `put_escaped`: a quote and a backslash get a backslash before them. Assumes nothing.
use mathlib.Core.Path.{◌≡◌}
use mathlib.Core.Logic.{◌⊎◌, inl, inr}
use mathlib.Core.List.{[], ◌∷◌}
use Prim.Native.Nat.{ℕ}
use native.Mathlib.Omega.{arith}
use Rattle.model.specs.Text.{escape_octet}
use Rattle.line_put.specs.Writes.{◌then◌, writes_as}
use Rattle.line_put.proofs.Writer.put_escaped.Goals as goal

escaped : (b : ℕ) → (b ≡ 34) ⊎ (b ≡ 92) → 92 ∷ b ∷ [] ≡ escape_octet b
escaped b (inl e) = rw e
escaped b (inr e) = rw e

pub returns-in-34 : goal.returns-in-34
returns-in-34 c = (writes_as (◌then◌ c.put_byte.ensures c.put_byte-in-34.ensures) (escaped c.args.b c.in-34.is), omega arith)
