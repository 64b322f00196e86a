-- Rows of things and octets that must stand, one step of the definitions of `model` at a time, over plain values. Assumes nothing.
use mathlib.Core.Path.{◌≡◌}
use mathlib.Core.List.{List}
use Prim.Native.Nat.{ℕ, ◌+◌}
use lib.ListN.{length, get_or}
use borrow.Author.Tests.{eq-eqb, ne_eqb}
use Rattle.model.specs.Reading.{another, over, neither, line_end, next_at}

-- ---- what follows a thing on the line

module _ (s : List ℕ) (q : ℕ) where
  pub next_another : get_or s q 0 ≡ 32 → next_at line_end s q ≡ another (q + 1)
  next_another e = rw (eq-eqb (get_or s q 0) 32 e)

  pub next_over : (get_or s q 0 ≡ 32 → ⊥) → q ≡ length s → next_at line_end s q ≡ over q
  next_over e f = rw (ne_eqb (get_or s q 0) 32 e, eq-eqb q (length s) f)

  pub next-neither : (get_or s q 0 ≡ 32 → ⊥) → (q ≡ length s → ⊥) → next_at line_end s q ≡ neither
  next-neither e f = rw (ne_eqb (get_or s q 0) 32 e, ne_eqb q (length s) f)
