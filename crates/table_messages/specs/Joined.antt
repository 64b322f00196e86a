-- Numbers joined bit by bit: each is at most the join. Assumes nothing.
use Rattle.std.specs.Prelude.{ℕ, ◌≤◌}
use Rattle.std.proofs.Common.{arith}
use Rattle.std.specs.Int.Bits.{bit_or, or_add_and}
use Rattle.std.proofs.lemmas.Nat.{and_le_l, and_le_r}

pub join_l : (a b : ℕ) → a ≤ bit_or a b
join_l a b = omega (arith, or_add_and a b, and_le_r a b)

pub join_r : (a b : ℕ) → b ≤ bit_or a b
join_r a b = omega (arith, or_add_and a b, and_le_l a b)
