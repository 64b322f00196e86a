-- Bits of an octet, read by a shift. Assumes nothing.
use Rattle.std.specs.Prelude.{◌≡◌, false, ℕ, zero, suc, ◌/◌, ◌%◌, ◌^◌, ◌<◌, ◌≤◌, eqb}
use Rattle.std.proofs.Common.{ap, sym, ◌∙◌, arith}
use Rattle.std.proofs.Math.Nat.{div-div-eq-div-mul, pow-succ', pow-le-pow_right, div-one}
use Rattle.model.specs.Text.{bit}

pub bit_shift : (k n : ℕ) → eqb (n / 2 ^ k % 2) 1 ≡ bit k n
bit_shift zero n = ap (λ (m : ℕ). eqb (m % 2) 1) (div-one n)
bit_shift (suc k) n = ap (λ (m : ℕ). eqb (m % 2) 1) (ap (λ (d : ℕ). n / d) (pow-succ' 2 k) ∙ sym (div-div-eq-div-mul n 2 (2 ^ k))) ∙ bit_shift k (n / 2)

bit_past : (k n : ℕ) → n < 2 ^ k → false ≡ bit k n
bit_past zero n h = ap (λ (m : ℕ). eqb (m % 2) 1) (let z : 0 ≡ n = omega arith in z)
bit_past (suc k) n h = bit_past k (n / 2) (let z = pow-succ' 2 k in omega arith)

-- an octet has no other bits than its eight
pub bit_none : (k n : ℕ) → 8 ≤ k → n < 256 → false ≡ bit k n
bit_none k n h f = bit_past k n (let z : 2 ^ 8 ≤ 2 ^ k = pow-le-pow_right {n = 2} (omega arith) {i = 8} {j = k} h in omega arith)
