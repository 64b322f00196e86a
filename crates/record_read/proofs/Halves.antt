-- A number of eight octets is read in two halves of four, the lower one first. Assumes nothing.
use mathlib.Core.Path.{◌≡◌, refl, sym, ap, ◌∙◌}
use mathlib.Core.List.{List, [], ◌∷◌}
use Prim.Native.Nat.{ℕ, ◌+◌, ◌*◌, min}
use native.Mathlib.Omega.{arith}
use lib.ListN.{drop}
use lib.Seq.{drop-drop}
use Rattle.model.specs.Text.{little}
use Rattle.octets.specs.Widths.{Weighs}

-- octets that are not there count nothing
little_halves : (b : List ℕ) → little 8 b ≡ little 4 b + 4294967296 * little 4 (drop 4 b)
little_halves [] = refl
little_halves (p ∷ []) = omega arith
little_halves (p ∷ q ∷ []) = omega arith
little_halves (p ∷ q ∷ r ∷ []) = omega arith
little_halves (p ∷ q ∷ r ∷ s ∷ b) = omega arith

module _ (o : List ℕ) (at : ℕ) {w low : ℕ} where
  -- eight
  pub read_eight : {high : ℕ} → w ≡ 8 → Weighs o at w low → Weighs o (at + 4) 4 high → low + 4294967296 * high ≡ little w (drop at o)
  read_eight {high} eight reads more =
      let first : low ≡ little 4 (drop at o) = let e : min w 4 ≡ 4 = omega arith in reads.exact ∙ ap (λ (n : ℕ). little n (drop at o)) e in
      let second : high ≡ little 4 (drop 4 (drop at o)) = more.exact ∙ ap (little 4) (sym (drop-drop 4 at o)) in
      rw eight (omega (arith, first, second, little_halves (drop at o)))
