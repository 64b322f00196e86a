-- How a key begins, over plain values. Assumes nothing.
use mathlib.Core.Path.{◌≡◌, refl, ap, ◌∙◌}
use mathlib.Core.List.{List, [], ◌∷◌}
use Prim.Native.Nat.{ℕ, ◌+◌, ◌*◌}
use native.Mathlib.Omega.{arith}
use lib.ListN.{length}
use lib.Seq.{sets}
use Rattle.std.specs.Prelude.{Option, Some, None, false}
use Rattle.model.specs.Requests.{Part, numbers}
use Rattle.model.specs.Reading.{Parsed, bad, ok, and_then}
use Rattle.model.specs.SearchGrammar.{single_of}
use Rattle.read_tests.specs.Table.{part_cells}
use Rattle.read_tests.specs.Sets.{WroteSet}
use Rattle.read_tests.specs.Begin.{Begun, PutSet}
use Rattle.read_tests.specs.declared.Start.{Start}
use Rattle.read_tests.specs.declared.Start.TheVariants.{One}
use Rattle.read_tests.proofs.Cells.{sets_head}

cells_two : (l : List Part) → length (part_cells l) ≡ 2 * length l
cells_two [] = refl
cells_two (x ∷ l) = omega (arith, cells_two l)

one_is : (p x : ℕ) {u v : ℕ} → u ≡ v → One p u false x ≡ One p v false x
one_is p x e = cc

-- a set, by its parts
module _ (kind : ℕ) (b b₁ b₂ : List ℕ) (n : ℕ) where
  pub put_parts : (k p : ℕ) (x : Parsed (List Part)) → WroteSet (Some (k, p)) b b₁ (n + 2) x → b₂ ≡ sets b₁ n (kind ∷ k ∷ [])
      → PutSet kind (Some (One p (n + 2 + 2 * k) false k)) b b₂ n x
  put_parts k p bad w f = let g = w.0 in absurd (let z : ◌≡◌ {A = ℕ} 0 1 = cc in omega arith)
  put_parts k p (ok q l) w f =
      let g = w.0 in
      let e : ◌≡◌ {A = ℕ × ℕ} (k, p) (length l, q) = cc in
      let i : k ≡ length l = ap (λ (z : ℕ × ℕ). z.0) e in
      let j : p ≡ q = ap (λ (z : ℕ × ℕ). z.1) e in
      (rw (i, j) (ap (λ (r : Start). Some r) (one_is q (length l) (omega (arith, cells_two l)))), sets_head b b₁ b₂ n kind (length l) (part_cells l) w.1 (f ∙ rw i))

  pub put_none : (x : Parsed (List Part)) → WroteSet None b b₁ (n + 2) x → PutSet kind None b b₁ n x
  put_none bad w = refl
  put_none (ok q l) w = let g = w.0 in absurd (let z : ◌≡◌ {A = ℕ} 0 1 = cc in omega arith)

-- a set of message numbers
module _ (r : Option Start) (b b₁ : List ℕ) (n : ℕ) where
  pub begun_numbers : (x : Parsed (List Part)) → PutSet 6 r b b₁ n x → Begun r b b₁ n (single_of (and_then x (λ q parts. ok q (numbers parts))))
  begun_numbers bad w = w
  begun_numbers (ok q l) w = w
