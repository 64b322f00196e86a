-- Sets, part by part, over plain values. Assumes nothing.
use mathlib.Core.Path.{◌≡◌, refl, sym, ap, ◌∙◌}
use mathlib.Core.Bool.{Bool, cond}
use mathlib.Core.List.{List, [], ◌∷◌}
use Prim.Native.Nat.{ℕ, suc, ◌+◌, ◌-◌, ◌<◌}
use native.Mathlib.Omega.{arith}
use lib.ListN.{get_or, take}
use lib.Seq.{sets, take-take}
use borrow.Author.Tests.{eq-eqb, ne_eqb}
use Rattle.std.specs.Prelude.{Option, Some, None}
use Rattle.model.specs.Requests.{Part}
use Rattle.model.specs.Reading.{Parsed, bad, ok, and_then, stands, part_at, another, over, row_by, row_at}
use Rattle.read_tests.specs.Table.{bound_number}
use Rattle.read_tests.specs.Sets.{read_part, comma_at, WroteSet}
use Rattle.read_tests.specs.declared.sets.PartRead.{PartRead}
use Rattle.read_tests.proofs.Cells.{take_two}
use Rattle.octets.specs.Rows.{row_open as open_row, row_none as no_row}

part-found : {x : PartRead} (y : Parsed Part) → Some x ≡ read_part y → (a : Part) × (y ≡ ok x.next a) × (bound_number a.from ≡ x.from) × (bound_number a.upto ≡ x.upto)
part-found bad e = absurd (let z : ◌≡◌ {A = ℕ} 0 1 = cc in omega arith)
part-found (ok q a) e = (a, (cc), (cc), (cc))

part_missing : (x : Parsed Part) → None ≡ read_part x → x ≡ bad
part_missing bad e = refl
part_missing (ok q a) e = absurd (let z : ◌≡◌ {A = ℕ} 0 1 = cc in omega arith)

abbrev row : ℕ → List ℕ → ℕ → Parsed (List Part)
row n s at = row_at n (part_at s) (comma_at s) at

-- nothing is written where no part stands
pub set_none : (s : List ℕ) (at n m : ℕ) (b : List ℕ) → None ≡ read_part (part_at s at) → WroteSet None b b n (row m s at)
set_none s at n m b e = rw (no_row (part_at s) (comma_at s) at m (part_missing (part_at s at) e)) (refl, refl)

-- one part more
abbrev pub counted : Option (ℕ × ℕ) → Option (ℕ × ℕ)
counted (Some (k, p)) = Some (1 + k, p)
counted None = None

module _ (s : List ℕ) (at n m : ℕ) (h : 0 < m) (x : PartRead) (e : Some x ≡ read_part (part_at s at)) (b b₁ : List ℕ) (f : b₁ ≡ sets b n (x.from ∷ x.upto ∷ [])) where
  row_is : {t : Bool} → stands s x.next "," ≡ t
      → (a : Part) × (row m s at ≡ row_by (cond t (another (x.next + 1)) (over x.next)) (λ r. row (m - 1) s r) a) × (bound_number a.from ≡ x.from) × (bound_number a.upto ≡ x.upto)
  row_is g =
      let i = part-found (part_at s at) e in (
        i.0,
        open_row (part_at s) (comma_at s) at m h ∙ ap (λ (x : Parsed Part). and_then x (λ q a. row_by (comma_at s q) (λ r. row (m - 1) s r) a)) i.1
            ∙ ap (λ (t : Bool). row_by (cond t (another (x.next + 1)) (over x.next)) (λ r. row (m - 1) s r) i.0) g,
        i.2,
        i.3,
      )

  pub set_last : (get_or s x.next 0 ≡ 44 → ⊥) → WroteSet (Some (1, x.next)) b b₁ n (row m s at)
  set_last g = let i = row_is (ne_eqb (get_or s x.next 0) 44 g) in rw i.1 (refl, f ∙ rw (i.2, i.3))

  more : (a : Part) → bound_number a.from ≡ x.from → bound_number a.upto ≡ x.upto → (r : Option (ℕ × ℕ)) (b' : List ℕ) (y : Parsed (List Part)) → WroteSet r b₁ b' (n + 2) y
      → WroteSet (counted r) b b' n (and_then y (λ q l. ok q (a ∷ l)))
  more a g k r b' bad z =
      (ap counted z.0, sym (take-take n (n + 2) b' (omega arith)) ∙ ap (take n) z.1 ∙ take-take n (n + 2) b₁ (omega arith) ∙ take_two b b₁ n x.from x.upto f)
  more a g k r b' (ok q l) z = (ap counted z.0 ∙ ap (λ (j : ℕ). Some (j, q)) (omega arith), z.1 ∙ rw (f, g, k, add_two n))
    where
      add_two : (j : ℕ) → j + 2 ≡ suc (suc j)
      add_two j = omega arith

  pub set_more : get_or s x.next 0 ≡ 44 → (r : Option (ℕ × ℕ)) (b' : List ℕ) → WroteSet r b₁ b' (n + 2) (row (m - 1) s (x.next + 1)) → WroteSet (counted r) b b' n (row m s at)
  set_more g r b' z = let i = row_is (eq-eqb (get_or s x.next 0) 44 g) in rw i.1 (more i.0 i.2 i.3 r b' (row (m - 1) s (x.next + 1)) z)
