-- Numbers of parts, one step of the definition of a row at a time, over plain values. Assumes nothing.
use Rattle.std.proofs.Common.{◌≡◌, ℕ, ◌+◌, ◌-◌, get_or, Option, Some, None, true, false, List, ◌∷◌, refl, sym, ap, ◌∙◌, arith, ne_eqb}
use Rattle.model.specs.Octets.{digit}
use Rattle.model.specs.Reading.{Parsed, bad, ok, and_then, positive_at, another, over, row_at}
use Rattle.octets.specs.Found.{next_of, Within}
use Rattle.octets.specs.Numerals.{number_read, Small}
use Rattle.octets.specs.Rows.{in-text, row_none, row_open}
use Rattle.read_sections.specs.Sections.{part_next, ReadsParts}

number-lost : (x : Parsed ℕ) → None ≡ number_read x → x ≡ bad
number-lost bad e = refl
number-lost (ok p v) e = cc

number-found : (x : Parsed ℕ) {v q : ℕ} → Some (v, q) ≡ number_read x → x ≡ ok q v
number-found bad e = cc
number-found (ok p a) {v} {q} e = let i : ◌≡◌ {A = ℕ × ℕ} (v, q) (a, p) = cc in ap (λ (x : ℕ × ℕ). ok x.1 x.0) (sym i)

-- ---- what follows a number
module _ (s : List ℕ) (q : ℕ) where
  pub part_another : get_or s q 0 ≡ 46 → digit (get_or s (q + 1) 0) ≡ true → part_next s q ≡ another (q + 1)
  part_another e d = rw (e, d)

  pub part_letter : get_or s q 0 ≡ 46 → digit (get_or s (q + 1) 0) ≡ false → part_next s q ≡ over q
  part_letter e d = rw (e, d)

  pub part_over : (get_or s q 0 ≡ 46 → ⊥) → part_next s q ≡ over q
  part_over e = rw (ne_eqb (get_or s q 0) 46 e)

-- ---- a row of them
module _ (s : List ℕ) (at : ℕ) where
  pub parts_none : None ≡ number_read (positive_at s at) → ReadsParts s at None
  parts_none e = record { within = tt; exact = λ n h. rw (row_none (positive_at s) (part_next s) at n (number-lost (positive_at s at) e)) }

  module _ {v q : ℕ} (e : Some (v, q) ≡ number_read (positive_at s at)) (w : Small s at (Some (v, q))) where
    pub parts_over : part_next s q ≡ over q → ReadsParts s at (Some q)
    parts_over f =
        record {
          within = (omega arith, omega arith);
          exact = λ n h. rw (row_open (positive_at s) (part_next s) at n (omega arith), number-found (positive_at s at) e, f);
        }

    within_from : (r : Option ℕ) → Within s (q + 1) r → Within s at r
    within_from (Some p) h = (omega arith, omega arith)
    within_from None h = tt

    more : (x : Parsed (List ℕ)) → next_of x ≡ next_of (and_then x (λ r l. ok r (v ∷ l)))
    more bad = refl
    more (ok r l) = refl

    pub parts_another : get_or s q 0 ≡ 46 → digit (get_or s (q + 1) 0) ≡ true → (r : Option ℕ) → ReadsParts s (q + 1) r → ReadsParts s at r
    parts_another f d r h =
        record {
          within = within_from r h.within;
          exact =
              λ n l.
              h.exact (n - 1) (omega (arith, in-text s q f (omega arith)))
              ∙ more (row_at (n - 1) (positive_at s) (part_next s) (q + 1))
              ∙ sym (rw (row_open (positive_at s) (part_next s) at n (omega arith), number-found (positive_at s at) e, part_another s q f d));
        }
