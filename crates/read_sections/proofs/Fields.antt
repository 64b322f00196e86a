-- Names of header fields, where they end, and a section behind its bracket: what the definitions say. Assumes nothing.
use Rattle.std.proofs.Common.{◌≡◌, ℕ, ◌+◌, get_or, Option, Some, None, List, refl, eq-eqb}
use Rattle.model.specs.Reading.{Parsed, bad, ok, and_then, astring_at, list_at}
use Rattle.octets.specs.Found.{next_of}
use Rattle.octets.specs.Rows.{next-found}
use Rattle.model.specs.Attributes.{section_spec_at, section_at}
use Rattle.octets.specs.Joined.{read_by, list_joined, joined_list}
use Rattle.read_sections.specs.Sections.{read_field, fields_at, close_at}
use Rattle.read_sections.specs.declared.Field.{Field}

-- of names only their end is kept
abbrev pub end_of : Option (Field × ℕ) → Option ℕ
end_of (Some (a, q)) = Some q
end_of None = None

abbrev nothing : List (List ℕ) → Field
nothing l = record {}

ends : (x : Parsed (List (List ℕ))) → end_of (read_by nothing x) ≡ next_of (and_then x (λ r names. ok r (tt {0})))
ends bad = refl
ends (ok p l) = refl

pub fields_end : (s : List ℕ) (p : ℕ) → get_or s p 0 ≡ 32 → (x : Option (Field × ℕ)) → x ≡ list_joined (read_field s) (λ a b. b) s (p + 1) → end_of x ≡ next_of (fields_at s p)
fields_end s p e x h =
    rw (eq-eqb (get_or s p 0) 32 e, h, joined_list (λ (w : List ℕ). record {}) nothing (λ a b. b) (λ w. refl) (λ w l. refl) (astring_at s) s (p + 1))
    (ends (list_at (astring_at s) s (p + 1)))

-- ---- a section
pub section_close : (s : List ℕ) (p : ℕ) {q : ℕ} → get_or s p 0 ≡ 91 → Some q ≡ next_of (section_spec_at s (p + 1)) → next_of (close_at s q) ≡ next_of (section_at s p)
unfolding section_at
section_close s p e h = rw (eq-eqb (get_or s p 0) 91 e, (next-found (section_spec_at s (p + 1)) h).1)
