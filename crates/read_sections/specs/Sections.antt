-- What the readers of a section answer. Assumes nothing: these are definitions.
use Rattle.std.specs.Prelude.{◌≡◌, Option, Some, None, cond, ◌&&◌, List, ℕ, ◌+◌, ◌-◌, ◌≤◌, length}
use Rattle.model.specs.Octets.{digit}
use Rattle.model.specs.Reading.{Parsed, ok, and_then, octet_at, stands, after, positive_at, astring_at, Next as RowNext, another, over, row_at, list_at}
use Rattle.model.specs.Attributes.{SectionWord, whole, fields, mime, sectionless, partial_at}
use Rattle.octets.specs.Found.{next_of, Within}
use Rattle.octets.specs.Joined.{read_by}
use Rattle.read_sections.specs.declared.Field.{Field}
use Rattle.read_sections.specs.declared.Wanted.{Wanted}
use Rattle.read_sections.specs.declared.Wanted.TheVariants.{Whole, Fields, Mime}

-- what follows the number of a part
abbrev pub part_next : List ℕ → ℕ → RowNext
part_next s q = cond (stands s q "." && digit (octet_at s (q + 1))) (another (q + 1)) (over q)

-- numbers of parts, read with any fuel that is enough
pub record ReadsParts (s : List ℕ) (at : ℕ) (r : Option ℕ) : Type 0 where
  pub within : Within s at r
  pub exact : (n : ℕ) → length s - at ≤ n → r ≡ next_of (row_at n (positive_at s) (part_next s) at)

-- the name of a header field, of which nothing is kept
abbrev pub read_field : List ℕ → ℕ → Option (Field × ℕ)
read_field s p = read_by (λ name. record {}) (astring_at s p)

-- what HEADER.FIELDS has behind it
abbrev pub fields_at : List ℕ → ℕ → Parsed (Unit {0})
fields_at s p = after s p " " λ q. and_then (list_at (astring_at s) s q) λ r names. ok r tt

-- a section's word as the code has it
abbrev pub word_of : SectionWord → Option Wanted
word_of whole = Some Whole
word_of fields = Some Fields
word_of mime = Some Mime
word_of sectionless = None

-- r is the answer x of the definitions, where nothing may stand at all
abbrev pub Onward : List ℕ → ℕ → Option ℕ → Type 0
Onward s at (Some p) = (at ≤ p) × (p ≤ length s)
Onward s at None = Unit {0}

pub record ReadsOn (s : List ℕ) (at : ℕ) (x r : Option ℕ) : Type 0 where
  pub exact : r ≡ x
  pub within : Onward s at r

-- a partial behind its first number
abbrev pub count_at : List ℕ → ℕ → Parsed (Unit {0})
count_at s q = after s q "." λ b. and_then (positive_at s b) λ r count. after s r ">" λ e. ok e tt

-- a section behind what stands between its brackets
abbrev pub close_at : List ℕ → ℕ → Parsed (Unit {0})
close_at s q = after s q "]" λ e. cond (stands s e "<") (partial_at s e) (ok e tt)
