-- Fetch attributes after MessageNew: all of RFC 3501's, of which three are supported (01, Commands, 5 and 15).
use Rattle.std.specs.Prelude.{Bool, true, false, cond, ◌&&◌, ◌||◌, List, [], ◌∷◌, ℕ, ◌+◌, eqb, leb, length}
use Rattle.model.specs.Text.{upper}
use Rattle.model.specs.Octets.{digit}
use Rattle.model.specs.Requests.{Attribute, uid, flags, size, other_attribute}
use Rattle.model.specs.Reading.{Parsed, bad, ok, and_then, octet_at, stands, after, run_at, is, is_of}
use Rattle.model.specs.Reading.{number_at, positive_at, astring_at, another, over, row_at, list_at}

-- an attribute's word goes on through letters, digits and dots: a bracket behind it is no part of it
abbrev pub label_octet : ℕ → Bool
label_octet b = ((leb 65 (upper b) && leb (upper b) 90) || digit b) || eqb b 46

-- ---- the section of a body, between brackets
-- numbers of parts with dots between them; a dot before a letter ends them (RFC 3501, section-part)
abbrev pub parts_at : List ℕ → ℕ → Parsed (List ℕ)
parts_at s p = row_at (length s) (positive_at s) (λ q. cond (stands s q "." && digit (octet_at s (q + 1))) (another (q + 1)) (over q)) p

-- what a word in a section asks for: nothing more, a list of header fields, the header of a part, or it is no such word
pub data SectionWord : Type 0 where
  whole fields mime sectionless : SectionWord

unfoldable pub section_word : List ℕ → SectionWord
section_word w =
    cond (is_of w ("HEADER" ∷ "TEXT" ∷ [])) whole
    (cond (is_of w ("HEADER.FIELDS" ∷ "HEADER.FIELDS.NOT" ∷ [])) fields
    (cond (is w "MIME") mime sectionless))

-- behind the word: HEADER.FIELDS has a list of names; MIME only follows the number of a part (RFC 3501, section-text)
abbrev pub section_by : SectionWord → Bool → List ℕ → ℕ → Parsed (Unit {0})
section_by whole part s p = ok p tt
section_by fields part s p = after s p " " λ q. and_then (list_at (astring_at s) s q) λ r names. ok r tt
section_by mime true s p = ok p tt
section_by mime false s p = bad
section_by sectionless part s p = bad

-- `part` says that the number of a part stands before
abbrev pub section_text_at : Bool → List ℕ → ℕ → Parsed (Unit {0})
section_text_at part s p = and_then (run_at label_octet s p) λ q w. section_by (section_word w) part s q

-- a part, and what of it (RFC 3501, section-spec)
abbrev pub section_part_at : List ℕ → ℕ → Parsed (Unit {0})
section_part_at s p = and_then (parts_at s p) λ q parts. cond (stands s q ".") (section_text_at true s (q + 1)) (ok q tt)

abbrev pub section_spec_at : List ℕ → ℕ → Parsed (Unit {0})
section_spec_at s p =
    cond (stands s p "]") (ok p tt)
    (cond (digit (octet_at s p)) (section_part_at s p) (section_text_at false s p))

-- the octets asked for, the first and how many (RFC 3501, fetch-att)
abbrev pub partial_at : List ℕ → ℕ → Parsed (Unit {0})
partial_at s p =
    after s p "<" λ a. and_then (number_at s a) λ q first.
    after s q "." λ b. and_then (positive_at s b) λ r count.
    after s r ">" λ e. ok e tt

-- a section in its brackets, and the octets asked for, if any
unfoldable pub section_at : List ℕ → ℕ → Parsed (Unit {0})
section_at s p =
    after s p "[" λ a. and_then (section_spec_at s a) λ q spec.
    after s q "]" λ e. cond (stands s e "<") (partial_at s e) (ok e tt)

-- ---- attributes
-- what an attribute's word is: an attribute by itself, BODY, with or without a section, BODY.PEEK, which has one, or no such word
pub data Label : Type 0 where
  plain : Attribute → Label
  body peek unlabelled : Label

unfoldable pub label_of : List ℕ → Label
label_of w =
    cond (is w "UID") (plain uid)
    (cond (is w "FLAGS") (plain flags)
    (cond (is w "RFC822.SIZE") (plain size)
    (cond (is_of w ("ENVELOPE" ∷ "INTERNALDATE" ∷ "RFC822" ∷ "RFC822.HEADER" ∷ "RFC822.TEXT" ∷ "BODYSTRUCTURE" ∷ [])) (plain other_attribute)
    (cond (is w "BODY") body
    (cond (is w "BODY.PEEK") peek unlabelled)))))

-- the attribute that has this section
abbrev pub sectioned : Parsed (Unit {0}) → Parsed Attribute
sectioned x = and_then x λ q section. ok q other_attribute

abbrev pub attribute_by : Label → List ℕ → ℕ → Parsed Attribute
attribute_by (plain a) s p = ok p a
attribute_by body s p = cond (stands s p "[") (sectioned (section_at s p)) (ok p other_attribute)
attribute_by peek s p = sectioned (section_at s p)
attribute_by unlabelled s p = bad

-- one attribute; a word that RFC 3501 has not does not fit (RFC 3501, fetch-att)
unfoldable pub attribute_at : List ℕ → ℕ → Parsed Attribute
attribute_at s p = and_then (run_at label_octet s p) λ q w. attribute_by (label_of w) s q
