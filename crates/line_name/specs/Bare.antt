-- Names that may stand without quotes, what is written for a name then, and as statements: which names are quoted, and that what is written reads back. Assumes nothing.
use Rattle.std.specs.Prelude.{◌≡◌, List, ◌++◌, Bool, true, false, cond, not, ◌&&◌, ◌||◌, ℕ, ◌+◌, length}
use Rattle.model.specs.Lists.{allb, anyb}
use Rattle.model.specs.Text.{octets, same_word, quoted}
use Rattle.model.specs.Names.{Name, valid}
use Rattle.model.specs.Octets.{atom_octet, astring_octet}
use Rattle.model.specs.Reading.{ok, octet_at, stands, astring_at}

-- a name that may stand without quotes: atom octets alone, and not NIL in any case, which a client would take for no name
abbrev pub bare : Name → Bool
bare n = allb atom_octet n && not (same_word n (octets "NIL"))

-- a mailbox name as it is where it may be, else in quotes
unfoldable pub bare_text : Name → List ℕ
bare_text n = cond (bare n) n (quoted n)

-- ---- which names are quoted: an octet is no atom's, or the whole name is NIL in some case
abbrev pub needs_quotes : Name → Bool
needs_quotes n = anyb (λ (b : ℕ). not (atom_octet b)) n || same_word n (octets "NIL")

-- just these begin with a quote; they are written in quotes, the others as they are
pub record BareOrQuoted (n : Name) : Type 0 where
  pub begins : stands (bare_text n) 0 "\"" ≡ needs_quotes n
  pub plain : needs_quotes n ≡ false → bare_text n ≡ n
  pub other : needs_quotes n ≡ true → bare_text n ≡ quoted n

abbrev pub NameBare : Type 0
NameBare = (n : Name) → BareOrQuoted n

-- ---- a mailbox argument that has these octets is that name: wherever they stand in a text, and whatever follows that could not belong to them
abbrev pub ReadsBack : (front : List ℕ) → Name → (rest : List ℕ) → Type 0
ReadsBack front n rest = astring_at (front ++ (bare_text n ++ rest)) (length front) ≡ ok (length front + length (bare_text n)) n

abbrev pub NameRead : Type 0
NameRead = (front : List ℕ) (n : Name) (rest : List ℕ) → valid n ≡ true → astring_octet (octet_at rest 0) ≡ false → ReadsBack front n rest
