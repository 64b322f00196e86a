-- What the reader of a charset answers. Assumes nothing: these are definitions.
use Rattle.std.specs.Prelude.{Bool, true, false, Option, List, [], ◌∷◌, ℕ}
use Rattle.model.specs.Requests.{Charset, none, known, unknown}
use Rattle.model.specs.Reading.{Parsed, is_of}
use Rattle.octets.specs.Joined.{read_by}

-- a name of a charset that is known
abbrev pub is_known : List ℕ → Bool
is_known w = is_of w ("US-ASCII" ∷ "UTF-8" ∷ [])

abbrev pub known_of : Charset → Bool
known_of known = true
known_of unknown = false
known_of none = false

abbrev pub read_charset : Parsed Charset → Option (Bool × ℕ)
read_charset x = read_by known_of x
