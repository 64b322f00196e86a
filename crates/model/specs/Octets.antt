-- Classes of octets: what may stand in a tag, an atom, a mailbox argument, a number and a quoted string (01, Commands, 1 to 4).
use Rattle.std.specs.Prelude.{Bool, not, ◌&&◌, ◌||◌, ℕ, eqb, leb}
use Rattle.model.specs.Lists.{anyb}
use Rattle.model.specs.Text.{octets}

-- printed octets that have a meaning of their own, so that no atom holds them (Commands, 2)
abbrev pub special : ℕ → Bool
special b = anyb (eqb b) (octets "(){%*\"\\]")

-- an atom is made of all other printed octets; the space is not one of them (Commands, 2)
abbrev pub atom_octet : ℕ → Bool
atom_octet b = (leb 0x21 b && leb b 0x7E) && not (special b)

-- an argument without quotes may hold a closing bracket too (Commands, 4; RFC 3501, ASTRING-CHAR)
abbrev pub astring_octet : ℕ → Bool
astring_octet b = atom_octet b || eqb b 93

-- so may a tag, in which no plus sign stands (Commands, 1)
abbrev pub tag_octet : ℕ → Bool
tag_octet b = astring_octet b && not (eqb b 43)

-- 0 to 9 (RFC 3501, DIGIT)
abbrev pub digit : ℕ → Bool
digit b = leb 48 b && leb b 57

-- between quotes: seven bits, not NUL and no line end; of the two that need a backslash before them `unquote` takes care (RFC 3501, QUOTED-CHAR)
abbrev pub quoted_octet : ℕ → Bool
quoted_octet b = (leb 0x01 b && leb b 0x7F) && not (eqb b 13 || eqb b 10)
