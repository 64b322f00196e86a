-- The parts of a search that may be left out, as the code answers them. Assumes nothing: these are definitions.
use Rattle.std.specs.Prelude.{Option, Bool, List, [], ℕ}
use Rattle.model.specs.Requests.{Filter, Charset, none}
use Rattle.model.specs.Replies.{unknown_charset}
use Rattle.model.specs.Reading.{Parsed, list_at}
use Rattle.model.specs.NotifyGrammar.{filter_at}
use Rattle.model.specs.SearchGrammar.{Return, returns_at, charset_at, option_at}
use Rattle.octets.specs.Joined.{read_by}

abbrev pub in_at : List ℕ → ℕ → Parsed (List Filter)
in_at s p = option_at "IN" (list_at (filter_at s) s) [] s p

abbrev pub return_at : List ℕ → ℕ → Parsed (List Return)
return_at s p = option_at "RETURN" (returns_at s) [] s p

abbrev pub charset_part_at : List ℕ → ℕ → Parsed Charset
charset_part_at s p = option_at "CHARSET" (charset_at s) none s p

-- a charset that is given and not known
abbrev pub read_part : Parsed Charset → Option (Bool × ℕ)
read_part x = read_by unknown_charset x
