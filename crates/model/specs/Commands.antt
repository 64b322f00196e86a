-- A command line: its tag, and the command that it gives (01, Commands, 1, 12, 13 and 19).
use Rattle.std.specs.Prelude.{Bool, cond, ◌&&◌, List, ℕ, ◌+◌, eqb, leb, length, take}
use Rattle.model.specs.Text.{octets}
use Rattle.model.specs.Octets.{tag_octet}
use Rattle.model.specs.Requests.{Verb, notify, esearch, other_verb, Command}
use Rattle.model.specs.Reading.{Parsed, bad, ok, and_then, stands, after, end_of, atom_at, is}
use Rattle.model.specs.NotifyGrammar.{notify_at}
use Rattle.model.specs.SearchGrammar.{search_at}

-- ---- the tag
-- where a tag would end
abbrev pub tag_end : List ℕ → ℕ
tag_end s = end_of tag_octet s 0

-- the line begins with a tag, of at most 32 octets, and a space (Commands, 1 and 12)
abbrev pub tagged : List ℕ → Bool
tagged s = (leb 1 (tag_end s) && leb (tag_end s) 32) && stands s (tag_end s) " "

-- the tag that the answer bears (Commands, 12)
unfoldable pub tag_of : List ℕ → List ℕ
tag_of s = cond (tagged s) (take (tag_end s) s) (octets "*")

-- ---- the command
-- the two commands that are known, by their words (Commands, 5, 7 and 19)
abbrev pub verb_at : List ℕ → Verb
verb_at w = cond (is w "NOTIFY") notify (cond (is w "ESEARCH") esearch other_verb)

abbrev pub command_by : Verb → List ℕ → ℕ → Parsed Command
command_by notify s p = after s p " " λ q. notify_at s q
command_by esearch s p = after s p " " λ q. search_at s q
command_by other_verb s p = bad

-- the command behind the tag
abbrev pub command_at : List ℕ → ℕ → Parsed Command
command_at s p = and_then (atom_at s p) λ q w. command_by (verb_at w) s q

-- nothing follows it
abbrev pub whole_line : List ℕ → ℕ → Command → Parsed Command
whole_line s p c = cond (eqb p (length s)) (ok p c) bad

-- what the line asks, if it fits the grammar; without a tag it is read no further
unfoldable pub command_of : List ℕ → Parsed Command
command_of s = cond (tagged s) (and_then (command_at s (tag_end s + 1)) λ p c. whole_line s p c) bad
