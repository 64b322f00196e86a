-- Worked examples: keys of a line, and the table that they are read into. Assumes nothing.
use Rattle.std.specs.Prelude.{◌≡◌, refl, List, [], ◌∷◌, ℕ}
use Rattle.model.specs.Lists.{same}
use Rattle.model.specs.Text.{octets}
use Rattle.model.specs.Requests.{Keys}
use Rattle.model.specs.Reading.{Parsed, bad, ok, run_length, value_from, number_at, row_at, number_set_at, date_at}
use Rattle.model.specs.SearchGrammar.{keyword_of, start_at, key_at, program_at}
use Rattle.read_keys.specs.Table.{code, codes}

abbrev table_of : Parsed Keys → List ℕ
table_of bad = []
table_of (ok p ks) = codes ks

nested : table_of (program_at (octets "NOT (OR SEEN 5 UID 4:*)") 0) ≡ 8 ∷ 15 ∷ 10 ∷ 13 ∷ 9 ∷ 7 ∷ 2 ∷ 3 ∷ 1 ∷ 6 ∷ 1 ∷ 5 ∷ 5 ∷ 5 ∷ 1 ∷ 4 ∷ 0 ∷ []
unfolding key_at start_at keyword_of number_set_at row_at number_at run_length value_from same code
nested = refl

flat : table_of (program_at (octets "larger 007 undraft SINCE 1-Feb-1994") 0) ≡ 3 ∷ 7 ∷ 2 ∷ 4 ∷ 0 ∷ 7 ∷ []
unfolding key_at start_at keyword_of number_set_at row_at number_at date_at run_length value_from same code
flat = refl

unclosed : program_at (octets "(ALL") 0 ≡ bad
unfolding key_at start_at keyword_of number_set_at row_at number_at run_length value_from same code
unclosed = refl
