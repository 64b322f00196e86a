-- A table of words, and the place of a word in it. Assumes nothing: these are definitions.
use Rattle.std.specs.Prelude.{Option, List, ℕ, map}
use Rattle.std.specs.Borrow.{Bor}
use Rattle.std.specs.List.{position_from}
use Rattle.model.specs.Text.{same_word}

-- the words that a table refers to
abbrev pub words_of : List (Bor (List ℕ)) → List (List ℕ)
words_of ts = map (λ t. t.now) ts

-- the place of the first of these words that w is, whatever the case of its letters, counted from 0 on
abbrev pub place_of : List ℕ → List (List ℕ) → Option ℕ
place_of w ts = position_from (same_word w) 0 ts
