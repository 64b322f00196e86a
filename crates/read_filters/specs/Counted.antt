-- How many names stand at a position, as the code answers it: the number and the position behind them, or None. Assumes nothing: these are
-- definitions.
use Rattle.std.specs.Prelude.{◌≡◌, Option, Some, None, List, ℕ, ◌+◌, ◌-◌, ◌≤◌, ◌<◌, length}
use Rattle.model.specs.Reading.{Parsed, bad, ok, row_at, next_at, closing, astring_at}

abbrev pub read_names : Parsed (List (List ℕ)) → Option (ℕ × ℕ)
read_names bad = None
read_names (ok p ns) = Some (length ns, p)

-- names end in the text, and are at least one and no more than the octets that they stand in
pub record Bounded (s : List ℕ) (at n p : ℕ) : Type 0 where
  pub some : 0 < n
  pub few : n + at ≤ p
  pub inside : p ≤ length s

abbrev pub Within : List ℕ → ℕ → Option (ℕ × ℕ) → Type 0
Within s at (Some (n, p)) = Bounded s at n p
Within s at None = Unit {0}

-- r is the answer x of the definitions
pub record ReadsNames (s : List ℕ) (at : ℕ) (x r : Option (ℕ × ℕ)) : Type 0 where
  pub exact : r ≡ x
  pub within : Within s at r

-- r is a row of names up to its parenthesis, whatever the fuel, if it is enough
pub record ReadsRow (s : List ℕ) (at : ℕ) (r : Option (ℕ × ℕ)) : Type 0 where
  pub exact : (n : ℕ) → length s - at < n → r ≡ read_names (row_at n (astring_at s) (next_at closing s) at)
  pub within : Within s at r
