-- The value of a string that was read, and a buffer whose front is overwritten by it. Assumes nothing: these are definitions.
use Rattle.std.specs.Prelude.{◌≡◌, List, [], ◌++◌, ℕ, ◌≤◌, length, take, drop}
use Rattle.model.specs.Reading.{Parsed, bad, ok}

abbrev pub value_of : Parsed (List ℕ) → List ℕ
value_of bad = []
value_of (ok p v) = v

-- the front of a buffer is overwritten by as much of v as fits, and the rest stays
abbrev pub fill : List ℕ → List ℕ → List ℕ
fill out v = take (length out) v ++ drop (length v) out

-- out became out', filled by v, whose length is r; no value is longer than its text s
pub record Filled (s v out out' : List ℕ) (r : ℕ) : Type 0 where
  pub long : r ≡ length v
  pub is : out' ≡ fill out v
  pub within : r ≤ length s
