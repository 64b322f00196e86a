-- What the readers of numbers answer: the number and the position behind it, or None. Assumes nothing: these are definitions.
use Rattle.std.specs.Prelude.{◌≡◌, Option, Some, None, List, ℕ, ◌≤◌, ◌<◌, length}
use Rattle.model.specs.Reading.{Parsed, bad, ok}

abbrev pub number_read : Parsed ℕ → Option (ℕ × ℕ)
number_read bad = None
number_read (ok p v) = Some (v, p)

-- a number is of 32 bits, and the position behind it stands in the text, behind its beginning
abbrev pub Small : List ℕ → ℕ → Option (ℕ × ℕ) → Type 0
Small s at (Some (v, p)) = (v ≤ 4294967295) × (at < p) × (p ≤ length s)
Small s at None = Unit {0}

-- r is the answer x of the definitions
pub record Counts (s : List ℕ) (at : ℕ) (x r : Option (ℕ × ℕ)) : Type 0 where
  pub exact : r ≡ x
  pub within : Small s at r
