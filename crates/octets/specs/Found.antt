-- What the readers answer: the position behind what was read, or None. Assumes nothing: these are definitions.
use Rattle.std.specs.Prelude.{◌≡◌, Option, Some, None, List, ℕ, ◌≤◌, ◌<◌, length}
use Rattle.model.specs.Reading.{Parsed, bad, ok, after}

abbrev pub next_of : {A : Type 0} → Parsed A → Option ℕ
next_of bad = None
next_of (ok p a) = Some p

-- the position behind a space
abbrev pub space_at : List ℕ → ℕ → Option ℕ
space_at s p = next_of (after s p " " λ q. ok q q)

-- a position behind what was read stands in the text, behind its beginning
abbrev pub Within : List ℕ → ℕ → Option ℕ → Type 0
Within s at (Some p) = (at < p) × (p ≤ length s)
Within s at None = Unit {0}

-- r is the answer x of the definitions
pub record Reads (s : List ℕ) (at : ℕ) (x r : Option ℕ) : Type 0 where
  pub exact : r ≡ x
  pub within : Within s at r
