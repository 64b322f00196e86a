-- A number of at most four octets, the lowest first. Assumes nothing: these are definitions.
use Rattle.std.specs.Prelude.{◌≡◌, List, ℕ, ◌<◌, min, drop}
use Rattle.model.specs.Text.{little}

pub record Weighs (s : List ℕ) (at width r : ℕ) : Type 0 where
  pub exact : r ≡ little (min width 4) (drop at s)
  pub below : r < 4294967296
