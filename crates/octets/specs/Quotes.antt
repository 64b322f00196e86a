-- An octet between quotes: what it does in the code, what of it is kept, and whether it escapes the next. Assumes nothing: these are definitions.
use Rattle.std.specs.Prelude.{Bool, true, false, List, [], ◌∷◌, ℕ}
use Rattle.model.specs.Reading.{Quoting, closes, escapes, belongs, fails}
use Rattle.octets.specs.declared.texts.QuoteStep.{QuoteStep}
use Rattle.octets.specs.declared.texts.QuoteStep.TheVariants.{Closes, Wrong, Kept, Escapes}

abbrev pub step_of : Quoting → QuoteStep
step_of closes = Closes
step_of fails = Wrong
step_of belongs = Kept
step_of escapes = Escapes

-- an octet that belongs to the string is kept
abbrev pub kept : QuoteStep → ℕ → List ℕ
kept Closes b = []
kept Wrong b = []
kept Kept b = b ∷ []
kept Escapes b = []

abbrev pub escaping : QuoteStep → Bool
escaping Closes = false
escaping Wrong = false
escaping Kept = false
escaping Escapes = true
