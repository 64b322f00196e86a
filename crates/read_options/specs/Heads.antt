-- What the readers of a line's head answer: its tag and its verb. Assumes nothing: these are definitions.
use Rattle.std.specs.Prelude.{◌≡◌, Option, List, ℕ, ◌≤◌, length}
use Rattle.model.specs.Requests.{Verb as Word, notify, esearch, other_verb}
use Rattle.model.specs.Reading.{Parsed, atom_at}
use Rattle.model.specs.Commands.{tag_end, verb_at}
use Rattle.octets.specs.Joined.{read_by, ReadsOne}
use Rattle.read_options.specs.declared.Verb.{Verb}
use Rattle.read_options.specs.declared.Verb.TheVariants.{Notify, Esearch, Other}

-- r is where a tag would end
pub record TagEnds (s : List ℕ) (r : ℕ) : Type 0 where
  pub exact : r ≡ tag_end s
  pub within : r ≤ length s

abbrev pub verb_of : Word → Verb
verb_of notify = Notify
verb_of esearch = Esearch
verb_of other_verb = Other

-- the verb that an atom is
abbrev pub read_verb : Parsed (List ℕ) → Option (Verb × ℕ)
read_verb x = read_by (λ w. verb_of (verb_at w)) x

-- r is the verb at a position
abbrev pub ReadsVerb : List ℕ → ℕ → Option (Verb × ℕ) → Type 0
ReadsVerb s at r = ReadsOne s at (read_verb (atom_at s at)) r
