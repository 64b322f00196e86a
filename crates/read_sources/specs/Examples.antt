-- A worked example: the list of a search's sources. Assumes nothing.
use Rattle.std.specs.Prelude.{◌≡◌, Option, Some, None, List, ℕ, refl, [], ◌∷◌, take}
use Rattle.model.specs.Lists.{same}
use Rattle.model.specs.Text.{octets}
use Rattle.model.specs.Reading.{run_length, unquote, row_at}
use Rattle.model.specs.NotifyGrammar.{scope_of, filter_at}
use Rattle.read_filters.specs.declared.Scope.TheVariants.{Personal, Subtree, Mailboxes}
use Rattle.read_search.specs.Parts.{in_at}
use Rattle.read_sources.specs.Listing.{kept_sources}
use Rattle.read_sources.specs.declared.Source.{Source}
use Rattle.read_sources.specs.declared.Listed.{Listed}

-- the sources that are listed, none where nothing fits
abbrev sources_of : Option (Listed × ℕ) → List Source
sources_of (Some (t, p)) = t.sources
sources_of None = []

listed : take 3 (sources_of (kept_sources (in_at (octets "IN (personal mailboxes (a b) subtree c) ALL") 0)))
    ≡ record { scope = Personal; first = 0; count = 0 } ∷ record { scope = Mailboxes; first = 0; count = 2 } ∷ record { scope = Subtree; first = 2; count = 1 } ∷ []
unfolding filter_at scope_of row_at run_length unquote same
listed = refl
