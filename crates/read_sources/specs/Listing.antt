-- The sources of a search in a list of 8, with their names, as they are searched. Assumes nothing: these are definitions.
use Rattle.std.specs.Prelude.{◌≡◌, Option, Some, None, List, [], ◌∷◌, ◌++◌, ℕ, ◌+◌, ◌-◌, ◌≤◌, ◌<◌, length, set, replicate}
use Rattle.std.proofs.lemmas.List.Edits.{sets}
use Rattle.model.specs.Requests.{Filter, names_of}
use Rattle.model.specs.Reading.{Parsed, row_at, next_at, closing}
use Rattle.model.specs.NotifyGrammar.{filter_at}
use Rattle.model.specs.Searching.{or_selected}
use Rattle.octets.specs.Joined.{read_by}
use Rattle.read_filters.specs.Keeping.{nothing_kept, with_all}
use Rattle.read_filters.specs.Scopes.{scope_for}
use Rattle.read_filters.specs.declared.Kept.{Kept}
use Rattle.read_filters.specs.declared.Scope.{Scope}
use Rattle.read_filters.specs.declared.Scope.TheVariants.{Selected, Delayed, Inboxes, Personal, Subscribed, Subtree, SubtreeOne, Mailboxes}
use Rattle.read_sources.specs.declared.Source.{Source}
use Rattle.read_sources.specs.declared.Listed.{Listed}

abbrev pub scope_number : Scope → ℕ
scope_number Selected = 0
scope_number Delayed = 1
scope_number Inboxes = 2
scope_number Personal = 3
scope_number Subscribed = 4
scope_number Subtree = 5
scope_number SubtreeOne = 6
scope_number Mailboxes = 7

-- a source whose names are kept from n on
abbrev pub source_from : ℕ → Filter → Source
source_from n f = record { scope = scope_for f; first = n; count = length (names_of f) }

-- ---- lists
abbrev pub nothing_listed : Listed
nothing_listed = record { count = 0; sources = replicate 8 (record { scope = Selected; first = 0; count = 0 }); kept = nothing_kept }

-- one source more; one that finds no place is counted and dropped
abbrev pub put_listed : Listed → Source → Kept → Listed
put_listed t one kept = record { count = t.count + 1; sources = set t.sources t.count one; kept = kept }

abbrev pub add_filter : Listed → Filter → Listed
add_filter t f = put_listed t (source_from t.kept.count f) (with_all t.kept (names_of f))

abbrev pub add_all : Listed → List Filter → Listed
add_all t [] = t
add_all t (f ∷ fs) = add_all (add_filter t f) fs

abbrev pub read_listed : Listed → Parsed (List Filter) → Option (Listed × ℕ)
read_listed t x = read_by (λ fs. add_all t fs) x

-- the sources of a search as they are searched: with none, the selected mailbox is
abbrev pub kept_sources : Parsed (List Filter) → Option (Listed × ℕ)
kept_sources x = read_by (λ fs. add_all nothing_listed (or_selected fs)) x

-- ---- one source
abbrev pub read_listed_one : Listed → Parsed Filter → Option (Listed × ℕ)
read_listed_one t x = read_by (λ f. add_filter t f) x

-- a source ends in the text, and no more sources and names are listed than there are octets before that
abbrev pub Fits : List ℕ → ℕ → Option (Listed × ℕ) → Type 0
Fits s at (Some (t, p)) = (at < p) × (p ≤ length s) × (t.count ≤ p) × (t.kept.count ≤ p)
Fits s at None = Unit {0}

pub record ListsOne (s : List ℕ) (at : ℕ) (t : Listed) (r : Option (Listed × ℕ)) : Type 0 where
  pub exact : r ≡ read_listed_one t (filter_at s at)
  pub within : Fits s at r

-- ---- a row, whatever the number of steps, if it is enough
abbrev pub ListsRow : List ℕ → ℕ → Listed → Option (Listed × ℕ) → Type 0
ListsRow s at t r = (n : ℕ) → length s - at < n → r ≡ read_listed t (row_at n (filter_at s) (next_at closing s) at)

-- ---- the same in one piece
-- the sources, and where their names begin
abbrev pub sources_from : ℕ → List Filter → List Source
sources_from n [] = []
sources_from n (f ∷ fs) = source_from n f ∷ sources_from (n + length (names_of f)) fs

abbrev pub all_names : List Filter → List (List ℕ)
all_names [] = []
all_names (f ∷ fs) = names_of f ++ all_names fs

abbrev pub whole_list : Listed → List Filter → Listed
whole_list t fs =
    record {
      count = t.count + length fs;
      sources = sets t.sources t.count (sources_from t.kept.count fs);
      kept = with_all t.kept (all_names fs);
    }
