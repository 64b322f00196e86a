-- What is kept of names that were read. Assumes nothing: these are definitions.
use Rattle.std.specs.Prelude.{◌≡◌, Option, Some, None, List, map, ℕ, ◌+◌, ◌-◌, ◌≤◌, ◌<◌, length, set, replicate}
use Rattle.std.proofs.lemmas.List.Edits.{sets}
use Rattle.model.specs.Requests.{Filter, names_of}
use Rattle.model.specs.Reading.{Parsed, bad, ok, row_at, next_at, closing, astring_at}
use Rattle.model.specs.Memory.{no_name}
use Rattle.model.specs.Listing.{lend_name}
use Rattle.model.specs.declared.LentName.{LentName}
use Rattle.model.specs.NotifyGrammar.{Scope as ScopeWord, named_by, filter_by}
use Rattle.read_filters.specs.Scopes.{Bears, Plain, word_for}
use Rattle.read_filters.specs.declared.Scope.{Scope}
use Rattle.read_filters.specs.declared.Word.{Word}
use Rattle.read_filters.specs.declared.Kept.{Kept}

-- no name is kept
abbrev pub nothing_kept : Kept
nothing_kept = record { count = 0; names = replicate 16 no_name }

-- names behind those that are kept; those that find no place are counted and dropped
abbrev pub with_all : Kept → List (List ℕ) → Kept
with_all k ns = record { count = k.count + length ns; names = sets k.names k.count (map lend_name ns) }

abbrev pub with_one : Kept → LentName → Kept
with_one k n = record { count = k.count + 1; names = set k.names k.count n }

-- what is kept, and the position behind what was read; None where nothing fits
abbrev pub kept_names : Kept → Parsed (List (List ℕ)) → Option (Kept × ℕ)
kept_names k bad = None
kept_names k (ok p ns) = Some (with_all k ns, p)

abbrev pub kept_filter : Kept → Parsed Filter → Option (Kept × ℕ)
kept_filter k bad = None
kept_filter k (ok p f) = Some (with_all k (names_of f), p)

-- what was read ends in the text, behind its beginning, and no more names are kept than there are octets before that
abbrev pub Fits : List ℕ → ℕ → Option (Kept × ℕ) → Type 0
Fits s at (Some (k, p)) = (at < p) × (p ≤ length s) × (k.count ≤ p)
Fits s at None = Unit {0}

-- r is the answer x of the definitions
pub record Keeps (s : List ℕ) (at : ℕ) (x r : Option (Kept × ℕ)) : Type 0 where
  pub exact : r ≡ x
  pub within : Fits s at r

-- r is a row of names up to its parenthesis, whatever the fuel, if it is enough
pub record KeepsRow (s : List ℕ) (at : ℕ) (k : Kept) (r : Option (Kept × ℕ)) : Type 0 where
  pub exact : (n : ℕ) → length s - at < n → r ≡ kept_names k (row_at n (astring_at s) (next_at closing s) at)
  pub within : Fits s at r

-- ---- behind a filter's word, where nothing may be left to read
abbrev pub FitsBehind : List ℕ → ℕ → Option (Kept × ℕ) → Type 0
FitsBehind s at (Some (k, p)) = (at ≤ p) × (p ≤ length s) × (k.count ≤ p)
FitsBehind s at None = Unit {0}

-- r is a filter with names, whatever the filter that they make
pub record KeepsNamed (s : List ℕ) (at : ℕ) (k : Kept) (r : Option (Kept × ℕ)) : Type 0 where
  pub exact : (scope : Scope) (f : List ℕ → List (List ℕ) → Filter) → Bears scope f → r ≡ kept_filter k (named_by f s at)
  pub within : FitsBehind s at r

-- r is the filter of this word, whatever the definitions' word that it stands for
pub record KeepsBy (s : List ℕ) (at : ℕ) (word : Word) (k : Kept) (r : Option (Kept × ℕ)) : Type 0 where
  pub exact : (x : ScopeWord) → Plain x → Some word ≡ word_for x → r ≡ kept_filter k (filter_by x s at)
  pub within : FitsBehind s at r
