-- A search as the code answers it. Assumes nothing: these are definitions.
use Rattle.std.specs.Prelude.{◌≡◌, Option, Some, None, Bool, List, ℕ, ◌*◌, ◌≤◌, length}
use Rattle.std.proofs.lemmas.List.Edits.{sets}
use Rattle.model.specs.Requests.{Keys, Search, Command, notify_none, notify_set, search}
use Rattle.model.specs.Limits.{keys_count, keys_depth, some_tests}
use Rattle.model.specs.Replies.{unsupported_test, unknown_charset}
use Rattle.model.specs.Reading.{Parsed, bad, ok}
use Rattle.model.specs.SearchGrammar.{search_at}
use Rattle.read_keys.specs.Table.{codes, parts_mosts}
use Rattle.read_options.specs.declared.Returns.{Returns}
use Rattle.read_search.specs.Sourced.{sources_of}
use Rattle.read_search.specs.declared.Sources.{Sources}
use Rattle.read_search.specs.declared.Asked.{Asked}

-- what is to be returned, of the search that was read
abbrev pub returns_for : Search → Returns
returns_for q = record { min = q.min; max = q.max; all = q.all; count = q.count }

-- what is asked, by what stands before the keys
abbrev pub asked_by : Sources → Returns → Bool → Keys → Asked
asked_by sources returns unknown ks =
    record {
      sources = sources;
      returns = returns;
      unknown = unknown;
      keys = keys_count ks;
      depth = keys_depth ks;
      unsupported = some_tests unsupported_test ks;
      parts = parts_mosts ks;
      used = length (codes ks);
    }

abbrev pub asked_of : Search → Asked
asked_of q = asked_by (sources_of q.sources) (returns_for q) (unknown_charset q.charset) q.keys

-- a search at its end; no other command stands behind ESEARCH
abbrev pub read_command : ℕ → Command → Option (Asked × ℕ)
read_command p notify_none = None
read_command p (notify_set status gs) = None
read_command p (search q) = Some (asked_of q, p)

abbrev pub read_search : Parsed Command → Option (Asked × ℕ)
read_search bad = None
read_search (ok p c) = read_command p c

-- the cells b became b': the keys stand in them from the first on, and a cell past the end is dropped
abbrev pub CellsOf : List ℕ → List ℕ → Command → Type 0
CellsOf b b' notify_none = Unit {0}
CellsOf b b' (notify_set status gs) = Unit {0}
CellsOf b b' (search q) = b' ≡ sets b 0 (codes q.keys)

abbrev pub Cells : List ℕ → List ℕ → Parsed Command → Type 0
Cells b b' bad = Unit {0}
Cells b b' (ok p c) = CellsOf b b' c

-- a search ends in the text, and its keys take at most four cells for each octet
pub record Bounded (s : List ℕ) (p : ℕ) (a : Asked) : Type 0 where
  pub inside : p ≤ length s
  pub short : a.used ≤ 4 * length s

abbrev pub Within : List ℕ → Option (Asked × ℕ) → Type 0
Within s (Some (a, p)) = Bounded s p a
Within s None = Unit {0}

-- r is the search at a position, with its keys in the cells
pub record ReadsSearch (s : List ℕ) (at : ℕ) (b b' : List ℕ) (r : Option (Asked × ℕ)) : Type 0 where
  pub exact : r ≡ read_search (search_at s at)
  pub cells : Cells b b' (search_at s at)
  pub within : Within s r
