-- Keys: what the readers answer, and what they write. Assumes nothing: these are definitions.
use Rattle.std.specs.Prelude.{◌≡◌, Option, Some, None, ◌||◌, List, [], ◌∷◌, ℕ, ◌+◌, ◌-◌, ◌*◌, ◌≤◌, ◌<◌, max, length}
use Rattle.std.proofs.lemmas.List.Edits.{sets}
use Rattle.model.specs.Requests.{Key, Keys}
use Rattle.model.specs.Limits.{key_count, keys_count, key_depth, keys_depth, some_test, some_tests}
use Rattle.model.specs.Replies.{unsupported_test}
use Rattle.model.specs.Reading.{Parsed, bad, ok, Next, another, over, neither, Ending as Way, closing, line_end}
use Rattle.model.specs.SearchGrammar.{key_at, keys_at, program_at}
use Rattle.read_keys.specs.Table.{code, codes, parts_most, parts_mosts}
use Rattle.read_keys.specs.declared.Keys.{Keys as Read}
use Rattle.read_keys.specs.declared.Ending.{Ending}
use Rattle.read_keys.specs.declared.Ending.TheVariants.{Closing, LineEnd}

-- ---- what ends keys

abbrev pub ending_of : Ending → Way
ending_of Closing = closing
ending_of LineEnd = line_end

-- the position behind it
abbrev pub over_of : Next → Option ℕ
over_of (another p) = None
over_of (over p) = Some p
over_of neither = None

abbrev pub EndsIn : List ℕ → ℕ → Option ℕ → Type 0
EndsIn s at (Some p) = (at ≤ p) × (p ≤ length s)
EndsIn s at None = Unit {0}

pub record Ends (s : List ℕ) (at : ℕ) (x : Next) (r : Option ℕ) : Type 0 where
  pub exact : r ≡ over_of x
  pub within : EndsIn s at r

-- ---- what a reading comes to

-- its counts have room for more
abbrev pub Small : Read → Type 0
Small r = r.keys < 1099511627776

-- two readings, the second behind the first
abbrev pub join : Read → Read → Read
join a b = record {
  next = b.next;
  used = b.used;
  keys = a.keys + b.keys;
  depth = max a.depth b.depth;
  unsupported = a.unsupported || b.unsupported;
  parts = max a.parts b.parts;
}

-- a key that holds what was read from cell n + 2 on
pub record Closable (n deeper : ℕ) (r : Read) : Type 0 where
  pub low : n < 549755813888
  pub from : n + 2 ≤ r.used
  pub few : r.keys < 2199023255552
  pub flat : deeper + r.depth < 1099511627776

pub record Closed (kind deeper n : ℕ) (r : Read) (b b' : List ℕ) (q : Read) : Type 0 where
  pub answer : q ≡ record r { keys = 1 + r.keys; depth = deeper + r.depth }
  pub cells : b' ≡ sets b n (kind ∷ (r.used - (n + 2)) ∷ [])

-- ---- the readers

-- the answer for keys written from cell n on
abbrev pub key_found : ℕ → ℕ → Key → Read
key_found n p k = record {
  next = p;
  used = n + length (code k);
  keys = key_count k;
  depth = key_depth k;
  unsupported = some_test unsupported_test k;
  parts = parts_most k;
}

abbrev pub found_keys : ℕ → ℕ → Keys → Read
found_keys n p ks = record {
  next = p;
  used = n + length (codes ks);
  keys = keys_count ks;
  depth = keys_depth ks;
  unsupported = some_tests unsupported_test ks;
  parts = parts_mosts ks;
}

-- the cells b became b'; a cell past the end is dropped
abbrev pub WroteKey : Option Read → List ℕ → List ℕ → ℕ → Parsed Key → Type 0
WroteKey r b b' n bad = r ≡ None
WroteKey r b b' n (ok p k) = (r ≡ Some (key_found n p k)) × (b' ≡ sets b n (code k))

abbrev pub WroteKeys : Option Read → List ℕ → List ℕ → ℕ → Parsed Keys → Type 0
WroteKeys r b b' n bad = r ≡ None
WroteKeys r b b' n (ok p ks) = (r ≡ Some (found_keys n p ks)) × (b' ≡ sets b n (codes ks))

-- what was read ends in the text, has no more keys nor levels than octets, and at most four cells for each
pub record Bounded (s : List ℕ) (at n : ℕ) (r : Read) : Type 0 where
  pub after : at < r.next
  pub inside : r.next ≤ length s
  pub few : r.keys + at ≤ r.next
  pub flat : r.depth + at ≤ r.next
  pub from : n ≤ r.used
  pub short : r.used + 4 * at ≤ n + 4 * r.next

abbrev pub Within : List ℕ → ℕ → ℕ → Option Read → Type 0
Within s at n (Some r) = Bounded s at n r
Within s at n None = Unit {0}

-- for every number of steps that is enough: two for each octet that is left
pub record WritesKey (s : List ℕ) (at : ℕ) (b b' : List ℕ) (n : ℕ) (r : Option Read) : Type 0 where
  pub within : Within s at n r
  pub exact : (m : ℕ) → 2 * (length s - at) ≤ m → WroteKey r b b' n (key_at m s at)

pub record WritesKeys (s : List ℕ) (at : ℕ) (b b' : List ℕ) (n : ℕ) (e : Ending) (r : Option Read) : Type 0 where
  pub within : Within s at n r
  pub exact : (m : ℕ) → 2 * (length s - at) < m → WroteKeys r b b' n (keys_at m (ending_of e) s at)

pub record WritesProgram (s : List ℕ) (at : ℕ) (b b' : List ℕ) (r : Option Read) : Type 0 where
  pub within : Within s at 0 r
  pub exact : WroteKeys r b b' 0 (program_at s at)
