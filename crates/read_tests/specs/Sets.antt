-- What the readers of sets answer, and what they write. Assumes nothing: these are definitions.
use Rattle.std.specs.Prelude.{◌≡◌, Option, Some, None, cond, List, ℕ, ◌+◌, ◌-◌, ◌*◌, ◌≤◌, ◌<◌, length, take}
use Rattle.std.proofs.lemmas.List.Edits.{sets}
use Rattle.model.specs.Requests.{Bound, Part}
use Rattle.model.specs.Reading.{Parsed, bad, ok, stands, Next, another, over, row_at, part_at}
use Rattle.read_tests.specs.Table.{bound_number, part_cells}
use Rattle.read_tests.specs.declared.sets.PartRead.{PartRead}

abbrev pub read_bound : Parsed Bound → Option (ℕ × ℕ)
read_bound bad = None
read_bound (ok p b) = Some (bound_number b, p)

abbrev pub read_part : Parsed Part → Option PartRead
read_part bad = None
read_part (ok p x) = Some (record { from = bound_number x.from; upto = bound_number x.upto; next = p })

abbrev pub PartIn : List ℕ → ℕ → Option PartRead → Type 0
PartIn s at (Some x) = (at < x.next) × (x.next ≤ length s)
PartIn s at None = Unit {0}

pub record ReadsPart (s : List ℕ) (at : ℕ) (r : Option PartRead) : Type 0 where
  pub exact : r ≡ read_part (part_at s at)
  pub within : PartIn s at r

-- what follows a part: another one behind a comma, or the set is over
abbrev pub comma_at : List ℕ → ℕ → Next
comma_at s q = cond (stands s q ",") (another (q + 1)) (over q)

-- the cells b became b': the parts' numbers from n on, and those behind the last cell are dropped; where no set stands, those before n are as they were
abbrev pub WroteSet : Option (ℕ × ℕ) → List ℕ → List ℕ → ℕ → Parsed (List Part) → Type 0
WroteSet r b b' n bad = (r ≡ None) × (take n b' ≡ take n b)
WroteSet r b b' n (ok p l) = (r ≡ Some (length l, p)) × (b' ≡ sets b n (part_cells l))

-- it ends in the text, and has no more parts than octets
abbrev pub SetIn : List ℕ → ℕ → Option (ℕ × ℕ) → Type 0
SetIn s at (Some (k, p)) = (at < p) × (p ≤ length s) × (k + at ≤ p)
SetIn s at None = Unit {0}

-- the text is of 32 bits, and the cells are not numbered beyond four to each octet that was passed, and two
pub record SetRoom (s : List ℕ) (at n : ℕ) : Type 0 where
  pub short : length s < 4294967296
  pub room : n + 4 * (length s - at) ≤ 4 * length s + 2

pub record WritesSet (s : List ℕ) (at : ℕ) (b b' : List ℕ) (n : ℕ) (r : Option (ℕ × ℕ)) : Type 0 where
  pub within : SetIn s at r
  pub exact : (m : ℕ) → length s - at ≤ m → WroteSet r b b' n (row_at m (part_at s) (comma_at s) at)
