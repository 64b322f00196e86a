-- Keys in cells, and what the tests of a message against them say. Assumes nothing: these are definitions.
use Rattle.std.specs.Prelude.{◌≡◌, Bool, true, false, cond, ◌&&◌, ◌||◌, List, [], ◌∷◌, ◌++◌, ℕ, ◌+◌, ◌*◌, ◌≤◌, ◌<◌, min, max, eqb, leb, ltb, length, drop, get_or}
use Rattle.model.specs.Text.{bit}
use Rattle.model.specs.Requests.{Bound, number, star, Part, Test, Key, test, non, either, group, Keys, end, more}
use Rattle.model.specs.Limits.{parts_of}
use Rattle.model.specs.Searching.{Candidate, agrees, in_set, passes, holds, holds_all}
use Rattle.read_tests.specs.Table.{part_cells, test_code}
use Rattle.read_keys.specs.Table.{code, codes}
use Rattle.match_keys.specs.declared.Probe.{Probe}
use Rattle.match_keys.specs.declared.Facts.{Facts}
use Rattle.match_keys.specs.declared.Outcome.{Outcome}

abbrev pub candidate : Probe → Candidate
candidate p = record { message = p.message; number = p.number; last_number = p.lastnumber; last_uid = p.lastuid }

-- what keys ask of a probe
abbrev pub facts_of : Probe → Facts
facts_of p = record {
  flags = p.message.flags;
  size = p.message.size;
  uid = p.message.uid;
  lastuid = p.lastuid;
  number = p.number;
  lastnumber = p.lastnumber;
}

-- ---- no number of a set is 0, which stands for a star in the cells
abbrev pub ProperBound : Bound → Type 0
ProperBound (number n) = 0 < n
ProperBound star = Unit {0}

abbrev pub ProperParts : List Part → Type 0
ProperParts [] = Unit {0}
ProperParts (p ∷ ps) = (ProperBound p.from × ProperBound p.upto) × ProperParts ps

unfoldable mutual
  pub Proper : Key → Type 0
  Proper (test t) = ProperParts (parts_of t)
  Proper (non k) = Proper k
  Proper (either a b) = Proper a × Proper b
  Proper (group ks) = Propers ks

  pub Propers : Keys → Type 0
  Propers end = Unit {0}
  Propers (more k ks) = Proper k × Propers ks

-- ---- what the small functions answer
abbrev pub bound_by : ℕ → ℕ → ℕ
bound_by last x = cond (eqb x 0) last x

abbrev pub part_holds : ℕ → ℕ → ℕ → ℕ → Bool
part_holds a b last n = leb (min (bound_by last a) (bound_by last b)) n && leb n (max (bound_by last a) (bound_by last b))

-- one of the parts that these cells hold has the number
unfoldable pub set_by : ℕ → ℕ → List ℕ → Bool
set_by last n (a ∷ b ∷ l) = part_holds a b last n || set_by last n l
set_by last n l = false

-- a key of which the second cell counts: sets, and keys that hold keys
abbrev pub Counted : ℕ → Type 0
Counted kind = (4 < kind) × (kind ≡ 7 → ⊥)

abbrev pub counted_width : ℕ → ℕ → ℕ → ℕ
counted_width kind x left = cond (leb left x) left (cond (ltb kind 7) (2 + 2 * x) (2 + x))

-- ---- a key by its kind and the cells behind that: how many cells it has, and what a test of it says
abbrev pub width_of : ℕ → ℕ → ℕ → ℕ
width_of kind x left = cond (eqb kind 2) 3 (cond (eqb kind 3) 2 (cond (eqb kind 4) 2 (cond (ltb kind 5) 1 (cond (eqb kind 7) 1 (counted_width kind x left)))))

abbrev pub simple_of : ℕ → ℕ → ℕ → ℕ → ℕ → Bool
simple_of kind x y f z = cond (eqb kind 1) true (cond (eqb kind 2) (agrees (eqb y 1) (bit x f)) (cond (eqb kind 3) (ltb x z) (cond (eqb kind 4) (ltb z x) false)))

-- one of the keys holds
unfoldable pub holds_some : Keys → Candidate → Bool
holds_some end c = false
holds_some (more k ks) c = holds k c || holds_some ks c

abbrev pub folded : Bool → Keys → Candidate → Bool
folded any ks c = cond any (holds_some ks c) (holds_all ks c)

-- ---- contracts: for whichever set, test or keys are coded in the cells from `at` up to `stop`
abbrev pub TestsSet : List ℕ → ℕ → ℕ → ℕ → ℕ → Bool → Type 0
TestsSet cells at stop last n r = (ps : List Part) (rest : List ℕ) → drop at cells ≡ part_cells ps ++ rest → stop ≡ at + length (part_cells ps) → ProperParts ps → r ≡ in_set last n ps

abbrev pub TestsTest : List ℕ → ℕ → ℕ → Probe → Bool → Type 0
TestsTest cells at stop p r = (t : Test) (rest : List ℕ) → drop at cells ≡ test_code t ++ rest → stop ≡ at + length (test_code t) → ProperParts (parts_of t) → r ≡ passes t (candidate p)

abbrev pub TestsKey : List ℕ → ℕ → ℕ → Probe → Bool → Type 0
TestsKey cells at stop p r = (k : Key) (rest : List ℕ) → drop at cells ≡ code k ++ rest → stop ≡ at + length (code k) → Proper k → r ≡ holds k (candidate p)

abbrev pub TestsKeys : List ℕ → ℕ → ℕ → Bool → Probe → Bool → Type 0
TestsKeys cells at stop any p r = (ks : Keys) (rest : List ℕ) → drop at cells ≡ codes ks ++ rest → stop ≡ at + length (codes ks) → Propers ks → r ≡ folded any ks (candidate p)

-- the same of every probe with these facts
abbrev pub TestsKeysOn : List ℕ → ℕ → ℕ → Bool → Facts → Bool → Type 0
TestsKeysOn cells at stop any facts r = (p : Probe) → facts ≡ facts_of p → TestsKeys cells at stop any p r

abbrev pub TestsAll : List ℕ → Probe → Bool → Type 0
TestsAll cells p r = (ks : Keys) → cells ≡ codes ks → Propers ks → r ≡ holds_all ks (candidate p)

pub record Behind (cells : List ℕ) (at stop r : ℕ) : Type 0 where
  pub after : at < r
  pub inside : r ≤ stop
  pub exact : (k : Key) (rest : List ℕ) → drop at cells ≡ code k ++ rest → at + length (code k) ≤ stop → r ≡ at + length (code k)

-- a yes: the key at `at` holds keys, and is the last
abbrev pub LastNest : List ℕ → ℕ → ℕ → Bool → Type 0
LastNest cells at stop r = r ≡ true → (8 ≤ get_or cells at 0) × Behind cells at stop stop

pub record Answers (cells : List ℕ) (at stop : ℕ) (facts : Facts) (o : Outcome) : Type 0 where
  pub after : at < o.after
  pub exact : (k : Key) (rest : List ℕ) → drop at cells ≡ code k ++ rest → at + length (code k) ≤ stop → o.after ≡ at + length (code k)
  pub tests : (p : Probe) → facts ≡ facts_of p → TestsKey cells at o.after p o.holds
