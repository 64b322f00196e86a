-- How a key begins: what the readers answer, and what they write. Assumes nothing: these are definitions.
use Rattle.std.specs.Prelude.{◌≡◌, Option, Some, None, false, List, [], ◌∷◌, ℕ, ◌+◌, ◌-◌, ◌*◌, ◌≤◌, ◌<◌, length}
use Rattle.std.proofs.lemmas.List.Edits.{sets}
use Rattle.model.specs.Requests.{Part, Test}
use Rattle.model.specs.Limits.{parts_of}
use Rattle.model.specs.Replies.{unsupported_test}
use Rattle.model.specs.Reading.{Parsed, bad, ok, after, number_at, number_set_at}
use Rattle.model.specs.SearchGrammar.{Start as Shape, single, negation, alternation, opening, wrong, start_by, start_at}
use Rattle.read_tests.specs.Table.{test_code, set_code}
use Rattle.read_words.specs.Words.{named}
use Rattle.read_words.specs.declared.Word.{Word}
use Rattle.read_tests.specs.declared.Start.{Start}
use Rattle.read_tests.specs.declared.Start.TheVariants.{One, Negation, Alternation, Opening}

-- the text is of 32 bits, and the cells are not numbered beyond four to each octet that was passed
pub record Room (s : List ℕ) (at n : ℕ) : Type 0 where
  pub short : length s < 4294967296
  pub room : n + 4 * (length s - at) ≤ 4 * length s

-- a key that holds no key, written from cell n on
abbrev pub one_at : ℕ → ℕ → Test → Start
one_at n p t = One p (n + length (test_code t)) (unsupported_test t) (length (parts_of t))

-- the answer by how a key begins, and the cells b that became b'; a cell past the end is dropped
abbrev pub Begun : Option Start → List ℕ → List ℕ → ℕ → Shape → Type 0
Begun r b b' n (single p t) = (r ≡ Some (one_at n p t)) × (b' ≡ sets b n (test_code t))
Begun r b b' n (negation p) = (r ≡ Some (Negation p)) × (b' ≡ b)
Begun r b b' n (alternation p) = (r ≡ Some (Alternation p)) × (b' ≡ b)
Begun r b b' n (opening p) = (r ≡ Some (Opening p)) × (b' ≡ b)
Begun r b b' n wrong = r ≡ None

-- the same for a size, and for a set
abbrev pub PutSize : ℕ → Option Start → List ℕ → List ℕ → ℕ → Parsed ℕ → Type 0
PutSize kind r b b' n bad = r ≡ None
PutSize kind r b b' n (ok p v) = (r ≡ Some (One p (n + 2) false 0)) × (b' ≡ sets b n (kind ∷ v ∷ []))

abbrev pub PutSet : ℕ → Option Start → List ℕ → List ℕ → ℕ → Parsed (List Part) → Type 0
PutSet kind r b b' n bad = r ≡ None
PutSet kind r b b' n (ok p l) = (r ≡ Some (One p (n + length (set_code kind l)) false (length l))) × (b' ≡ sets b n (set_code kind l))

-- what is read ends in the text, not before `at`, and takes at most four cells for each octet from there on, and four
abbrev pub Inside : List ℕ → ℕ → ℕ → Option Start → Type 0
Inside s at n (Some (One p u x k)) = ((at ≤ p) × (p ≤ length s)) × (n ≤ u) × (u + 4 * at ≤ n + 4 + 4 * p)
Inside s at n (Some (Negation p)) = (at ≤ p) × (p ≤ length s)
Inside s at n (Some (Alternation p)) = (at ≤ p) × (p ≤ length s)
Inside s at n (Some (Opening p)) = (at ≤ p) × (p ≤ length s)
Inside s at n None = Unit {0}

pub record PutsSize (kind : ℕ) (s : List ℕ) (at : ℕ) (b b' : List ℕ) (n : ℕ) (r : Option Start) : Type 0 where
  pub within : Inside s at n r
  pub exact : PutSize kind r b b' n (after s at " " λ q. number_at s q)

pub record PutsSet (kind : ℕ) (s : List ℕ) (at : ℕ) (b b' : List ℕ) (n : ℕ) (r : Option Start) : Type 0 where
  pub within : Inside s (at + 1) n r
  pub exact : PutSet kind r b b' n (number_set_at s at)

pub record BeginsBy (s : List ℕ) (at : ℕ) (w : Word) (b b' : List ℕ) (n : ℕ) (r : Option Start) : Type 0 where
  pub within : Inside s at n r
  pub exact : Begun r b b' n (start_by (named w) s at)

pub record Begins (s : List ℕ) (at : ℕ) (b b' : List ℕ) (n : ℕ) (r : Option Start) : Type 0 where
  pub within : Inside s (at + 1) n r
  pub exact : Begun r b b' n (start_at s at)
