-- Keys that hold no key as numbers in a table: what the readers write. Assumes nothing: these are definitions.
use Rattle.std.specs.Prelude.{Bool, true, false, List, [], ◌∷◌, ℕ, length}
use Rattle.model.specs.Requests.{Bound, number, star, Part, Test, all, unsupported, flagged, larger, smaller, uids, numbers}

-- a star is 0, which no number of a set is
abbrev pub bound_number : Bound → ℕ
bound_number (number n) = n
bound_number star = 0

-- the parts of a set, two numbers each
abbrev pub part_cells : List Part → List ℕ
part_cells [] = []
part_cells (p ∷ ps) = bound_number p.from ∷ bound_number p.upto ∷ part_cells ps

-- a set by its kind, how many parts it has, and these
abbrev pub set_code : ℕ → List Part → List ℕ
set_code kind ps = kind ∷ length ps ∷ part_cells ps

abbrev pub flag_number : Bool → ℕ
flag_number true = 1
flag_number false = 0

abbrev pub test_code : Test → List ℕ
test_code all = 1 ∷ []
test_code (flagged k on) = 2 ∷ k ∷ flag_number on ∷ []
test_code (larger n) = 3 ∷ n ∷ []
test_code (smaller n) = 4 ∷ n ∷ []
test_code (uids ps) = set_code 5 ps
test_code (numbers ps) = set_code 6 ps
test_code unsupported = 7 ∷ []
