-- Keys as numbers in a table, the outer key before those in it: what the readers write. Assumes nothing: these are definitions.
use Rattle.std.specs.Prelude.{List, [], ◌∷◌, ◌++◌, ℕ, max, length}
use Rattle.model.specs.Requests.{Key, test, non, either, group, Keys, end, more}
use Rattle.model.specs.Limits.{parts_of}
use Rattle.read_tests.specs.Table.{test_code}

-- a key that holds keys says how many numbers these are, so that they can be passed over
unfoldable mutual
  pub code : Key → List ℕ
  code (test t) = test_code t
  code (non k) = 8 ∷ length (code k) ∷ code k
  code (either a b) = 9 ∷ length (code a ++ code b) ∷ (code a ++ code b)
  code (group ks) = 10 ∷ length (codes ks) ∷ codes ks

  pub codes : Keys → List ℕ
  codes end = []
  codes (more k ks) = code k ++ codes ks

-- the most parts that a set among the keys has
unfoldable mutual
  pub parts_most : Key → ℕ
  parts_most (test t) = length (parts_of t)
  parts_most (non k) = parts_most k
  parts_most (either a b) = max (parts_most a) (parts_most b)
  parts_most (group ks) = parts_mosts ks

  pub parts_mosts : Keys → ℕ
  parts_mosts end = 0
  parts_mosts (more k ks) = max (parts_most k) (parts_mosts ks)
