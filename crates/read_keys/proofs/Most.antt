-- The most parts of a set, against a limit: more than l parts are the most where a set has more than l parts. Assumes nothing.
use mathlib.Core.Path.{◌≡◌, refl, ◌∙◌}
use mathlib.Core.Bool.{Bool, true, false, ◌||◌}
use Prim.Native.Nat.{ℕ, max}
use native.Mathlib.Omega.{arith}
use lib.Dec.{ltb}
use lib.ListN.{length}
use borrow.Author.Tests.{ltb-true, ltb-false, lt-ltb, le-ltb}
use Rattle.model.specs.Requests.{Test, Key, test, non, either, group, Keys, end, more}
use Rattle.model.specs.declared.Limits.{Limits}
use Rattle.model.specs.Limits.{parts_of, some_test, some_tests, too_many_parts}
use Rattle.read_keys.specs.Table.{parts_most, parts_mosts}

-- a limit and the larger of two numbers
ltb-max : (l a b : ℕ) → ltb l (max a b) ≡ (ltb l a || ltb l b)
ltb-max l a b = go (ltb l a) (ltb l b) refl refl
  where
    go : (x y : Bool) → ltb l a ≡ x → ltb l b ≡ y → ltb l (max a b) ≡ (x || y)
    go true y e f = let h = ltb-true l a e in lt-ltb l (max a b) (omega arith)
    go false true e f = let h = ltb-true l b f in lt-ltb l (max a b) (omega arith)
    go false false e f = let h = ltb-false l a e in let g = ltb-false l b f in le-ltb l (max a b) (omega arith)

mutual
  unfolding parts_most some_test

  pub most_key : (l : ℕ) (k : Key) → ltb l (parts_most k) ≡ some_test (λ (t : Test). ltb l (length (parts_of t))) k
  most_key l (test t) = refl
  most_key l (non k) = most_key l k
  most_key l (either a b) = ltb-max l (parts_most a) (parts_most b) ∙ rw (most_key l a, most_key l b)
  most_key l (group ks) = most-keys l ks

  pub most-keys : (l : ℕ) (ks : Keys) → ltb l (parts_mosts ks) ≡ some_tests (λ (t : Test). ltb l (length (parts_of t))) ks
  most-keys l end = le-ltb l 0 (omega arith)
  most-keys l (more k ks) = ltb-max l (parts_most k) (parts_mosts ks) ∙ rw (most_key l k, most-keys l ks)

-- by the limits of a command
pub most_parts : (l : Limits) (ks : Keys) → ltb l.parts (parts_mosts ks) ≡ some_tests (too_many_parts l) ks
most_parts l ks = most-keys l.parts ks
