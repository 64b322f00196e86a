-- Runs of a class, one octet at a time. Assumes nothing.
use mathlib.Core.Path.{◌≡◌}
use mathlib.Core.List.{List}
use mathlib.Core.Bool.{Bool, true, false}
use Prim.Native.Nat.{ℕ, ◌+◌, ◌≤◌, ◌<◌}
use native.Mathlib.Numerals.{add-one}
use native.Mathlib.Omega.{arith}
use lib.ListN.{length, get_or, drop_of_length-le}
use lib.Seq.{drop-cons}
use Rattle.model.specs.Reading.{run_length, end_of}

module _ (class : ℕ → Bool) (s : List ℕ) (p : ℕ) where
  -- behind the text
  pub run_past : length s ≤ p → end_of class s p ≡ p
  unfolding run_length
  run_past h = rw (drop_of_length-le s h) (omega arith)

  -- an octet of another class
  pub run-stops : p < length s → class (get_or s p 0) ≡ false → end_of class s p ≡ p
  unfolding run_length
  run-stops h e = rw (drop-cons s p 0 h, e) (omega arith)

  -- an octet of the class
  pub run-goes : p < length s → class (get_or s p 0) ≡ true → end_of class s p ≡ end_of class s (p + 1)
  unfolding run_length
  run-goes h e = rw (drop-cons s p 0 h, e, add-one p) (omega arith)
