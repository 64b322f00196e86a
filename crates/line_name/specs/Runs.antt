-- Whether all octets of a text are of a class, by where its first run of that class ends. Assumes nothing.
use Rattle.std.specs.Prelude.{◌≡◌, Bool, ◌&&◌}
use Rattle.std.proofs.Math.Path.{refl}
use Rattle.std.proofs.Math.Bool.{true, false, cond}
use mathlib.Core.List.{List, [], ◌∷◌}
use Prim.Native.Nat.{ℕ, suc, ◌≤◌, ◌<◌}
use Rattle.std.proofs.Common.{arith}
use Rattle.std.proofs.Math.ListN.{length}
use Rattle.model.specs.Lists.{allb}
use Rattle.model.specs.Reading.{run_length, end_of}

module _ (class : ℕ → Bool) where
  short : (s : List ℕ) → run_length class s < length s → allb class s ≡ false
  unfolding run_length
  short [] h = absurd (omega arith)
  short (b ∷ s) h = go (class b) h (short s)
    where
      go : (c : Bool) → cond c (suc (run_length class s)) 0 < suc (length s) → (run_length class s < length s → allb class s ≡ false) → c && allb class s ≡ false
      go true h rest = rest (omega arith)
      go false h rest = refl

  whole : (s : List ℕ) → length s ≤ run_length class s → allb class s ≡ true
  unfolding run_length
  whole [] h = refl
  whole (b ∷ s) h = go (class b) h (whole s)
    where
      go : (c : Bool) → suc (length s) ≤ cond c (suc (run_length class s)) 0 → (length s ≤ run_length class s → allb class s ≡ true) → c && allb class s ≡ true
      go true h rest = rest (omega arith)
      go false h rest = absurd (omega arith)

  -- it ends before the text does, or with it
  pub run_short : (s : List ℕ) (r : ℕ) → r ≡ end_of class s 0 → r < length s → allb class s ≡ false
  run_short s r e h = short s (omega arith)

  pub run_whole : (s : List ℕ) (r : ℕ) → r ≡ end_of class s 0 → length s ≤ r → allb class s ≡ true
  run_whole s r e h = whole s (omega arith)
