-- An element is taken out of a list by moving the later ones down, one store a turn: `over w l j` is l with its first j elements
-- replaced by those of w, and w is `without i l`. Assumes nothing.
use Rattle.std.specs.Prelude.{◌≡◌, ℕ, suc, ◌+◌, ◌-◌, ◌<◌, ◌≤◌}
use Rattle.std.proofs.Math.Path.{ap, sym}
use Rattle.std.proofs.Common.{◌∙◌, add-one, drop-cons, take-suc, take_at}
use mathlib.Core.List.{List, ◌++◌}
use native.Mathlib.Omega.{arith}
use Rattle.std.proofs.Math.ListN.{length, take, drop, get_or, set, length-append, length-drop, take-append-drop}
use Rattle.std.proofs.Math.Seq.{set_at, append_snoc, length-take-le, get_or-append-add, get_or-drop}

module _ {A : Type 0} where
  abbrev pub without : ℕ → List A → List A
  without i l = take i l ++ drop (suc i) l

  -- l, with its first j elements replaced by those of w
  unfoldable pub over : List A → List A → ℕ → List A
  over w l j = take j w ++ drop j l

  pub over-length : (w l : List A) (j : ℕ) → j ≤ length w → j ≤ length l → length (over w l j) ≡ length l
  unfolding over
  over-length w l j hw hl =
      let e = length-append (take j w) (drop j l) in
      let f = length-take-le j w hw in
      let g = length-drop j l in
      omega arith

  pub over-step : (w l : List A) (j : ℕ) (d : A) → j < length w → j < length l → set (over w l j) j (get_or w j d) ≡ over w l (j + 1)
  unfolding over
  over-step w l j d hw hl =
      let hw' : j ≤ length w = omega arith in
      ap (λ (r : List A). set (take j w ++ r) j (get_or w j d)) (drop-cons l j d hl)
      ∙ set_at (take j w) (get_or l j d) (drop (suc j) l) (get_or w j d) j (length-take-le j w hw')
      ∙ sym (append_snoc (take j w) (get_or w j d) (drop (suc j) l))
      ∙ ap (λ (r : List A). r ++ drop (suc j) l) (sym (take-suc w j d hw))
      ∙ ap (λ (n : ℕ). take n w ++ drop n l) (sym (add-one j))

  -- what stands after the first j is l's
  pub over_read : (w l : List A) (j k : ℕ) (d : A) → j ≤ length w → get_or (over w l j) (j + k) d ≡ get_or l (j + k) d
  unfolding over
  over_read w l j k d hw =
      ap (λ (n : ℕ). get_or (take j w ++ drop j l) (n + k) d) (sym (length-take-le j w hw))
      ∙ get_or-append-add (take j w) (drop j l) k d
      ∙ get_or-drop j l k d

  pub length_without : (i : ℕ) (l : List A) → i < length l → length (without i l) + 1 ≡ length l
  length_without i l h =
      let e = length-append (take i l) (drop (suc i) l) in
      let h' : i ≤ length l = omega arith in
      let f = length-take-le i l h' in
      let g = length-drop (suc i) l in
      omega arith

  -- from i on, what is left is one further in l
  pub get_d-without : (i : ℕ) (l : List A) (j : ℕ) (d : A) → i ≤ j → i < length l → get_or (without i l) j d ≡ get_or l (j + 1) d
  get_d-without i l j d h hl =
      let h' : i ≤ length l = omega arith in
      let f = length-take-le i l h' in
      let e : j ≡ length (take i l) + (j - i) = omega arith in
      let g : suc i + (j - i) ≡ j + 1 = omega arith in
      ap (λ (n : ℕ). get_or (without i l) n d) e
      ∙ get_or-append-add (take i l) (drop (suc i) l) (j - i) d
      ∙ get_or-drop (suc i) l (j - i) d
      ∙ ap (λ (n : ℕ). get_or l n d) g

  -- nothing has been moved
  pub over_start : (i : ℕ) (l : List A) → i ≤ length l → l ≡ over (without i l) l i
  unfolding over
  over_start i l h = sym (ap (λ (r : List A). r ++ drop i l) (take_at (take i l) (drop (suc i) l) i (length-take-le i l h)) ∙ take-append-drop i l)

  -- a turn: the element after j is moved to j
  pub shift-step : (i : ℕ) (l : List A) (j : ℕ) (d : A) → i ≤ j → j + 1 < length l
      → set (over (without i l) l j) j (get_or (over (without i l) l j) (j + 1) d) ≡ over (without i l) l (j + 1)
  shift-step i l j d h hl =
      let hi : i < length l = omega arith in
      let lw = length_without i l hi in
      let hw : j ≤ length (without i l) = omega arith in
      ap (λ (a : A). set (over (without i l) l j) j a) (over_read (without i l) l j 1 d hw ∙ sym (get_d-without i l j d h hi))
      ∙ over-step (without i l) l j d (omega arith) (omega arith)
