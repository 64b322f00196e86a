-- A stream is cut by its length fields, a record at a time (01, Examples, 10). Assumes nothing.
use Rattle.std.specs.Prelude.{◌≡◌, refl, Bool, true, false, cond, ◌&&◌, List, [], ◌∷◌, ◌++◌, ℕ, zero, suc, ◌+◌, ◌<◌, ◌≤◌, leb, length, take, drop}
use Rattle.std.proofs.Common.{ap, ap₂, sym, ◌∙◌, append_assoc, arith, length-drop, drop-drop}
use Rattle.std.proofs.Math.Seq.{take-length, drop-length}
use borrow.Author.Tests.{le-leb, lt-leb, leb-true}
use Rattle.model.specs.Laws.{and_r}
use Rattle.model.specs.Text.{little}
use Rattle.model.specs.Memory.{Memory, held, filled}
use Rattle.model.specs.Queue.{dequeue}
use Rattle.model.specs.Answers.{number_of}
use Rattle.model.specs.Call.{call}
use Rattle.model.specs.Pushrun.{cut, records_of, refusal_text, printed}
use Rattle.octets.specs.Widths.{Weighs}

-- how long a record is by its length field, and how long the first record of a stream is: all that is left, where it is torn
abbrev pub field_size : List ℕ → ℕ
field_size s = 4 + little 2 (drop 2 s)

abbrev pub is_entire : List ℕ → Bool
is_entire s = leb 4 (length s) && leb (field_size s) (length s)

unfoldable pub first_size : List ℕ → ℕ
first_size s = cond (is_entire s) (field_size s) (length s)

-- ---- how the code tells
module _ (s : List ℕ) where
  pub size_short : length s < 4 → length s ≡ first_size s
  unfolding first_size
  size_short h = rw (lt-leb 4 (length s) h)

  pub size-torn : 4 ≤ length s → length s < field_size s → length s ≡ first_size s
  unfolding first_size
  size-torn h k = rw (le-leb 4 (length s) h, lt-leb (field_size s) (length s) k)

  pub size_entire : 4 ≤ length s → field_size s ≤ length s → field_size s ≡ first_size s
  unfolding first_size
  size_entire h k = rw (le-leb 4 (length s) h, le-leb (field_size s) (length s) k)

-- the length field of what stands from a place on
pub field_at : (s : List ℕ) (at : ℕ) {r : ℕ} → Weighs s (at + 2) 2 r → 4 + r ≡ field_size (drop at s)
field_at s at w = ap (λ (n : ℕ). 4 + n) (w.exact ∙ ap (little 2) (sym (drop-drop 2 at s)))

-- ---- a record more
-- fuel beyond the length changes nothing
cut-more : (n k : ℕ) (s : List ℕ) → length s ≤ n → length s ≤ k → cut n s ≡ cut k s
unfolding cut
cut-more zero zero s h l = refl
cut-more zero (suc k) [] h l = refl
cut-more zero (suc k) (x ∷ s) h l = absurd (let z : ⊥ = omega arith in z)
cut-more (suc n) zero [] h l = refl
cut-more (suc n) zero (x ∷ s) h l = absurd (let z : ⊥ = omega arith in z)
cut-more (suc n) (suc k) [] h l = refl
cut-more (suc n) (suc k) (x ∷ s) h l =
    let d = length-drop (field_size (x ∷ s)) (x ∷ s) in
    ap (λ (r : List (List ℕ)). cond (is_entire (x ∷ s)) (take (field_size (x ∷ s)) (x ∷ s) ∷ r) ((x ∷ s) ∷ []))
    (cut-more n k (drop (field_size (x ∷ s)) (x ∷ s)) (omega arith) (omega arith))

first_by : (b : Bool) (x : ℕ) (s : List ℕ)
    → cond b (take (field_size (x ∷ s)) (x ∷ s) ∷ cut (length s) (drop (field_size (x ∷ s)) (x ∷ s))) ((x ∷ s) ∷ [])
    ≡ take (cond b (field_size (x ∷ s)) (length (x ∷ s))) (x ∷ s) ∷ records_of (drop (cond b (field_size (x ∷ s)) (length (x ∷ s))) (x ∷ s))
unfolding cut
first_by true x s =
    let d = length-drop (field_size (x ∷ s)) (x ∷ s) in
    ap (λ (r : List (List ℕ)). take (field_size (x ∷ s)) (x ∷ s) ∷ r) (cut-more (length s) (length (drop (field_size (x ∷ s)) (x ∷ s))) (drop (field_size (x ∷ s)) (x ∷ s)) (omega arith) (omega arith))
first_by false x s = ap₂ (λ (o : List ℕ) (r : List ℕ). o ∷ records_of r) (sym (take-length (x ∷ s))) (sym (drop-length (x ∷ s)))

-- the first record, and those of the rest
pub records_first : (s : List ℕ) → 0 < length s → records_of s ≡ take (first_size s) s ∷ records_of (drop (first_size s) s)
unfolding cut first_size
records_first [] h = absurd (let z : ⊥ = omega arith in z)
records_first (x ∷ s) h = first_by (is_entire (x ∷ s)) x s

-- its length
record Sized (s : List ℕ) : Type 0 where
  some : 0 < first_size s
  within : first_size s ≤ length s

sized : (s : List ℕ) → 0 < length s → Sized s
unfolding first_size
sized s h = go (is_entire s) refl
  where
    go : (b : Bool) → is_entire s ≡ b → Sized s
    go true e = let z = leb-true (field_size s) (length s) (and_r (leb 4 (length s)) (leb (field_size s) (length s)) e) in record { some = rw e (omega arith); within = rw e z }
    go false e = record { some = rw e h; within = rw e (omega arith) }

-- the record from `at` on is r octets long
pub record Cuts (s : List ℕ) (at r : ℕ) : Type 0 where
  pub is : r ≡ first_size (drop at s)
  pub some : 0 < r
  pub within : at + r ≤ length s

pub cuts : (s : List ℕ) (at r : ℕ) → at < length s → r ≡ first_size (drop at s) → Cuts s at r
cuts s at r h e =
    let l = length-drop at s in
    let z = sized (drop at s) (omega arith) in
    let a = z.some in
    let b = z.within in
    record { is = e; some = omega arith; within = omega arith }

-- ---- what is printed for it
abbrev pub shown : Memory → List ℕ → List ℕ
shown m o = refusal_text (number_of (call m o).answer) ++ held (call m o).after

abbrev pub emptied : Memory → Memory
emptied m = dequeue m (filled m)

printed_one : (m : Memory) (o : List ℕ) (os : List (List ℕ)) → printed m (o ∷ os) ≡ shown m o ++ printed (emptied (call m o).after) os
unfolding printed
printed_one m o os = sym (append_assoc (refusal_text (number_of (call m o).answer)) (held (call m o).after) (printed (emptied (call m o).after) os))

pub printed_first : (m : Memory) (s : List ℕ) → 0 < length s
    → printed m (records_of s) ≡ shown m (take (first_size s) s) ++ printed (emptied (call m (take (first_size s) s)).after) (records_of (drop (first_size s) s))
printed_first m s h = ap (printed m) (records_first s h) ∙ printed_one m (take (first_size s) s) (records_of (drop (first_size s) s))

-- nothing is left
pub printed_none : (m : Memory) (s : List ℕ) → length s ≤ 0 → [] ≡ printed m (records_of s)
unfolding printed cut
printed_none m [] h = refl
printed_none m (x ∷ s) h = absurd (let z : ⊥ = omega arith in z)
