-- A line that is written where it leaves the last 64 octets free, or else the overflow line (01, What is written, 22). Assumes nothing.
use Rattle.std.specs.Prelude.{◌≡◌, Bool, true, false, cond, List, ℕ, ◌+◌, ◌-◌, ◌<◌, ◌≤◌, leb, length}
use Rattle.std.proofs.Common.{ap, sym, ◌∙◌, arith, le-leb}
use Rattle.std.proofs.lemmas.Bool.{lt-leb}
use Rattle.model.specs.Lines.{overflow, render}
use Rattle.model.specs.Queue.{written}
use Rattle.line_put.specs.Put.{Put}

-- a text, if it fits below the last 64 octets, else the overflow line
abbrev pub has_room : List ℕ → ℕ → List ℕ → Bool
has_room q at t = leb (at + length t) (length q - 64)

abbrev pub spoken : List ℕ → ℕ → List ℕ → List ℕ
spoken q at t = cond (has_room q at t) t (render overflow)

-- what was said
pub record Says (q : List ℕ) (at : ℕ) (t : List ℕ) (q' : List ℕ) (fits : Bool) (end : ℕ) : Type 0 where
  pub room : fits ≡ has_room q at t
  pub is : q' ≡ written q at (spoken q at t)
  pub ends : end ≡ at + length (spoken q at t)
  pub within : end ≤ length q

-- measured with limit 0 first: it fits, and is written
pub says-fits : {q q₁ q₂ t : List ℕ} {at lim end e : ℕ} → Put q at 0 t q₁ end → Put q₁ at lim t q₂ e → lim ≡ length q - 64 → end ≤ lim → Says q at t q₂ true e
says-fits {q} {q₁} {q₂} {t} {at} {lim} {end} {e} a b l h =
    let n = a.next in
    let k = b.next in
    let r : has_room q at t ≡ true = le-leb (at + length t) (length q - 64) (omega arith) in
    record {
      room = sym r;
      is = b.done (omega arith) ∙ (ap (λ (x : List ℕ). written x at t) (a.kept (omega arith)) ∙ rw r);
      ends = k ∙ rw r;
      within = omega arith;
    }

-- it does not, and the overflow line is written in its place
pub says_over : {q q₁ q₂ t : List ℕ} {at lim end e : ℕ} → Put q at 0 t q₁ end → Put q₁ at lim (render overflow) q₂ e → lim ≡ length q → length q - 64 < end → 64 ≤ length q
    → at ≤ length q - 64 → Says q at t q₂ false e
unfolding render
says_over {q} {q₁} {q₂} {t} {at} {lim} {end} {e} a b l h z w =
    let n = a.next in
    let s = a.same in
    let k : e ≡ at + 37 = b.next in
    let r : has_room q at t ≡ false = lt-leb (at + length t) (length q - 64) (omega arith) in
    record {
      room = sym r;
      is = b.done (omega arith) ∙ (ap (λ (x : List ℕ). written x at (render overflow)) (a.kept (omega arith)) ∙ rw r);
      ends = b.next ∙ rw r;
      within = omega arith;
    }
