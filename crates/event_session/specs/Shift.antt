-- Octets that leave the front of the queue. Assumes nothing.
use Rattle.std.specs.Prelude.{◌≡◌, List, ◌++◌, ℕ, ◌+◌, ◌-◌, ◌≤◌, drop, take}
use Rattle.std.specs.List.{copy_within}
use Rattle.std.proofs.Common.{ap, sym, ◌∙◌, arith}
use Rattle.std.proofs.lemmas.List.{drop-take}
use Rattle.model.specs.Queue.{shifted}

pub shifted_is : (q : List ℕ) (f n : ℕ) → n ≤ f → copy_within q n f 0 ≡ shifted q f n
unfolding shifted
shifted_is q f n h =
    let e : n + (f - n) ≡ f = omega arith in
    let z : 0 + (f - n) ≡ f - n = omega arith in
    rw z (ap (λ (l : List ℕ). l ++ drop (f - n) q) (sym (drop-take n (f - n) q) ∙ ap (λ (j : ℕ). drop n (take j q)) e))
