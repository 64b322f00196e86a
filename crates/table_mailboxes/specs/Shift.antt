-- A row is taken out of the mailbox table: the later ones move down, and the freed one becomes zeros. Assumes nothing.
use Rattle.std.specs.Prelude.{◌≡◌, List, ◌∷◌, ◌++◌, ℕ, suc, ◌+◌, ◌-◌, ◌<◌, ◌≤◌, length, take, drop, get_or, set}
use Rattle.std.specs.List.{copy_within}
use Rattle.std.proofs.Math.Seq.{take-append-add}
use Rattle.std.proofs.Common.{ap, sym, ◌∙◌, arith, drop-cons, length-take-le}
use Rattle.std.proofs.lemmas.List.{set_at}
use Rattle.model.specs.Memory.{no_mailbox}
use Rattle.model.specs.declared.Mailbox.{Mailbox}
use Rattle.laws.specs.Shift.{without, over, length_without}

-- row k of the first n taken out, and the freed one zeros
abbrev pub closed : ℕ → ℕ → List Mailbox → List Mailbox
closed k n l = take (n - 1) (without k l) ++ (no_mailbox ∷ drop n l)

pub shift_end : (k n j : ℕ) (l : List Mailbox) → k < n → n ≤ length l → j + 1 ≡ n → set (over (without k l) l j) j no_mailbox ≡ closed k n l
unfolding over
shift_end k n j l h w e =
    let hk : k < length l = omega arith in
    let lw = length_without k l hk in
    let hw : j ≤ length (without k l) = omega arith in
    let hl : j < length l = omega arith in
    let a : n - 1 ≡ j = omega arith in
    let b : suc j ≡ n = omega arith in
    ap (λ (r : List Mailbox). set (take j (without k l) ++ r) j no_mailbox) (drop-cons l j no_mailbox hl)
    ∙ (set_at (take j (without k l)) (get_or l j no_mailbox) (drop (suc j) l) no_mailbox j (length-take-le j (without k l) hw)
    ∙ rw (a, ← b))

-- the later rows of the n are copied one place down
pub copied_down : (k n : ℕ) (l : List Mailbox) → k < n → n ≤ length l → copy_within l (k + 1) n k ≡ over (without k l) l (n - 1)
unfolding over
copied_down k n l h w =
    let lk = length-take-le k l (omega arith) in
    let a : k + 1 ≡ suc k = omega arith in
    let b : n - 1 ≡ length (take k l) + (n - suc k) = omega arith in
    let c : k + (n - suc k) ≡ n - 1 = omega arith in
    rw (a, c) (ap (λ (r : List Mailbox). r ++ drop (n - 1) l) (sym (ap (λ (j : ℕ). take j (take k l ++ drop (suc k) l)) b ∙ take-append-add (take k l) (drop (suc k) l) (n - suc k))))
