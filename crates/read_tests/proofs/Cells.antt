-- Cells that are set one after the other. Assumes nothing.
use mathlib.Core.Path.{◌≡◌, refl, ◌∙◌}
use mathlib.Core.List.{List, [], ◌∷◌}
use Prim.Native.Nat.{ℕ, suc, ◌+◌, ◌<◌}
use native.Mathlib.Omega.{arith}
use lib.ListN.{length, get_or, set, take}
use lib.Seq.{sets, set_comm, take-set-le}
use Rattle.std.proofs.lemmas.List.{take_more, length-take-le}
use Rattle.octets.specs.Stores.{sets-append}

-- a store before others may come after them
pub set_sets : (b : List ℕ) (i v n : ℕ) (xs : List ℕ) → i < n → set (sets b n xs) i v ≡ sets (set b i v) n xs
set_sets b i v n [] h = refl
set_sets b i v n (x ∷ xs) h = set_sets (set b n x) i v (suc n) xs (omega arith) ∙ rw (set_comm b n i x v (λ e. omega arith))

-- one store more
pub sets_next : (b c : List ℕ) (n : ℕ) (vs : List ℕ) (i : ℕ) → i < length vs → c ≡ sets b n (take i vs) → set c (n + i) (get_or vs i 0) ≡ sets b n (take (i + 1) vs)
sets_next b c n vs i h e = rw (e, take_more vs i 0 h, sets-append b n (take i vs) (get_or vs i 0 ∷ []), length-take-le i vs (omega arith))

-- the two cells that begin a key, after the cells of what it holds
pub sets_head : (b b₁ b₂ : List ℕ) (n v w : ℕ) (xs : List ℕ) → b₁ ≡ sets b (n + 2) xs → b₂ ≡ sets b₁ n (v ∷ w ∷ []) → b₂ ≡ sets b n (v ∷ w ∷ xs)
sets_head b b₁ b₂ n v w xs e f =
    f ∙ rw (e, add_two n, set_sets b n v (suc (suc n)) xs (omega arith), set_sets (set b n v) (suc n) w (suc (suc n)) xs (omega arith))
  where
    add_two : (k : ℕ) → k + 2 ≡ suc (suc k)
    add_two k = omega arith

-- stores from n on leave the cells before n
pub take_two : (b b₁ : List ℕ) (n v w : ℕ) → b₁ ≡ sets b n (v ∷ w ∷ []) → take n b₁ ≡ take n b
take_two b b₁ n v w e = rw (e, take-set-le n (set b n v) (suc n) w (omega arith), take-set-le n b n v (omega arith))
