-- Numbers of octets, the lowest first, from the highest octet down. Assumes nothing.
use mathlib.Core.Path.{◌≡◌, refl}
use mathlib.Core.List.{List, [], ◌∷◌}
use Prim.Native.Nat.{ℕ, zero, suc, ◌+◌, ◌-◌, ◌*◌, ◌≤◌, ◌<◌}
use native.Mathlib.Omega.{arith}
use lib.ListN.{get_or, drop}
use Rattle.model.specs.Text.{little}

little-nil : (w : ℕ) → little w [] ≡ 0
little-nil zero = refl
little-nil (suc w) = refl

-- the lowest octet, and the others
little_step : (s : List ℕ) (w p : ℕ) → little (suc w) (drop p s) ≡ get_or s p 0 + 256 * little w (drop (suc p) s)
little_step [] w zero = rw (little-nil w)
little_step [] w (suc p) = rw (little-nil w)
little_step (x ∷ s) w zero = refl
little_step (x ∷ s) w (suc p) = little_step s w p

pub little-back : (s : List ℕ) (at w i j : ℕ) → j + 1 ≡ i → i ≤ w → little (w - j) (drop (at + j) s) ≡ get_or s (at + j) 0 + 256 * little (w - i) (drop (at + i) s)
little-back s at w i j e h =
    let a : w - j ≡ suc (w - i) = omega arith in
    let b : at + i ≡ suc (at + j) = omega arith in
    rw (a, b) (little_step s (w - i) (at + j))

abbrev room : ℕ → ℕ
room zero = 1
room (suc w) = 256 * room w

little-room : (s : List ℕ) → ((k : ℕ) → get_or s k 0 < 256) → (w p : ℕ) → little w (drop p s) < room w
little-room s h zero p = omega arith
little-room s h (suc w) p = rw (little_step s w p) (omega (arith, h p, little-room s h w (suc p)))

room_small : (w : ℕ) → w ≤ 4 → room w ≤ 4294967296
room_small zero h = omega arith
room_small (suc zero) h = omega arith
room_small (suc (suc zero)) h = omega arith
room_small (suc (suc (suc zero))) h = omega arith
room_small (suc (suc (suc (suc zero)))) h = omega arith
room_small (suc (suc (suc (suc (suc w))))) h = absurd (omega arith)

-- four octets are below 2^32
pub little-small : (s : List ℕ) → ((k : ℕ) → get_or s k 0 < 256) → (w p : ℕ) → w ≤ 4 → little w (drop p s) < 4294967296
little-small s h w p l = omega (arith, little-room s h w p, room_small w l)

-- no octets yet
pub little_none : (s : List ℕ) (at w : ℕ) → 0 ≡ little (w - w) (drop (at + w) s)
little_none s at w = let e : w - w ≡ 0 = omega arith in rw e
