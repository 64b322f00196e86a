-- Laws of names: a text is itself, a folded name is valid and folded, a stored name is read back with zeros behind it, and an argument that is
-- no valid name takes nothing. Assumes nothing.
use Rattle.std.specs.Prelude.{◌≡◌, refl, List, [], ◌∷◌, Bool, true, false, cond, ◌&&◌, ℕ, zero, suc, ◌-◌, ◌≤◌, eqb, leb, length, take, drop, replicate}
use Rattle.std.proofs.Common.{ap₂, arith, eqb-true, eq-eqb}
use Rattle.std.proofs.Math.Seq.{take-append_seam, drop-append_seam}
use Rattle.model.specs.Lists.{same}
use Rattle.model.specs.Text.{same_word}
use Rattle.model.specs.Names.{Name, no_part_empty, valid, inbox, fold, argument, subtree, subtree_one}
use Rattle.model.specs.Memory.{stored}
use Rattle.model.specs.Lawful.{zeros}
use Rattle.model.specs.Laws.{tf, and_l, and_r}

-- ---- the same text
pub same_refl : (n : List ℕ) → same n n ≡ true
unfolding same
same_refl [] = refl
same_refl (x ∷ n) = rw (eq-eqb x x refl) (same_refl n)

pub same_true : (a b : List ℕ) → same a b ≡ true → a ≡ b
unfolding same
same_true [] [] e = refl
same_true [] (y ∷ b) e = tf false e refl
same_true (x ∷ a) [] e = tf false e refl
same_true (x ∷ a) (y ∷ b) e = go (eqb x y) refl e (same_true a b)
  where
    go : (c : Bool) → eqb x y ≡ c → cond c (same a b) false ≡ true → (same a b ≡ true → a ≡ b) → x ∷ a ≡ y ∷ b
    go true f h ih = ap₂ ◌∷◌ (eqb-true x y f) (ih h)
    go false f h ih = tf false h refl

-- ---- a valid name has at most 64 octets
pub valid_short : (n : Name) → valid n ≡ true → leb (length n) 64 ≡ true
valid_short n h = and_r (leb 1 (length n)) (leb (length n) 64) (and_l (leb 1 (length n) && leb (length n) 64) _ h)

-- ---- a folded name
pub fold-valid : (n : Name) → valid n ≡ true → valid (fold n) ≡ true
unfolding same no_part_empty
fold-valid n h = go (same_word n inbox)
  where
    go : (c : Bool) → valid (cond c inbox n) ≡ true
    go true = refl
    go false = h

pub fold-fold : (n : Name) → same (fold (fold n)) (fold n) ≡ true
unfolding same
fold-fold n = go (same_word n inbox) refl
  where
    go : (c : Bool) → same_word n inbox ≡ c → same (fold (cond c inbox n)) (cond c inbox n) ≡ true
    go true e = refl
    go false e = rw e (same_refl n)

-- ---- a stored name
pub name-stored : (n : Name) → take (length n) (stored n) ≡ n
name-stored n = take-append_seam n (replicate (64 - length n) 0)

pub zeros-replicate : (k : ℕ) → zeros (replicate k 0) ≡ true
zeros-replicate zero = refl
zeros-replicate (suc k) = zeros-replicate k

pub rest-stored : (n : Name) → zeros (drop (length n) (stored n)) ≡ true
rest-stored n = rw (drop-append_seam n (replicate (64 - length n) 0)) (zeros-replicate (64 - length n))

-- ---- an argument that is no valid name takes no mailbox, whose name has an octet at least: not by name, not as a subtree, not as one level of it
-- (Commands, 4)
pub invalid_takes_none : (a : List ℕ) → valid a ≡ false → (n : Name) → 1 ≤ length n
    → (same (argument a) n ≡ false) × (subtree (argument a) n ≡ false) × (subtree_one (argument a) n ≡ false)
unfolding same
invalid_takes_none a e [] h = absurd (let z : ⊥ = omega arith in z)
invalid_takes_none a e (b ∷ n) h = rw e (refl, refl, refl)
