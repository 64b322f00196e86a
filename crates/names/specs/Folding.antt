-- INBOX is written in one way, any other name as it is. Assumes nothing.
use Rattle.std.specs.Prelude.{◌≡◌, refl, true, false, List, [], ◌∷◌, ℕ}
use Rattle.std.proofs.Common.{sym, eq-eqb}
use Rattle.model.specs.Lists.{same}
use Rattle.model.specs.Text.{same_word}
use Rattle.model.specs.Names.{Name, inbox, fold}

same_self : (n : List ℕ) → same n n ≡ true
unfolding same
same_self [] = refl
same_self (x ∷ n) = rw (eq-eqb x x refl) (same_self n)

module _ (n : Name) where
  pub folded-inbox : same_word n inbox ≡ true → same (fold n) n ≡ same inbox n
  folded-inbox e = rw e

  pub folded-other : same_word n inbox ≡ false → true ≡ same (fold n) n
  folded-other e = rw e (sym (same_self n))
