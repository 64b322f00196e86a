-- The account in whole numbers: how many changes were called for, told at once or later, still wait, were dropped or lost; and that these add up. Assumes nothing.
use Rattle.std.specs.Prelude.{◌≡◌, refl, List, [], ◌∷◌, Bool, true, false, cond, ℕ, suc, ◌+◌, eqb}
use Rattle.std.proofs.Common.{arith}
use Rattle.model.specs.Lists.{anyb}
use Rattle.model.specs.Laws.{tf, or_l, or_r}
use Rattle.model.specs.Fates.{Fate, refused, unowed, reported, waits, dropped, lost, silent, is_silent}

pub record Tally : Type 0 where
  pub called : ℕ
  pub at_once : ℕ
  pub later : ℕ
  pub still : ℕ
  pub dropped : ℕ
  pub lost : ℕ

abbrev pub no_tally : Tally
no_tally = record { called = 0; at_once = 0; later = 0; still = 0; dropped = 0; lost = 0 }

-- one more with the fate f at place k
abbrev pub counted : ℕ → Fate → Tally → Tally
counted k refused t = t
counted k (unowed y) t = t
counted k (reported n) t = record {
  called = suc t.called;
  at_once = cond (eqb n k) (suc t.at_once) t.at_once;
  later = cond (eqb n k) t.later (suc t.later);
  still = t.still;
  dropped = t.dropped;
  lost = t.lost;
}
counted k (waits d) t = record { called = suc t.called; at_once = t.at_once; later = t.later; still = suc t.still; dropped = t.dropped; lost = t.lost }
counted k (dropped y n) t = record { called = suc t.called; at_once = t.at_once; later = t.later; still = t.still; dropped = suc t.dropped; lost = t.lost }
counted k lost t = record { called = suc t.called; at_once = t.at_once; later = t.later; still = t.still; dropped = t.dropped; lost = suc t.lost }
counted k silent t = record { called = suc t.called; at_once = t.at_once; later = t.later; still = t.still; dropped = t.dropped; lost = t.lost }

-- the fates from place k on
unfoldable pub tallied : ℕ → List Fate → Tally
tallied k [] = no_tally
tallied k (f ∷ fs) = counted k f (tallied (suc k) fs)

abbrev pub tally : List Fate → Tally
tally fs = tallied 1 fs

-- the first number is the sum of the others: nothing is silent
pub adds_up : (k : ℕ) (fs : List Fate) → anyb is_silent fs ≡ false → let t = tallied k fs in t.called ≡ t.at_once + t.later + t.still + t.dropped + t.lost
unfolding tallied
adds_up k [] h = omega arith
adds_up k (f ∷ fs) h = go f (or_l (is_silent f) _ h) (adds_up (suc k) fs (or_r (is_silent f) _ h))
  where
    go : (g : Fate) → is_silent g ≡ false → (let t = tallied (suc k) fs in t.called ≡ t.at_once + t.later + t.still + t.dropped + t.lost)
        → (let t = counted k g (tallied (suc k) fs) in t.called ≡ t.at_once + t.later + t.still + t.dropped + t.lost)
    go refused q ih = ih
    go (unowed y) q ih = ih
    go (reported n) q ih = either (eqb n k)
      where
        either : (c : Bool) → let t = tallied (suc k) fs in suc t.called ≡ cond c (suc t.at_once) t.at_once + cond c t.later (suc t.later) + t.still + t.dropped + t.lost
        either true = omega arith
        either false = omega arith
    go (waits d) q ih = omega arith
    go (dropped y n) q ih = omega arith
    go lost q ih = omega arith
    go silent q ih = tf true refl q
