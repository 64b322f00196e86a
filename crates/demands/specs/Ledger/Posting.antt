-- How the changes that wait in the account follow the lines of a call. Assumes nothing.
use Rattle.std.specs.Prelude.{◌≡◌, refl, List, [], ◌∷◌, ◌++◌, map, Bool, true, false, not, cond, ◌&&◌, ◌||◌, ℕ}
use Rattle.std.proofs.Common.{sym, ◌∙◌, ap₂, eqb-true, eq-eqb}
use Rattle.std.proofs.Math.Path.{ap}
use Rattle.model.specs.Lists.{anyb}
use Rattle.model.specs.Laws.{tf, or-false, any_snoc, and-true, and_false}
use Rattle.model.specs.Records.{Record}
use Rattle.model.specs.Memory.{Memory}
use Rattle.model.specs.Lines.{Line}
use Rattle.model.specs.Fates.{Debt, arrival, removal, marking, same_debt, Fate, refused, unowed, reported, waits, dropped, lost, silent, reselected, expunged_first, waits_for, tells, reselects, expunges_first}
use Rattle.model.specs.Due.{waiting}
use Rattle.model.specs.Account.{settle}

-- ---- on the account's side
debt_same : (d e : Debt) → same_debt d e ≡ true → d ≡ e
debt_same (arrival u) (arrival v) h = ap arrival (eqb-true u v h)
debt_same (arrival u) (removal v) h = tf false h refl
debt_same (arrival u) (marking v) h = tf false h refl
debt_same (removal u) (arrival v) h = tf false h refl
debt_same (removal u) (removal v) h = ap removal (eqb-true u v h)
debt_same (removal u) (marking v) h = tf false h refl
debt_same (marking u) (arrival v) h = tf false h refl
debt_same (marking u) (removal v) h = tf false h refl
debt_same (marking u) (marking v) h = ap marking (eqb-true u v h)

pub debt_self : (d : Debt) → same_debt d d ≡ true
debt_self (arrival u) = eq-eqb u u refl
debt_self (removal u) = eq-eqb u u refl
debt_self (marking u) = eq-eqb u u refl

abbrev pub drops : Memory → Record → Debt → Bool
drops w r d = reselects r || expunges_first w r d

module _ (w : Memory) (n : ℕ) (r : Record) (ls : List Line) (d : Debt) where
  abbrev stays : Bool
  stays = not (tells ls d) && not (drops w r d)

  settled_one : (f : Fate) → waits_for d (settle w n r ls f) ≡ (waits_for d f && stays)
  settled_one refused = refl
  settled_one (unowed y) = refl
  settled_one (reported k) = refl
  settled_one (waits e) = go (same_debt d e) refl
    where
      through : (a b c : Bool) → waits_for d (cond a (reported n) (cond b (dropped reselected n) (cond c (dropped expunged_first n) (waits d)))) ≡ (same_debt d d && (not a && not (b || c)))
      through true b c = sym (and_false (same_debt d d))
      through false true c = sym (and_false (same_debt d d))
      through false false true = sym (and_false (same_debt d d))
      through false false false = sym (and-true (same_debt d d))

      past : (a b c : Bool) → same_debt d e ≡ false → waits_for d (cond a (reported n) (cond b (dropped reselected n) (cond c (dropped expunged_first n) (waits e)))) ≡ false
      past true b c h = refl
      past false true c h = refl
      past false false true h = refl
      past false false false h = h

      go : (s : Bool) → same_debt d e ≡ s → waits_for d (settle w n r ls (waits e)) ≡ (same_debt d e && stays)
      go true h = rw (sym (debt_same d e h)) (through (tells ls d) (reselects r) (expunges_first w r d))
      go false h = past (tells ls e) (reselects r) (expunges_first w r e) h ∙ sym (rw h)
  settled_one (dropped y k) = refl
  settled_one lost = refl
  settled_one silent = refl

  settled_all : (fs : List Fate) → anyb (waits_for d) (map (settle w n r ls) fs) ≡ (anyb (waits_for d) fs && stays)
  settled_all [] = refl
  settled_all (f ∷ fs) = ap₂ ◌||◌ (settled_one f) (settled_all fs) ∙ both (waits_for d f) (anyb (waits_for d) fs) stays
    where
      both : (a b c : Bool) → ((a && c) || (b && c)) ≡ ((a || b) && c)
      both true b true = refl
      both true true false = refl
      both true false false = refl
      both false b c = refl

  -- after a call: what waited, was not told and not dropped, and the call's own change if it waits
  pub waiting-after : (fs : List Fate) (f : Fate) → waiting (map (settle w n r ls) fs ++ (f ∷ [])) d ≡ ((waiting fs d && (not (tells ls d) && not (drops w r d))) || waits_for d f)
  unfolding waiting
  waiting-after fs f = any_snoc (waits_for d) (map (settle w n r ls) fs) f ∙ ap (λ (b : Bool). b || waits_for d f) (settled_all fs)

pub waiting-refused : (fs : List Fate) (d : Debt) → waiting (fs ++ (refused ∷ [])) d ≡ waiting fs d
unfolding waiting
waiting-refused fs d = any_snoc (waits_for d) fs refused ∙ or-false (anyb (waits_for d) fs)
