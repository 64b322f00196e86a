-- What a silence rests on: occasions, the count of a command end, and losses. Proved of the definitions. Assumes nothing.
use Rattle.std.specs.Prelude.{◌≡◌, Bool, true, false, not, ◌&&◌, ◌||◌, eqb, leb, length, get_or}
use Rattle.std.proofs.Math.Path.{refl, ap}
use Rattle.std.proofs.Common.{sym, ◌∙◌, ap₂, arith, leb-true, eq-eqb}
use mathlib.Core.List.{List, [], ◌∷◌, ◌++◌, map}
use Rattle.std.proofs.Math.Bool.{cond}
use Prim.Native.Nat.{ℕ, zero, suc, ◌-◌}
use Rattle.model.specs.Lists.{filterb, keep, anyb, same}
use Rattle.model.specs.Laws.{tf, or_l, or_r}
use Rattle.model.specs.Commands.{command_of}
use Rattle.model.specs.Records.{Record, ended, command, is_record, record_of}
use Rattle.model.specs.Memory.{Memory, selected_box, both_rights}
use Rattle.model.specs.Lines.{Line, render_all}
use Rattle.model.specs.Queue.{room, fits, fitting}
use Rattle.model.specs.View.{owed}
use Rattle.model.specs.Answers.{number_of}
use Rattle.model.specs.Lawful.{lawful}
use Rattle.model.specs.Refusals.{wrong_id, name_held, wrong_uid, wrong_state, table_full}
use Rattle.model.specs.Rules.{Outcome, end_lines, ended_at, accepted}
use Rattle.model.specs.Events.{silence}
use Rattle.model.specs.Call.{call, refuse, roomless}
use Rattle.model.specs.Hidden.{Octets}
use Rattle.model.specs.declared.Answer.TheVariants.{Counted}
use Rattle.model.specs.declared.Refusal.{Refusal}
use Rattle.model.specs.declared.Refusal.TheVariants.{UnlawfulMemory, BadRecord, WrongId, NameHeld, WrongUid, WrongState, TableFull, NoRoom}
use Rattle.model.specs.Fates.{Debt, arrival, removal, marking, lowest_class, Fate, refused, unowed, reported, waits, dropped, lost, silent, reselected, expunged_first, waits_for, tells, reselects, expunges_first, sets_groups, says_ok, is_overflow, waits_still, is_lost}
use Rattle.model.specs.Seen.{apparent, Seen, seen}
use Rattle.model.specs.Due.{Account, waiting, Due, nothing, at_once, later, due, owing}
use Rattle.model.specs.Account.{front, settle, own, own_fate, overflowed, owed_now, notices, posted, entered, account, fate_at, losses, overflows}
use Rattle.demands.specs.Ledger.Books.{same-owing}
use Rattle.demands.specs.Ledger.Posting.{debt_self, waiting-after}
use Rattle.demands.specs.Ledger.Occasions.{owed-tells, last-class, fitting_all, fitting-counted, tells-notices}
use Rattle.demands.specs.Ledger.Streams.{Stands, call_kept}

-- ---- a place's fate after one more call
past : (g : Fate → Fate) (t : List Fate) (d : Debt) (fs : List Fate) (k : ℕ) → get_or fs k refused ≡ waits d → get_or (map g fs ++ t) k refused ≡ g (waits d)
past g t d [] k h = tf (waits_still refused) (ap waits_still h) refl
past g t d (f ∷ fs) zero h = ap g h
past g t d (f ∷ fs) (suc k) h = past g t d fs k h

pub next_fate : (a : Account) (s : Seen) (k : ℕ) (d : Debt) → s.taken ≡ true → fate_at a k ≡ waits d
    → fate_at (entered a s) k ≡ settle s.around (suc (length a.fates)) s.said s.lines (waits d)
unfolding entered
next_fate a s zero d q h = tf (waits_still refused) (ap waits_still h) refl
next_fate a s (suc k) d q h = rw q (past (settle s.around (suc (length a.fates)) s.said s.lines) (own_fate s.around a s.said s.lines ∷ []) d a.fates k h)

pub same_fate : (a : Account) (s : Seen) (k : ℕ) (d : Debt) → s.taken ≡ false → fate_at a k ≡ waits d → fate_at (entered a s) k ≡ waits d
unfolding entered
same_fate a s zero d q h = tf (waits_still refused) (ap waits_still h) refl
same_fate a s (suc k) d q h = rw q (go a.fates k h)
  where
    go : (fs : List Fate) (j : ℕ) → get_or fs j refused ≡ waits d → get_or (fs ++ (refused ∷ [])) j refused ≡ waits d
    go [] j e = tf (waits_still refused) (ap waits_still e) refl
    go (f ∷ fs) zero e = e
    go (f ∷ fs) (suc j) e = go fs j e

-- what waits at a place waits
pub waits_at : (a : Account) (k : ℕ) (d : Debt) → fate_at a k ≡ waits d → waiting a.fates d ≡ true
unfolding waiting
waits_at a zero d h = tf (waits_still refused) (ap waits_still h) refl
waits_at a (suc k) d h = go a.fates k h
  where
    orr : (c e : Bool) → e ≡ true → (c || e) ≡ true
    orr true e q = refl
    orr false e q = q

    go : (fs : List Fate) (j : ℕ) → get_or fs j refused ≡ waits d → anyb (waits_for d) fs ≡ true
    go [] j q = tf (waits_still refused) (ap waits_still q) refl
    go (f ∷ fs) zero q = rw (ap (waits_for d) q, debt_self d)
    go (f ∷ fs) (suc j) q = orr (waits_for d f) (anyb (waits_for d) fs) (go fs j q)

-- ---- the first occasion
module _ (m : Memory) (a : Account) (s : Stands m a) (o : Octets) (taken : eqb (number_of (call m o).answer) 0 ≡ true) where
  exactly : notices (call m o).lines ≡ owed_now (apparent m) a (record_of o) (call m o).lines
  exactly = let e = (call_kept m s.law a s.books o).exact in rw taken at e

  told_then : (k : ℕ) (d : Debt) → fate_at a k ≡ waits d → tells (call m o).lines d ≡ true → fate_at (entered a (seen m o)) k ≡ reported (suc (length a.fates))
  told_then k d h t = next_fate a (seen m o) k d taken h ∙ rw t

  -- a command end with room for all that it owes tells each change that waits and that its class may release
  pub told_at_end : (c : ℕ) → record_of o ≡ ended c → leb c 1 ≡ true → both_rights (selected_box m) ≡ true → fits m (owing (apparent m) a c) ≡ true
      → (k : ℕ) (d : Debt) → leb (lowest_class d) c ≡ true → fate_at a k ≡ waits d → fate_at (entered a (seen m o)) k ≡ reported (suc (length a.fates))
  unfolding owed_now
  told_at_end c r l b f k d q h =
      let e : notices (call m o).lines ≡ fitting (room m) (owing (apparent m) a c) = exactly ∙ ap (λ (x : Record). owed_now (apparent m) a x (call m o).lines) r in
      let g : notices (call m o).lines ≡ owed m c = e
      ∙ (fitting_all (room m) (owing (apparent m) a c) (leb-true (length (render_all (owing (apparent m) a c))) (room m) f) ∙ same-owing m s.law a s.books c) in
      told_then k d h ((sym (tells-notices m (call m o).lines d) ∙ (ap (λ (ls : List Line). tells ls d) g ∙ owed-tells m s.law a s.books c l b d q (waits_at a k d h))))

  -- whatever its room, it tells what its front tells
  pub told_by-front : (c : ℕ) → record_of o ≡ ended c → (k : ℕ) (d : Debt) → fate_at a k ≡ waits d
      → fate_at (entered a (seen m o)) k ≡ cond (tells (front (apparent m) a c) d) (reported (suc (length a.fates))) (waits d)
  unfolding owed_now
  told_by-front c r k d h =
      let n = suc (length a.fates) in
      let e : notices (call m o).lines ≡ front (apparent m) a c = exactly ∙ ap (λ (x : Record). owed_now (apparent m) a x (call m o).lines) r in
      next_fate a (seen m o) k d taken h
      ∙ (ap (λ (x : Record). settle (apparent m) n x (call m o).lines (waits d)) r
      ∙ ap (λ (b : Bool). cond b (reported n) (waits d)) (sym (tells-notices m (call m o).lines d) ∙ ap (λ (ls : List Line). tells ls d) e))

  -- an accepted NOTIFY SET tells each change that waits
  pub told_at-set : (t : List ℕ) → record_of o ≡ command t → sets_groups (command_of t) ≡ true → anyb says_ok (call m o).lines ≡ true → both_rights (selected_box m) ≡ true
      → (k : ℕ) (d : Debt) → fate_at a k ≡ waits d → fate_at (entered a (seen m o)) k ≡ reported (suc (length a.fates))
  unfolding owed_now
  told_at-set t r g y b k d h =
      let e : notices (call m o).lines ≡ cond (sets_groups (command_of t) && anyb says_ok (call m o).lines) (owing (apparent m) a 1) [] = exactly
      ∙ ap (λ (x : Record). owed_now (apparent m) a x (call m o).lines) r in
      let f : notices (call m o).lines ≡ owed m 1 = (rw (g, y) at e) ∙ same-owing m s.law a s.books 1 in
      told_then k d h ((sym (tells-notices m (call m o).lines d) ∙ (ap (λ (ls : List Line). tells ls d) f ∙ owed-tells m s.law a s.books 1 refl b d (last-class d) (waits_at a k d h))))

-- ---- a count of 0
-- a call that answers a count was taken
counted : (m : Memory) (o : Octets) (n : ℕ) → (call m o).answer ≡ Counted n → call m o ≡ accepted m (record_of o)
unfolding call
counted m o n e =
    step (not (lawful m)) UnlawfulMemory _ _ e λ e₁.
    step (not (is_record o)) BadRecord _ _ e₁ λ e₂.
    step (wrong_id m (record_of o)) WrongId _ _ e₂ λ e₃.
    step (name_held m (record_of o)) NameHeld _ _ e₃ λ e₄.
    step (wrong_uid m (record_of o)) WrongUid _ _ e₄ λ e₅.
    step (wrong_state m (record_of o)) WrongState _ _ e₅ λ e₆.
    step (table_full m (record_of o)) TableFull _ _ e₆ λ e₇.
    step (roomless m (record_of o)) NoRoom _ _ e₇ λ e₈. refl
  where
    step : (c : Bool) (r : Refusal) (y z : Outcome) → (cond c (refuse m r) y).answer ≡ Counted n → (y.answer ≡ Counted n → y ≡ z) → cond c (refuse m r) y ≡ z
    step true r y z q f = let w : ◌≡◌ {A = ℕ} 0 1 = cc in absurd (let b : ⊥ = omega arith in b)
    step false r y z q f = f q

-- after a class 1 command end that answers 0, with l and r held, nothing waits
pub nothing-waits : (m : Memory) (a : Account) → Stands m a → (o : Octets) → record_of o ≡ ended 1 → both_rights (selected_box m) ≡ true → (call m o).answer ≡ Counted 0 → (d : Debt)
    → waiting (entered a (seen m o)).fates d ≡ false
unfolding entered accepted due
nothing-waits m a s o r b e d = rw taken after
  where
    made : call m o ≡ ended_at m 1
    made = counted m o 0 e ∙ ap (accepted m) r

    taken : eqb (number_of (call m o).answer) 0 ≡ true
    taken = rw e

    none_left : length (owed m 1) - length (end_lines m 1) ≡ 0
    none_left = let q : Counted (length (owed m 1) - length (end_lines m 1)) ≡ Counted 0 = sym (ap (λ (x : Outcome). x.answer) made) ∙ e in cc

    lines : (call m o).lines ≡ owed m 1
    lines = ap (λ (x : Outcome). x.lines) made ∙ fitting-counted (room m) (owed m 1) none_left

    gone : (c : Bool) → waiting a.fates d ≡ c → (c && (not (tells (call m o).lines d) && not (reselects (record_of o) || expunges_first (apparent m) (record_of o) d))) ≡ false
    gone true h = rw (ap (λ (ls : List Line). tells ls d) lines ∙ owed-tells m s.law a s.books 1 refl b d (last-class d) h)
    gone false h = refl

    idle : waits_for d (own_fate (apparent m) a (record_of o) (call m o).lines) ≡ false
    idle = ap (λ (x : Record). waits_for d (own_fate (apparent m) a x (call m o).lines)) r

    after : waiting (map (settle (apparent m) (suc (length a.fates)) (record_of o) (call m o).lines) a.fates ++ (own_fate (apparent m) a (record_of o) (call m o).lines ∷ [])) d ≡ false
    after = waiting-after (apparent m) (suc (length a.fates)) (record_of o) (call m o).lines d a.fates (own_fate (apparent m) a (record_of o) (call m o).lines)
        ∙ ap₂ ◌||◌ (gone (waiting a.fates d) refl) idle

-- then each change so far has a fate that is final
pub none-waiting : (fs : List Fate) → ((d : Debt) → waiting fs d ≡ false) → anyb waits_still fs ≡ false
unfolding waiting
none-waiting [] h = refl
none-waiting (f ∷ fs) h = go f (h) (none-waiting fs (λ d. or_r (waits_for d f) _ (h d)))
  where
    go : (g : Fate) → ((d : Debt) → (waits_for d g || anyb (waits_for d) fs) ≡ false) → anyb waits_still fs ≡ false → (waits_still g || anyb waits_still fs) ≡ false
    go refused q ih = ih
    go (unowed y) q ih = ih
    go (reported n) q ih = ih
    go (waits (arrival u)) q ih = tf (eqb u u) (eq-eqb u u refl) (or_l (eqb u u) _ (q (arrival u)))
    go (waits (removal u)) q ih = tf (eqb u u) (eq-eqb u u refl) (or_l (eqb u u) _ (q (removal u)))
    go (waits (marking u)) q ih = tf (eqb u u) (eq-eqb u u refl) (or_l (eqb u u) _ (q (marking u)))
    go (dropped y n) q ih = ih
    go lost q ih = ih
    go silent q ih = ih

-- ---- losses
-- a change is lost only in a call that writes the overflow line
lost_own : (n : ℕ) (d h : Due) (ls : List Line) → is_lost (own n d h ls) ≡ true → anyb is_overflow ls ≡ true
lost_own n (nothing y) h ls q = tf false q refl
lost_own n (at_once ds) h ls q = go (anyb is_overflow ls) (same (render_all ls) (render_all ds)) q
  where
    go : (c e : Bool) → is_lost (cond c (overflowed h) (cond e (reported n) silent)) ≡ true → c ≡ true
    go true e p = refl
    go false true p = tf false p refl
    go false false p = tf false p refl
lost_own n (later x) h ls q = tf false q refl

lost-settled : (w : Memory) (n : ℕ) (r : Record) (ls : List Line) (f : Fate) → is_lost (settle w n r ls f) ≡ is_lost f
lost-settled w n r ls refused = refl
lost-settled w n r ls (unowed y) = refl
lost-settled w n r ls (reported k) = refl
lost-settled w n r ls (waits d) = go (tells ls d) (reselects r) (expunges_first w r d)
  where
    go : (a b c : Bool) → is_lost (cond a (reported n) (cond b (dropped reselected n) (cond c (dropped expunged_first n) (waits d)))) ≡ false
    go true b c = refl
    go false true c = refl
    go false false true = refl
    go false false false = refl
lost-settled w n r ls (dropped y k) = refl
lost-settled w n r ls lost = refl
lost-settled w n r ls silent = refl

losses-settled : (w : Memory) (n : ℕ) (r : Record) (ls : List Line) (fs : List Fate) → length (filterb is_lost (map (settle w n r ls) fs)) ≡ length (filterb is_lost fs)
losses-settled w n r ls [] = refl
losses-settled w n r ls (f ∷ fs) = rw (lost-settled w n r ls f) (go (is_lost f) (losses-settled w n r ls fs))
  where
    go : (c : Bool) → length (filterb is_lost (map (settle w n r ls) fs)) ≡ length (filterb is_lost fs)
        → length (keep c (settle w n r ls f) (filterb is_lost (map (settle w n r ls) fs))) ≡ length (keep c f (filterb is_lost fs))
    go true ih = ap suc ih
    go false ih = ih

losses-snoc : (fs : List Fate) (f : Fate) → is_lost f ≡ false → length (filterb is_lost (fs ++ (f ∷ []))) ≡ length (filterb is_lost fs)
losses-snoc [] f h = rw h
losses-snoc (g ∷ fs) f h = go (is_lost g) (losses-snoc fs f h)
  where
    go : (c : Bool) → length (filterb is_lost (fs ++ (f ∷ []))) ≡ length (filterb is_lost fs) → length (keep c g (filterb is_lost (fs ++ (f ∷ [])))) ≡ length (keep c g (filterb is_lost fs))
    go true ih = ap suc ih
    go false ih = ih

-- a call without the overflow line loses nothing
pub no_loss : (a : Account) (s : Seen) → anyb is_overflow s.lines ≡ false → losses (entered a s) ≡ losses a
unfolding entered
no_loss a s h = go s.taken
  where
    mine : is_lost (own_fate s.around a s.said s.lines) ≡ false
    mine = either (is_lost (own_fate s.around a s.said s.lines)) refl
      where
        either : (c : Bool) → is_lost (own_fate s.around a s.said s.lines) ≡ c → c ≡ false
        either true q = tf (anyb is_overflow s.lines) (lost_own (suc (length a.fates)) (due s.around a s.said) (due (silence s.around) a s.said) s.lines q) h
        either false q = refl

    go : (c : Bool) → length (filterb is_lost (cond c (posted s.around a s.said s.lines) (record { kept = a.kept; fates = a.fates ++ (refused ∷ []) })).fates) ≡ losses a
    go true = losses-snoc (map (settle s.around (suc (length a.fates)) s.said s.lines) a.fates) (own_fate s.around a s.said s.lines) mine
        ∙ losses-settled s.around (suc (length a.fates)) s.said s.lines a.fates
    go false = losses-snoc a.fates refused refl

pub no-losses : (a : Account) (ss : List Seen) → overflows ss ≡ false → losses (account a ss) ≡ losses a
no-losses a [] h = refl
no-losses a (s ∷ ss) h = no-losses (entered a s) ss (or_r (anyb is_overflow s.lines) _ h) ∙ no_loss a s (or_l (anyb is_overflow s.lines) _ h)
