-- Leaving out the mailboxes of some ids and their messages: what it does to each reading and each write. Assumes nothing.
use Rattle.std.specs.Prelude.{◌≡◌, Bool, not, ◌&&◌, ℕ, suc, ltb, length}
use Rattle.std.proofs.Math.Path.{refl, sym, ap}
use Rattle.std.proofs.Common.{◌∙◌, arith, eqb-true, lt-ltb, le-ltb, ltb-true, ltb-false}
use mathlib.Core.List.{List, [], ◌∷◌}
use Rattle.std.proofs.Math.Bool.{true, false}
use Rattle.std.proofs.Math.Dec.{eqb}
use Rattle.std.proofs.Math.ListN.{set}
use Rattle.model.specs.Lists.{filterb, keep, anyb, sorted}
use Rattle.model.specs.Laws.{tf, and_l, filter-filter, any-filter}
use Rattle.model.specs.Memory.{place, known, the_mailbox, messages_of, in_mailbox, by_uid, is_message}
use Rattle.model.specs.declared.Mailbox.{Mailbox}
use Rattle.model.specs.declared.Message.{Message}

-- an id of H is not i, which is not of H
pub unlike : (H : ℕ → Bool) (k i : ℕ) → H k ≡ true → H i ≡ false → eqb k i ≡ false
unlike H k i hk hi = go (eqb k i) refl
  where
    go : (b : Bool) → eqb k i ≡ b → eqb k i ≡ false
    go false e = e
    go true e = tf (H i) (ap H (sym (eqb-true k i e)) ∙ hk) hi

ltb-suc : (m n : ℕ) → ltb (suc m) (suc n) ≡ ltb m n
ltb-suc m n = go (ltb m n) refl
  where
    go : (b : Bool) → ltb m n ≡ b → ltb (suc m) (suc n) ≡ ltb m n
    go true e = lt-ltb (suc m) (suc n) (let h = ltb-true m n e in omega arith) ∙ sym e
    go false e = le-ltb (suc m) (suc n) (let h = ltb-false m n e in omega arith) ∙ sym e

-- what stays
abbrev pub stays_box : (ℕ → Bool) → Mailbox → Bool
stays_box H x = not (H x.id)

abbrev pub stays_mail : (ℕ → Bool) → Message → Bool
stays_mail H e = not (H e.mailbox)

abbrev pub boxes_off : (ℕ → Bool) → List Mailbox → List Mailbox
boxes_off H l = filterb (stays_box H) l

abbrev pub mails_off : (ℕ → Bool) → List Message → List Message
mails_off H l = filterb (stays_mail H) l

module _ (H : ℕ → Bool) (i : ℕ) (hi : H i ≡ false) where
  -- ---- finding an id that stays
  pub known_off : (l : List Mailbox) → known i (boxes_off H l) ≡ known i l
  unfolding place
  known_off [] = refl
  known_off (x ∷ l) = go (H x.id) refl (eqb x.id i) refl (known_off l)
    where
      go : (b : Bool) → H x.id ≡ b → (c : Bool) → eqb x.id i ≡ c → known i (boxes_off H l) ≡ known i l → known i (keep (not (H x.id)) x (boxes_off H l)) ≡ known i (x ∷ l)
      go true f c g ih = rw (f, unlike H x.id i f hi) (ih ∙ sym (ltb-suc (place i l) (length l)))
      go false f true g ih = rw (f, g) (lt-ltb 0 (suc (length (boxes_off H l))) (omega arith) ∙ sym (lt-ltb 0 (suc (length l)) (omega arith)))
      go false f false g ih = rw (f, g) (ltb-suc (place i (boxes_off H l)) (length (boxes_off H l)) ∙ ih ∙ sym (ltb-suc (place i l) (length l)))

  pub box_off : (l : List Mailbox) → the_mailbox i (boxes_off H l) ≡ the_mailbox i l
  unfolding place
  box_off [] = refl
  box_off (x ∷ l) = go (H x.id) refl (eqb x.id i) refl (box_off l)
    where
      go : (b : Bool) → H x.id ≡ b → (c : Bool) → eqb x.id i ≡ c → the_mailbox i (boxes_off H l) ≡ the_mailbox i l → the_mailbox i (keep (not (H x.id)) x (boxes_off H l)) ≡ the_mailbox i (x ∷ l)
      go true f c g ih = rw (f, unlike H x.id i f hi) ih
      go false f true g ih = rw (f, g)
      go false f false g ih = rw (f, g) ih

  -- ---- setting it
  pub set_off : (y : Mailbox) → H y.id ≡ false → (l : List Mailbox) → boxes_off H (set l (place i l) y) ≡ set (boxes_off H l) (place i (boxes_off H l)) y
  unfolding place
  set_off y e [] = refl
  set_off y e (x ∷ l) = go (H x.id) refl (eqb x.id i) refl (set_off y e l)
    where
      go : (b : Bool) → H x.id ≡ b → (c : Bool) → eqb x.id i ≡ c → boxes_off H (set l (place i l) y) ≡ set (boxes_off H l) (place i (boxes_off H l)) y
          → boxes_off H (set (x ∷ l) (place i (x ∷ l)) y) ≡ set (keep (not (H x.id)) x (boxes_off H l)) (place i (keep (not (H x.id)) x (boxes_off H l))) y
      go true f c g ih = rw (unlike H x.id i f hi, f) ih
      go false f true g ih = rw (f, g, e)
      go false f false g ih = rw (f, g, f) (ap (λ r. x ∷ r) ih)

  -- ---- its messages
  in_stays : (e : Message) → in_mailbox i e ≡ true → stays_mail H e ≡ true
  in_stays e h = rw (eqb-true e.mailbox i h, hi)

  pub messages_off : (l : List Message) → messages_of i (mails_off H l) ≡ messages_of i l
  messages_off l = ap (sorted by_uid) (filter-filter (in_mailbox i) (stays_mail H) l in_stays)

  pub any_off : (u : ℕ) (p : Message → Bool) (l : List Message) → anyb (λ (e : Message). is_message i u e && p e) (mails_off H l) ≡ anyb (λ (e : Message). is_message i u e && p e) l
  any_off u p l = any-filter (λ (e : Message). is_message i u e && p e) (stays_mail H) l λ e h. in_stays e (and_l (in_mailbox i e) (eqb e.uid.0 u) (and_l (is_message i u e) (p e) h))

-- ---- a change at an id that is left out
module _ (H : ℕ → Bool) (i : ℕ) (hi : H i ≡ true) where
  pub set-gone : (y : Mailbox) → H y.id ≡ true → (l : List Mailbox) → boxes_off H (set l (place i l) y) ≡ boxes_off H l
  unfolding place
  set-gone y e [] = refl
  set-gone y e (x ∷ l) = go (eqb x.id i) refl (set-gone y e l)
    where
      go : (c : Bool) → eqb x.id i ≡ c → boxes_off H (set l (place i l) y) ≡ boxes_off H l → boxes_off H (set (x ∷ l) (place i (x ∷ l)) y) ≡ keep (not (H x.id)) x (boxes_off H l)
      go true g ih = rw (g, e, ap H (eqb-true x.id i g) ∙ hi)
      go false g ih = rw (g, ih)

-- the mailbox with an id has it, where it is known
pub box_id : (i : ℕ) (l : List Mailbox) → known i l ≡ true → (the_mailbox i l).id ≡ i
unfolding place
box_id i [] k = tf false k refl
box_id i (x ∷ l) k = go (eqb x.id i) refl (box_id i l)
  where
    go : (c : Bool) → eqb x.id i ≡ c → (known i l ≡ true → (the_mailbox i l).id ≡ i) → (the_mailbox i (x ∷ l)).id ≡ i
    go true g ih = rw g (eqb-true x.id i g)
    go false g ih = rw g (ih (lt-ltb (place i l) (length l) (let z = ltb-true (suc (place i l)) (suc (length l)) (rw g at k) in omega arith)))

-- a mailbox that is looked up by an id that stays is none of H, also where there is none
pub box_stays : (H : ℕ → Bool) → H 0 ≡ false → (i : ℕ) → H i ≡ false → (l : List Mailbox) → H (the_mailbox i l).id ≡ false
unfolding place
box_stays H h0 i hi [] = h0
box_stays H h0 i hi (x ∷ l) = go (eqb x.id i) refl (box_stays H h0 i hi l)
  where
    go : (c : Bool) → eqb x.id i ≡ c → H (the_mailbox i l).id ≡ false → H (the_mailbox i (x ∷ l)).id ≡ false
    go true g ih = rw g (ap H (eqb-true x.id i g) ∙ hi)
    go false g ih = rw g ih
