-- The entries of a mailbox by UID: their UIDs rise where no two entries are twins. So a filter and the order may change places,
-- and those below a bound come first. Assumes nothing.
use Rattle.std.specs.Prelude.{◌≡◌, refl, List, [], ◌∷◌, ◌++◌, map, Bool, true, false, not, cond, ℕ, ◌+◌, ◌<◌, ◌≤◌, eqb, ltb}
use Rattle.std.proofs.Common.{ap, sym, ◌∙◌, arith, eqb-true, eq-eqb, ne_eqb, leb-true, leb-false, le-leb, ltb-false, le-ltb}
use Rattle.std.proofs.lemmas.Bool.{not-true}
use Rattle.model.specs.Lists.{filterb, keep, anyb, allb, insert, sorted, apart}
use Rattle.model.specs.Laws.{tf, and_l, and_r, or_l, or_r, filter_none, filter-every, filter_map, all-sorted, sorted-map}
use Rattle.model.specs.Memory.{uid_of, in_mailbox, by_uid, messages_of}
use Rattle.model.specs.Lawful.{twin}
use Rattle.model.specs.declared.Message.{Message}

-- the UIDs rise, and are b at least
abbrev pub Rising : ℕ → List Message → Type 0
Rising b [] = Unit
Rising b (e ∷ l) = (b ≤ uid_of e) × Rising (uid_of e + 1) l

pub rising_low : (b c : ℕ) (l : List Message) → c ≤ b → Rising b l → Rising c l
rising_low b c [] h r = tt
rising_low b c (e ∷ l) h r = let k = r.0 in (omega arith, r.1)

pub rising-filter : (p : Message → Bool) (b : ℕ) (l : List Message) → Rising b l → Rising b (filterb p l)
rising-filter p b [] r = tt
rising-filter p b (e ∷ l) r = go (p e) (rising-filter p (uid_of e + 1) l r.1)
  where
    go : (c : Bool) → Rising (uid_of e + 1) (filterb p l) → Rising b (keep c e (filterb p l))
    go true ih = (r.0, ih)
    go false ih = let k = r.0 in rising_low (uid_of e + 1) b (filterb p l) (omega arith) ih

-- none of them is below b
pub rising-above : (b : ℕ) (l : List Message) → Rising b l → (u : ℕ) → u ≤ b → allb (λ (e : Message). not (ltb (uid_of e) u)) l ≡ true
rising-above b [] r u h = refl
rising-above b (e ∷ l) r u h = let k = r.0 in rw (le-ltb (uid_of e) u (omega arith)) (rising-above (uid_of e + 1) l r.1 u (omega arith))

pub rising-other : (b : ℕ) (l : List Message) → Rising b l → (u : ℕ) → u < b → allb (λ (e : Message). not (eqb (uid_of e) u)) l ≡ true
rising-other b [] r u h = refl
rising-other b (e ∷ l) r u h = let k = r.0 in rw (ne_eqb (uid_of e) u (λ q. (let z : ⊥ = omega arith in z))) (rising-other (uid_of e + 1) l r.1 u (omega arith))

-- those below a bound come first
pub rising_parts : (t b : ℕ) (l : List Message) → Rising b l → filterb (λ (e : Message). ltb (uid_of e) t) l ++ filterb (λ (e : Message). not (ltb (uid_of e) t)) l ≡ l
rising_parts t b [] r = refl
rising_parts t b (e ∷ l) r = go (ltb (uid_of e) t) refl (rising_parts t (uid_of e + 1) l r.1)
  where
    go : (c : Bool) → ltb (uid_of e) t ≡ c → filterb (λ (d : Message). ltb (uid_of d) t) l ++ filterb (λ (d : Message). not (ltb (uid_of d) t)) l ≡ l
        → keep c e (filterb (λ (d : Message). ltb (uid_of d) t) l) ++ keep (not c) e (filterb (λ (d : Message). not (ltb (uid_of d) t)) l) ≡ e ∷ l
    go true q ih = ap (λ (k : List Message). e ∷ k) ih
    go false q ih =
        let k = ltb-false (uid_of e) t q in
        let a = rising-above (uid_of e + 1) l r.1 t (omega arith) in
        rw (filter_none (λ (d : Message). ltb (uid_of d) t) l a, filter-every (λ (d : Message). not (ltb (uid_of d) t)) l a)

-- ---- the order
pub rising-insert : (b : ℕ) (x : Message) (l : List Message) → b ≤ uid_of x → allb (λ (y : Message). not (eqb (uid_of x) (uid_of y))) l ≡ true → Rising b l → Rising b (insert by_uid x l)
rising-insert b x [] h a r = (h, tt)
rising-insert b x (y ∷ l) h a r = go (by_uid x y) refl (λ k. rising-insert (uid_of y + 1) x l k (and_r (not (eqb (uid_of x) (uid_of y))) _ a) r.1)
  where
    go : (c : Bool) → by_uid x y ≡ c → (uid_of y + 1 ≤ uid_of x → Rising (uid_of y + 1) (insert by_uid x l)) → Rising b (cond c (x ∷ y ∷ l) (y ∷ insert by_uid x l))
    go true e ih =
        let k = leb-true (uid_of x) (uid_of y) e in
        let n : uid_of x ≡ uid_of y → ⊥ = λ q. tf (not (eqb (uid_of x) (uid_of y))) (and_l (not (eqb (uid_of x) (uid_of y))) _ a) (ap not (eq-eqb (uid_of x) (uid_of y) q)) in
        (h, (omega arith, r.1))
    go false e ih = let k = leb-false (uid_of x) (uid_of y) e in (r.0, ih (omega arith))

insert_first : (b : ℕ) (x : Message) (l : List Message) → uid_of x ≤ b → Rising b l → insert by_uid x l ≡ x ∷ l
insert_first b x [] h r = refl
insert_first b x (y ∷ l) h r = let k = r.0 in rw (le-leb (uid_of x) (uid_of y) (omega arith))

filter-insert : (p : Message → Bool) (b : ℕ) (x : Message) (l : List Message) → Rising b l → filterb p (insert by_uid x l) ≡ cond (p x) (insert by_uid x (filterb p l)) (filterb p l)
filter-insert p b x [] r = go (p x)
  where
    go : (c : Bool) → keep c x [] ≡ cond c (x ∷ []) []
    go true = refl
    go false = refl
filter-insert p b x (y ∷ l) r = go (by_uid x y) refl (filter-insert p (uid_of y + 1) x l r.1)
  where
    kept : (c : Bool) (k : List Message) → keep c x k ≡ cond c (x ∷ k) k
    kept true k = refl
    kept false k = refl

    behind : by_uid x y ≡ false → (c d : Bool) → keep d y (cond c (insert by_uid x (filterb p l)) (filterb p l)) ≡ cond c (insert by_uid x (keep d y (filterb p l))) (keep d y (filterb p l))
    behind e true true = rw e
    behind e true false = refl
    behind e false d = refl

    go : (c : Bool) → by_uid x y ≡ c → filterb p (insert by_uid x l) ≡ cond (p x) (insert by_uid x (filterb p l)) (filterb p l)
        → filterb p (cond c (x ∷ y ∷ l) (y ∷ insert by_uid x l)) ≡ cond (p x) (insert by_uid x (filterb p (y ∷ l))) (filterb p (y ∷ l))
    go true e ih = rw (insert_first (uid_of y) x (filterb p (y ∷ l)) (leb-true (uid_of x) (uid_of y) e) (rising-filter p (uid_of y) (y ∷ l) (omega arith, r.1))) (kept (p x) (filterb p (y ∷ l)))
    go false e ih = ap (keep (p y) y) ih ∙ behind e (p x) (p y)

-- ---- the entries of a mailbox
pub twin-apart : (x y : Message) → twin x y ≡ false → x.mailbox ≡ y.mailbox → uid_of x ≡ uid_of y → ⊥
twin-apart x y h a b = tf (twin x y) (rw (eq-eqb x.mailbox y.mailbox a, eq-eqb (uid_of x) (uid_of y) b)) h

module _ (i : ℕ) where
  others : (x : Message) (l : List Message) → in_mailbox i x ≡ true → anyb (λ (y : Message). twin x y) l ≡ false → allb (λ (y : Message). not (eqb (uid_of x) (uid_of y))) (filterb (in_mailbox i) l) ≡ true
  others x [] h a = refl
  others x (y ∷ l) h a = go (in_mailbox i y) refl (others x l h (or_r (twin x y) _ a))
    where
      unlike : in_mailbox i y ≡ true → (c : Bool) → eqb (uid_of x) (uid_of y) ≡ c → not c ≡ true
      unlike k true e = absurd (twin-apart x y (or_l (twin x y) _ a) (eqb-true x.mailbox i h ∙ sym (eqb-true y.mailbox i k)) (eqb-true (uid_of x) (uid_of y) e))
      unlike k false e = refl

      go : (c : Bool) → in_mailbox i y ≡ c → allb (λ (z : Message). not (eqb (uid_of x) (uid_of z))) (filterb (in_mailbox i) l) ≡ true
          → allb (λ (z : Message). not (eqb (uid_of x) (uid_of z))) (keep c y (filterb (in_mailbox i) l)) ≡ true
      go true k ih = rw (unlike k (eqb (uid_of x) (uid_of y)) refl) ih
      go false k ih = ih

  pub rising_messages : (l : List Message) → apart twin l ≡ true → Rising 0 (messages_of i l)
  rising_messages [] a = tt
  rising_messages (x ∷ l) a = go (in_mailbox i x) refl (rising_messages l (and_r (not (anyb (λ (y : Message). twin x y) l)) _ a))
    where
      go : (c : Bool) → in_mailbox i x ≡ c → Rising 0 (messages_of i l) → Rising 0 (sorted by_uid (keep c x (filterb (in_mailbox i) l)))
      go true e ih =
          let o = others x l e (not-true _ (and_l (not (anyb (λ (y : Message). twin x y) l)) _ a)) in
          rising-insert 0 x (messages_of i l) (omega arith) (all-sorted (λ (y : Message). not (eqb (uid_of x) (uid_of y))) by_uid (filterb (in_mailbox i) l) o) ih
      go false e ih = ih

  -- fewer entries, and changed ones
  pub messages-filter : (p : Message → Bool) (l : List Message) → apart twin l ≡ true → messages_of i (filterb p l) ≡ filterb p (messages_of i l)
  messages-filter p [] a = refl
  messages-filter p (x ∷ l) a = go (in_mailbox i x) refl (p x) refl (messages-filter p l (and_r (not (anyb (λ (y : Message). twin x y) l)) _ a))
    where
      at : filterb p (insert by_uid x (messages_of i l)) ≡ cond (p x) (insert by_uid x (filterb p (messages_of i l))) (filterb p (messages_of i l))
      at = filter-insert p 0 x (messages_of i l) (rising_messages l (and_r (not (anyb (λ (y : Message). twin x y) l)) _ a))

      go : (c : Bool) → in_mailbox i x ≡ c → (d : Bool) → p x ≡ d → messages_of i (filterb p l) ≡ filterb p (messages_of i l)
          → messages_of i (keep d x (filterb p l)) ≡ filterb p (sorted by_uid (keep c x (filterb (in_mailbox i) l)))
      go true e true f ih = rw e (ap (insert by_uid x) ih) ∙ sym (rw f at at)
      go true e false f ih = ih ∙ sym (rw f at at)
      go false e true f ih = rw e ih
      go false e false f ih = ih

  pub messages-map : (f : Message → Message) → ((e : Message) → in_mailbox i (f e) ≡ in_mailbox i e) → ((d e : Message) → by_uid (f d) (f e) ≡ by_uid d e)
      → (l : List Message) → messages_of i (map f l) ≡ map f (messages_of i l)
  messages-map f h k l = ap (sorted by_uid) (filter_map f (in_mailbox i) h l) ∙ sorted-map by_uid f k (filterb (in_mailbox i) l)
