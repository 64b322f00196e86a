-- Which entries the written lines stand for: by UID below a bound. Assumes nothing.
use Rattle.std.specs.Prelude.{◌≡◌, refl, Bool, true, false, not, cond, ◌&&◌, ◌||◌, List, [], ◌∷◌, ℕ, zero, suc, ◌+◌, ◌<◌, ◌≤◌, eqb, ltb, length, take, get_or}
use Rattle.std.proofs.Common.{ap, ap₂, sym, ◌∙◌, arith, eqb-true, eq-eqb, ne_eqb, lt-ltb, ltb-true}
use Rattle.std.proofs.lemmas.Bool.{not-true}
use Rattle.model.specs.Lists.{filterb, keep, anyb, insert, sorted, apart}
use Rattle.model.specs.Laws.{tf, and_l, and_r, and_false, or_l, or_r, or-false}
use Rattle.model.specs.Memory.{no_message, uid_of, is_message, in_mailbox, by_uid, messages_of}
use Rattle.model.specs.Lawful.{twin}
use Rattle.model.specs.declared.Message.{Message}
use Rattle.demands.specs.Lasting.Rising.{Rising, rising-filter, twin-apart, rising_messages}
use Rattle.event_session.specs.Sunk.{top_of}
use Rattle.event_session.specs.Runs.{seen, view_of, uids}

-- ---- rising numbers
abbrev pub Asc : ℕ → List ℕ → Type 0
Asc b [] = Unit
Asc b (u ∷ us) = (b ≤ u) × Asc (u + 1) us

below : (b x : ℕ) (us : List ℕ) → Asc b us → x < b → anyb (λ (u : ℕ). eqb x u) us ≡ false
below b x [] a h = refl
below b x (u ∷ us) a h = let k = a.0 in rw (ne_eqb x u (λ e. (let z : ⊥ = omega arith in z))) (below (u + 1) x us a.1 (omega arith))

top_least : (b n : ℕ) (us : List ℕ) → Asc b us → b ≤ top_of b (take n us)
unfolding top_of
top_least b zero us a = omega arith
top_least b (suc n) [] a = omega arith
top_least b (suc n) (u ∷ us) a = let k = a.0 in let h = top_least (u + 1) n us a.1 in omega arith

pub cut : (b n x : ℕ) (us : List ℕ) → Asc b us → anyb (λ (u : ℕ). eqb x u) (take n us) ≡ (anyb (λ (u : ℕ). eqb x u) us && ltb x (top_of b (take n us)))
unfolding top_of
cut b zero x us a = sym (go (ltb x b) refl)
  where
    go : (c : Bool) → ltb x b ≡ c → (anyb (λ (u : ℕ). eqb x u) us && c) ≡ false
    go true e = ap (λ (d : Bool). d && true) (below b x us a (ltb-true x b e))
    go false e = and_false (anyb (λ (u : ℕ). eqb x u) us)
cut b (suc n) x [] a = refl
cut b (suc n) x (u ∷ us) a = go (eqb x u) refl (cut (u + 1) n x us a.1)
  where
    go : (c : Bool) → eqb x u ≡ c → anyb (λ (v : ℕ). eqb x v) (take n us) ≡ (anyb (λ (v : ℕ). eqb x v) us && ltb x (top_of (u + 1) (take n us)))
        → (c || anyb (λ (v : ℕ). eqb x v) (take n us)) ≡ ((c || anyb (λ (v : ℕ). eqb x v) us) && ltb x (top_of (u + 1) (take n us)))
    go true e ih = let h = top_least (u + 1) n us a.1 in let q = eqb-true x u e in sym (lt-ltb x (top_of (u + 1) (take n us)) (omega arith))
    go false e ih = ih

-- ---- the UIDs of a mailbox's entries rise
rising_uids : (b : ℕ) (l : List Message) → Rising b l → Asc b (uids l)
rising_uids b [] r = tt
rising_uids b (e ∷ l) r = (r.0, rising_uids (uid_of e + 1) l r.1)

module _ (id : ℕ) where
  pub asc_uids : (told : ℕ) (p : Message → Bool) (l : List Message) → apart twin l ≡ true → Asc 0 (uids (filterb p (view_of told (messages_of id l))))
  asc_uids told p l a = rising_uids 0 (filterb p (view_of told (messages_of id l))) (rising-filter p 0 (view_of told (messages_of id l)) (rising-filter (seen told) 0 (messages_of id l) (rising_messages id l a)))

-- ---- tests of lists made of others
any_filt : (f p : Message → Bool) (l : List Message) → anyb f (filterb p l) ≡ anyb (λ (y : Message). p y && f y) l
any_filt f p [] = refl
any_filt f p (x ∷ l) = go (p x) (any_filt f p l)
  where
    go : (c : Bool) → anyb f (filterb p l) ≡ anyb (λ (y : Message). p y && f y) l → anyb f (keep c x (filterb p l)) ≡ ((c && f x) || anyb (λ (y : Message). p y && f y) l)
    go true ih = ap (λ (b : Bool). f x || b) ih
    go false ih = ih

any-insert : (f : Message → Bool) (x : Message) (l : List Message) → anyb f (insert by_uid x l) ≡ (f x || anyb f l)
any-insert f x [] = refl
any-insert f x (y ∷ l) = go (by_uid x y) (any-insert f x l)
  where
    swap : (a b c : Bool) → (b || (a || c)) ≡ (a || (b || c))
    swap true true c = refl
    swap true false c = refl
    swap false b c = refl

    go : (c : Bool) → anyb f (insert by_uid x l) ≡ (f x || anyb f l) → anyb f (cond c (x ∷ y ∷ l) (y ∷ insert by_uid x l)) ≡ (f x || (f y || anyb f l))
    go true ih = refl
    go false ih = ap (λ (b : Bool). f y || b) ih ∙ swap (f x) (f y) (anyb f l)

any-sorted : (f : Message → Bool) (l : List Message) → anyb f (sorted by_uid l) ≡ anyb f l
any-sorted f [] = refl
any-sorted f (x ∷ l) = any-insert f x (sorted by_uid l) ∙ ap (λ (b : Bool). f x || b) (any-sorted f l)

any_uids : (f : ℕ → Bool) (l : List Message) → anyb f (uids l) ≡ anyb (λ (y : Message). f (uid_of y)) l
any_uids f [] = refl
any_uids f (x ∷ l) = ap (λ (b : Bool). f (uid_of x) || b) (any_uids f l)

pub any_and : (a : Bool) (f : ℕ → Bool) (us : List ℕ) → anyb (λ (u : ℕ). a && f u) us ≡ (a && anyb f us)
any_and true f us = refl
any_and false f [] = refl
any_and false f (u ∷ us) = any_and false f us

any_at : (p : Message → Bool) (l : List Message) (k : ℕ) → anyb p l ≡ false → k < length l → p (get_or l k no_message) ≡ false
any_at p [] k a h = absurd (let z : ⊥ = omega arith in z)
any_at p (x ∷ l) zero a h = or_l (p x) _ a
any_at p (x ∷ l) (suc k) a h = any_at p l k (or_r (p x) _ a) (omega arith)

-- ---- of the messages of a list without twins, those with a line are those that pass
module _ (id : ℕ) (a p : Message → Bool) where
  abbrev hit : Message → Message → Bool
  hit x y = in_mailbox id y && (a y && (p y && is_message id (uid_of y) x))

  hit_no : (x y : Message) → (y.mailbox ≡ x.mailbox → uid_of y ≡ uid_of x → ⊥) → hit x y ≡ false
  hit_no x y n = go (hit x y) refl
    where
      go : (b : Bool) → hit x y ≡ b → hit x y ≡ false
      go true e =
          let i = and_l (in_mailbox id y) _ e in
          let j = and_r (p y) _ (and_r (a y) _ (and_r (in_mailbox id y) _ e)) in
          absurd (n (eqb-true y.mailbox id i ∙ sym (eqb-true x.mailbox id (and_l (eqb x.mailbox id) _ j))) (sym (eqb-true (uid_of x) (uid_of y) (and_r (eqb x.mailbox id) _ j))))
      go false e = e

  none_hit : (x : Message) (l : List Message) → anyb (λ (y : Message). twin x y) l ≡ false → anyb (hit x) l ≡ false
  none_hit x [] h = refl
  none_hit x (y ∷ l) h = rw (hit_no x y (λ e f. twin-apart x y (or_l (twin x y) _ h) (sym e) (sym f))) (none_hit x l (or_r (twin x y) _ h))

  own_hit : (x : Message) → hit x x ≡ (in_mailbox id x && (a x && p x))
  own_hit x = go (in_mailbox id x) (a x) (p x)
    where
      go : (i b c : Bool) → (i && (b && (c && (i && eqb (uid_of x) (uid_of x))))) ≡ (i && (b && c))
      go true true true = eq-eqb (uid_of x) (uid_of x) refl
      go true true false = refl
      go true false c = refl
      go false b c = refl

  own : (l : List Message) (k : ℕ) → apart twin l ≡ true → k < length l → anyb (hit (get_or l k no_message)) l ≡ (in_mailbox id (get_or l k no_message) && (a (get_or l k no_message) && p (get_or l k no_message)))
  own [] k t h = absurd (let z : ⊥ = omega arith in z)
  own (y ∷ l) zero t h = ap₂ ◌||◌ (own_hit y) (none_hit y l (not-true _ (and_l (not (anyb (λ (z : Message). twin y z) l)) _ t))) ∙ or-false (in_mailbox id y && (a y && p y))
  own (y ∷ l) (suc k) t h =
      let n = any_at (λ (z : Message). twin y z) l k (not-true _ (and_l (not (anyb (λ (z : Message). twin y z) l)) _ t)) (omega arith) in
      ap (λ (b : Bool). b || anyb (hit (get_or l k no_message)) l) (hit_no (get_or l k no_message) y (twin-apart y (get_or l k no_message) n)) ∙ own l k (and_r (not (anyb (λ (z : Message). twin y z) l)) _ t) (omega arith)

mix : (i a l s p : Bool) → (i && a) ≡ (i && (s && p)) → (p ≡ true → (i ≡ true) × (s ≡ true)) → (i && (a && l)) ≡ (p && (i && l))
mix true a l true true e f = ap (λ (b : Bool). b && l) e
mix true a l false true e f = tf false (f refl).1 refl
mix false a l s true e f = refl
mix true a l true false e f = ap (λ (b : Bool). b && l) e
mix true a l false false e f = ap (λ (b : Bool). b && l) e
mix false a l s false e f = refl

-- the lines of the first n of them stand for those below the bound
pub stands : (id told : ℕ) (p : Message → Bool) (l : List Message) (k n : ℕ) → apart twin l ≡ true → k < length l
    → (p (get_or l k no_message) ≡ true → (in_mailbox id (get_or l k no_message) ≡ true) × (seen told (get_or l k no_message) ≡ true))
    → anyb (λ (u : ℕ). is_message id u (get_or l k no_message)) (take n (uids (filterb p (view_of told (messages_of id l))))) ≡ (p (get_or l k no_message) && (in_mailbox id (get_or l k no_message) && ltb (uid_of (get_or l k no_message)) (top_of 0 (take n (uids (filterb p (view_of told (messages_of id l))))))))
stands id told p l k n t h f =
    any_and (in_mailbox id x) (λ (u : ℕ). eqb (uid_of x) u) (take n us)
    ∙ (ap (λ (b : Bool). in_mailbox id x && b) (cut 0 n (uid_of x) us (asc_uids id told p l t))
    ∙ mix (in_mailbox id x) (anyb (λ (u : ℕ). eqb (uid_of x) u) us) (ltb (uid_of x) (top_of 0 (take n us))) (seen told x) (p x) whole f)
  where
    x : Message
    x = get_or l k no_message

    us : List ℕ
    us = uids (filterb p (view_of told (messages_of id l)))

    whole : (in_mailbox id x && anyb (λ (u : ℕ). eqb (uid_of x) u) us) ≡ (in_mailbox id x && (seen told x && p x))
    whole =
        sym (any_and (in_mailbox id x) (λ (u : ℕ). eqb (uid_of x) u) us)
        ∙ (any_uids (λ (u : ℕ). is_message id u x) (filterb p (view_of told (messages_of id l)))
        ∙ (any_filt (λ (y : Message). is_message id (uid_of y) x) p (view_of told (messages_of id l))
        ∙ (any_filt (λ (y : Message). p y && is_message id (uid_of y) x) (seen told) (messages_of id l)
        ∙ (any-sorted (λ (y : Message). seen told y && (p y && is_message id (uid_of y) x)) (filterb (in_mailbox id) l)
        ∙ (any_filt (λ (y : Message). seen told y && (p y && is_message id (uid_of y) x)) (in_mailbox id) l
        ∙ own id (seen told) p l k t h)))))
