-- The message table of memory with an entry taken out of it: what the code makes is what the rules say. Assumes nothing.
use Rattle.std.specs.Prelude.{◌≡◌, refl, Bool, true, false, not, ◌&&◌, List, [], ◌∷◌, ◌++◌, ℕ, zero, suc, ◌+◌, ◌-◌, ◌<◌, ◌≤◌, max, eqb, length, take, drop, get_or}
use Rattle.std.proofs.Common.{ap, ap₂, sym, ◌∙◌, arith, length-take-le, get_or-take, take-take, take-add, drop_at as dropped-at, eqb-true, leb-true}
use Rattle.std.proofs.Math.Seq.{take-append-add}
use Rattle.std.proofs.lemmas.Bool.{not-true}
use Rattle.model.specs.Laws.{and_l, and_r, or_l, or_r, tf, or_true}
use Rattle.model.specs.Lists.{filterb, keep, anyb, apart}
use Rattle.model.specs.Memory.{Memory, mails, no_message, uid_of, is_message, refill, drop_mails}
use Rattle.model.specs.Lawful.{twin}
use Rattle.demands.specs.Lasting.Law.{Law}
use Rattle.demands.specs.Lasting.Clash.{eqb_sym}
use Rattle.model.specs.declared.Mailbox.{Mailbox}
use Rattle.model.specs.declared.Message.{Message}
use Rattle.laws.specs.Changing.{used_long}
use Rattle.laws.specs.Shift.{without, length_without}
use Rattle.table_messages.specs.Taken.{shut}

-- ---- the only one of its mailbox and UID
module _ (i u : ℕ) where
  abbrev stays : Message → Bool
  stays e = not (is_message i u e)

  twin_is : (x y : Message) → is_message i u x ≡ true → twin x y ≡ is_message i u y
  twin_is x y h =
      let a = eqb-true x.mailbox i (and_l (eqb x.mailbox i) (eqb (uid_of x) u) h) in
      let b = eqb-true (uid_of x) u (and_r (eqb x.mailbox i) (eqb (uid_of x) u) h) in
      ap₂ ◌&&◌ (ap (λ (n : ℕ). eqb n y.mailbox) a ∙ eqb_sym i y.mailbox) (ap (λ (n : ℕ). eqb n (uid_of y)) b ∙ eqb_sym u (uid_of y))

  others : (x : Message) (l : List Message) → is_message i u x ≡ true → anyb (λ (y : Message). twin x y) l ≡ false → filterb stays l ≡ l
  others x [] h n = refl
  others x (y ∷ l) h n =
      let b : is_message i u y ≡ false = sym (twin_is x y h) ∙ or_l (twin x y) _ n in
      rw b (ap (λ (t : List Message). y ∷ t) (others x l h (or_r (twin x y) _ n)))

  hit : (x : Message) (l : List Message) (k : ℕ) → k < length l → is_message i u (get_or l k no_message) ≡ true → is_message i u x ≡ true → anyb (λ (y : Message). twin x y) l ≡ true
  hit x [] k h e q = absurd (let z : ⊥ = omega arith in z)
  hit x (y ∷ l) zero h e q = rw (twin_is x y q, e)
  hit x (y ∷ l) (suc k) h e q = rw (hit x l k (omega arith) e q) (or_true (twin x y))

  pub out : (l : List Message) (k : ℕ) → apart twin l ≡ true → k < length l → is_message i u (get_or l k no_message) ≡ true → filterb stays l ≡ without k l
  out [] k a h e = absurd (let z : ⊥ = omega arith in z)
  out (x ∷ l) zero a h e = rw e (others x l e (not-true _ (and_l (not (anyb (λ (y : Message). twin x y) l)) (apart twin l) a)))
  out (x ∷ l) (suc k) a h e = go (is_message i u x) refl (out l k (and_r (not (anyb (λ (y : Message). twin x y) l)) (apart twin l) a) (omega arith) e)
    where
      go : (b : Bool) → is_message i u x ≡ b → filterb stays l ≡ without k l → keep (not b) x (filterb stays l) ≡ without (suc k) (x ∷ l)
      go true q ih = tf _ (hit x l k (omega arith) e q) (not-true (anyb (λ (y : Message). twin x y) l) (and_l (not (anyb (λ (y : Message). twin x y) l)) (apart twin l) a))
      go false q ih = ap (λ (t : List Message). x ∷ t) ih

-- the prefix of what is left is what is left of the prefix
without-take : (i n : ℕ) (l : List Message) → i ≤ n → n < length l → take n (without i l) ≡ without i (take (n + 1) l)
without-take i n l h hl =
    let hi : i ≤ length l = omega arith in
    let hs : suc i ≤ length l = omega arith in
    let hn : i ≤ n + 1 = omega arith in
    let f = length-take-le i l hi in
    let e : n ≡ length (take i l) + (n - i) = omega arith in
    let g : n + 1 ≡ suc i + (n - i) = omega arith in
    ap (λ (k : ℕ). take k (without i l)) e
    ∙ take-append-add (take i l) (drop (suc i) l) (n - i)
    ∙ ap (λ (r : List Message). r ++ take (n - i) (drop (suc i) l)) (sym (take-take i (n + 1) l hn))
    ∙ ap (λ (r : List Message). take i (take (n + 1) l) ++ r)
    (sym (ap (λ (k : ℕ). drop (suc i) (take k l)) g
    ∙ ap (λ (r : List Message). drop (suc i) r) (take-add (suc i) (n - i) l)
    ∙ dropped-at (take (suc i) l) (take (n - i) (drop (suc i) l)) (suc i) (length-take-le (suc i) l hs)))

closes : (t : List Message) (n k u : ℕ) → u ≡ n → k < n → n ≤ length t → refill no_message t u (without k (take n t)) ≡ shut k n t
closes t n k u e h w =
    let l = length-take-le n t w in
    let hk : k < length (take n t) = omega arith in
    let s = length_without k (take n t) hk in
    let a : u - length (without k (take n t)) ≡ 1 = omega arith in
    let b : max u (length (without k (take n t))) ≡ n = omega arith in
    let c : n - 1 + 1 ≡ n = omega arith in
    let d : take (n - 1) (without k t) ≡ without k (take n t) = without-take k (n - 1) t (omega arith) (omega arith) ∙ ap (λ (j : ℕ). without k (take j t)) c in
    rw (a, b) (ap (λ (r : List Message). r ++ (no_message ∷ drop n t)) (sym d))

-- the tables become these, and n messages are used
abbrev pub tables_are : Memory → List Mailbox → List Message → ℕ → Memory
tables_are m rs es n = record { rows = rs; entries = es; counts = record { mailboxes = m.counts.mailboxes; messages = n; filled = m.counts.filled }; session = m.session; queue = m.queue }

pub drop_at : (m : Memory) → Law m → (i u k : ℕ) → k < m.counts.messages → is_message i u (get_or m.entries k no_message) ≡ true
    → drop_mails m (is_message i u) ≡ tables_are m m.rows (shut k m.counts.messages m.entries) (m.counts.messages - 1)
drop_at m law i u k h is =
    let n = used_long m law in
    let w : m.counts.messages ≤ length m.entries = leb-true _ _ law.taken in
    let d = get_or-take m.counts.messages m.entries k no_message h in
    let hk : k < length (mails m) = omega arith in
    let f = out i u (mails m) k law.twins hk (ap (is_message i u) d ∙ is) in
    let s = length_without k (mails m) hk in
    let c : length (without k (mails m)) ≡ m.counts.messages - 1 = omega arith in
    ap₂ (tables_are m m.rows) (ap (refill no_message m.entries (length (mails m))) f ∙ closes m.entries m.counts.messages k (length (mails m)) n h w) (ap length f ∙ c)
