-- The reason is the first that holds, and one always does; a refusal is given just where the call is refused; and the reason of a taken call as one chain of tests. Assumes nothing.
use Rattle.std.specs.Prelude.{◌≡◌, List, ◌∷◌, Bool, true, false, not, cond, ◌&&◌, ℕ, suc, ◌≤◌, ◌<◌, eqb, get_or}
use Rattle.std.proofs.Math.Path.{refl}
use Rattle.std.proofs.Common.{◌∙◌, ap}
use native.Mathlib.Omega.{arith}
use borrow.Author.Tests.{eqb-true, eqb-false, eq-eqb, ne_eqb, not-true}
use Rattle.model.specs.Lists.{anyb}
use Rattle.model.specs.Laws.{tf, and_l, and_r, and_false}
use Rattle.model.specs.Records.{record_of}
use Rattle.model.specs.Memory.{Memory}
use Rattle.model.specs.Groups.{groups_of, number}
use Rattle.model.specs.Answers.{number_of}
use Rattle.model.specs.Call.{call}
use Rattle.model.specs.Hidden.{Octets}
use Rattle.model.specs.Fates.{is_overflow}
use Rattle.model.specs.Reasons.{reason_number, Points, points, asked, any_meets, any_asks, first_asking, holds, reasons, reason}
use Rattle.model.specs.Reasoned.{ReasonSome, ReasonFirst, ReasonRefused}
use Rattle.model.specs.declared.Group.{Group}
use Rattle.model.specs.declared.Reason.{Reason}
use Rattle.model.specs.declared.Reason.TheVariants.{NoRecord, Refused, Quiet, NoEvent, RightMissing, Unmet, Unasked, Unannounced, Waiting, Overflow, Written}
use Rattle.demands.specs.Reasons.Numbers.{number_any}

-- ---- a taken call: the reasons from the second on, as one chain; over says that an overflow line was written
abbrev pub chain : List Group → Points → Bool → Reason
chain gs p over =
    cond p.quiet Quiet
    (cond (not p.event) NoEvent
    (cond (not p.rights) RightMissing
    (cond (not p.waits && not (anyb p.meets gs)) Unmet
    (cond (not p.waits && not (anyb p.asks gs)) Unasked
    (cond p.unannounced Unannounced
    (cond p.waits (Waiting p.class)
    (cond over Overflow (Written (number p.asks gs)))))))))

-- the tests of `holds` and those of the chain
links : (q e r w g s u over : Bool) (c n : ℕ)
    → cond q Quiet (cond (not e) NoEvent (cond (not r) RightMissing (cond (not w && not g) Unmet (cond (not w && (g && not s)) Unasked
    (cond u Unannounced (cond (w && true) (Waiting c) (cond over Overflow (cond (s && true) (Written n) NoRecord))))))))
    ≡ cond q Quiet (cond (not e) NoEvent (cond (not r) RightMissing (cond (not w && not g) Unmet (cond (not w && not s) Unasked
    (cond u Unannounced (cond w (Waiting c) (cond over Overflow (Written n))))))))
links true e r w g s u over c n = refl
links false false r w g s u over c n = refl
links false true false w g s u over c n = refl
links false true true true g s true over c n = refl
links false true true true g s false over c n = refl
links false true true false false s u over c n = refl
links false true true false true true u over c n = refl
links false true true false true false u over c n = refl

-- where neither test of groups says no and nothing waits, a group asks
asked_else : (w g s : Bool) → (w && true) ≡ false → (not w && not g) ≡ false → (not w && (g && not s)) ≡ false → s ≡ true
asked_else true g s a b c = tf true refl a
asked_else false true true a b c = refl
asked_else false true false a b c = tf true refl c
asked_else false false s a b c = tf true refl b

-- a reason with a value holds for one value alone, x
one_value : (b : ℕ → Bool) (x n : ℕ) → (b x && eqb x x) ≡ false → (b n && eqb x n) ≡ false
one_value b x n h = go (eqb x n) refl
  where
    go : (c : Bool) → eqb x n ≡ c → (b n && c) ≡ false
    go true e = rw (← eqb-true x n e, ← eq-eqb x x refl) h
    go false e = and_false (b n)

module _ (m : Memory) (o : Octets) where
  pub chained : number_of (call m o).answer ≡ 0 → reason m o ≡ chain (groups_of m.session) (points m (record_of o)) (anyb is_overflow (call m o).lines)
  unfolding reason
  chained e =
      let p = asked m o in
      rw (e, number_any p.asks (groups_of m.session), eq-eqb p.class p.class refl, eq-eqb (first_asking m o) (first_asking m o) refl)
      (links p.quiet p.event p.rights p.waits (any_meets m o) (any_asks m o) p.unannounced (anyb is_overflow (call m o).lines) p.class (first_asking m o))

  -- ---- of every call: the reason with a number and the value that it would have; with another value it does not hold
  abbrev at : ℕ → Reason
  at n = get_or (NoRecord ∷ reasons m o) n NoRecord

  alike : (y : Reason) → holds m o (at (reason_number y)) ≡ false → holds m o y ≡ false
  alike NoRecord h = h
  alike (Refused n) h = one_value (λ (j : ℕ). not (eqb j 0)) (number_of (call m o).answer) n h
  alike Quiet h = h
  alike NoEvent h = h
  alike RightMissing h = h
  alike Unmet h = h
  alike Unasked h = h
  alike Unannounced h = h
  alike (Waiting c) h = one_value (λ (j : ℕ). (asked m o).waits) (asked m o).class c h
  alike Overflow h = h
  alike (Written g) h = one_value (λ (j : ℕ). not (eqb j 0)) (first_asking m o) g h

  -- none with a lower number holds
  abbrev None : ℕ → Type 0
  None n = (y : Reason) → reason_number y < n → holds m o y ≡ false

  further : (n : ℕ) → None n → holds m o (at n) ≡ false → None (suc n)
  further n b f y h = go (eqb (reason_number y) n) refl
    where
      go : (c : Bool) → eqb (reason_number y) n ≡ c → holds m o y ≡ false
      go true e = alike y (ap (λ (j : ℕ). holds m o (at j)) (eqb-true (reason_number y) n e) ∙ f)
      go false e = b y (let k : reason_number y ≡ n → ⊥ = eqb-false (reason_number y) n e in omega arith)

  -- x holds, and is the first
  record First (x : Reason) : Type 0 where
    some : 1 ≤ reason_number x
    holding : holds m o x ≡ true
    none : None (reason_number x)

  rung : (n : ℕ) (rest : Reason) → 1 ≤ n → reason_number (at n) ≡ n → None n → (None (suc n) → First rest) → First (cond (holds m o (at n)) (at n) rest)
  rung n rest p e b other = go (holds m o (at n)) refl
    where
      go : (c : Bool) → holds m o (at n) ≡ c → First (cond c (at n) rest)
      go true h = record { some = rw e p; holding = h; none = rw e b }
      go false h = other (further n b h)

  -- the last holds where none before it does
  lastly : None 10 → holds m o (at 10) ≡ true
  lastly b =
      let c = (asked m o).class in
      let w : ((asked m o).waits && true) ≡ false = rw (eq-eqb c c refl) at (b (Waiting c) (omega arith)) in
      rw (number_any (asked m o).asks (groups_of m.session), eq-eqb (first_asking m o) (first_asking m o) refl)
      (ap (λ (s : Bool). s && true) (asked_else (asked m o).waits (any_meets m o) (any_asks m o) w (b Unmet (omega arith)) (b Unasked (omega arith))))

  firstly : First (reason m o)
  unfolding reason
  firstly =
      rung 1 _ (omega arith) refl (further 0 (λ y h. absurd (let z : ⊥ = omega arith in z)) refl) λ b.
      rung 2 _ (omega arith) refl b λ b.
      rung 3 _ (omega arith) refl b λ b.
      rung 4 _ (omega arith) refl b λ b.
      rung 5 _ (omega arith) refl b λ b.
      rung 6 _ (omega arith) refl b λ b.
      rung 7 _ (omega arith) refl b λ b.
      rung 8 _ (omega arith) refl b λ b.
      rung 9 _ (omega arith) refl b λ b.
      rung 10 _ (omega arith) refl b λ d. tf (holds m o (at 10)) (lastly b) (d (at 10) (omega arith))

pub some-reason : ReasonSome
some-reason m o = (firstly m o).some

pub first-reason : ReasonFirst
first-reason m o = ((firstly m o).holding, (firstly m o).none)

-- ---- refusals
pub refused-reason : ReasonRefused
unfolding reason
refused-reason = record {
  given = λ m o h.
      let n = number_of (call m o).answer in
      rw (ne_eqb n 0 (λ e. let z : ⊥ = omega arith in z), eq-eqb n n refl);
  only = λ m o n e.
      let h : holds m o (Refused n) ≡ true = rw e at (firstly m o).holding in
      let z : n ≡ 0 → ⊥ = eqb-false n 0 (not-true (eqb n 0) (and_l (not (eqb n 0)) _ h)) in
      (omega arith, eqb-true (number_of (call m o).answer) n (and_r (not (eqb n 0)) _ h));
}

-- any other reason is that of a taken call
pub taken-reason : (m : Memory) (o : Octets) → 2 ≤ reason_number (reason m o) → number_of (call m o).answer ≡ 0
taken-reason m o h = go (eqb (number_of (call m o).answer) 0) refl
  where
    go : (c : Bool) → eqb (number_of (call m o).answer) 0 ≡ c → number_of (call m o).answer ≡ 0
    go true e = eqb-true (number_of (call m o).answer) 0 e
    go false e =
        let n = eqb-false (number_of (call m o).answer) 0 e in
        let q = ap reason_number (refused-reason.given m o (omega arith)) in
        absurd (let z : ⊥ = omega arith in z)
