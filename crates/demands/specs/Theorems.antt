-- Demands 1 and 3, the change counters, the parent and the reasons, proved of the definitions. Assumes nothing.
-- Demand 1: a call is refused exactly where a refusal applies, by the lowest that does; a refused call changes nothing; memory stays lawful.
-- Demand 3: Hidden.Demand3 holds, for any two starts.
use Rattle.std.proofs.Math.Path.{◌≡◌, ap}
use Rattle.std.specs.Prelude.{refl, List, [], ◌∷◌, Bool, true, false, not, cond, ℕ, suc, ◌+◌, ◌≤◌, ◌<◌, eqb, leb, length, drop}
use Rattle.std.proofs.Common.{sym, ◌∙◌, subst, eqb-true, leb-true, leb-false}
use native.Mathlib.Omega.{arith}
use Rattle.std.proofs.lemmas.Bool.{eqb-false, not-false}
use Rattle.std.proofs.Math.Dec.{leb-zero}
use Rattle.model.specs.Lists.{allb}
use Rattle.model.specs.Laws.{tf}
use Rattle.model.specs.Records.{ended, record_of}
use Rattle.model.specs.Memory.{Memory}
use Rattle.model.specs.View.{owed}
use Rattle.model.specs.Answers.{refusal_number, number_of}
use Rattle.model.specs.Lawful.{queue_ok, lawful}
use Rattle.model.specs.Rules.{Outcome, ended_at, accepted}
use Rattle.model.specs.Call.{applies, refuse, call}
use Rattle.model.specs.Hidden.{Octets, Called, calls, Starts, Demand3}
use Rattle.model.specs.Counters.{CounterHighest, CounterOwn}
use Rattle.model.specs.Parents.{ParentThere, ParentOwed, ParentUnseen}
use Rattle.model.specs.Reasoned.{ReasonSome, ReasonFirst, ReasonRefused}
use Rattle.demands.specs.Isolation.Streams.{demand}
use Rattle.demands.specs.Lasting.Law.{law_out}
use Rattle.demands.specs.Lasting.Calls.{keeps}
use Rattle.demands.specs.Lasting.Owing.{left-owed, left-counted}
use Rattle.demands.specs.Counted.Taken.{Unrefused}
use Rattle.demands.specs.Counted.Highest.{last-highest}
use Rattle.demands.specs.Counted.Own.{own_last}
use Rattle.demands.specs.Parents.Names.{there}
use Rattle.demands.specs.Parents.Owed.{owed_of_it}
use Rattle.demands.specs.Parents.Unseen.{unseen}
use Rattle.demands.specs.Reasons.First.{some-reason, first-reason, refused-reason}
use Rattle.model.specs.declared.Refusal.{Refusal}
use Rattle.model.specs.declared.Refusal.TheVariants.{UnlawfulMemory, BadRecord, WrongId, NameHeld, WrongUid, WrongState, TableFull, NoRoom}
use Rattle.model.specs.declared.Answer.{Answer}
use Rattle.model.specs.declared.Answer.TheVariants.{Done, Counted, Refused}

-- ---- DEMAND 3
pub isolated : Demand3
isolated = demand keeps

-- ---- CHANGE COUNTERS: a mailbox's is the last and the highest that it was given, a message's that of its own last change
pub counter-highest : CounterHighest
counter-highest = last-highest

pub counter_own : CounterOwn
counter_own = own_last

-- ---- THE PARENT (02, 2): what is told of it, and that a row without l shows nothing of itself
pub parent-there : ParentThere
parent-there = there

pub parent-owed : ParentOwed
parent-owed = owed_of_it

pub parent-unseen : ParentUnseen
parent-unseen = unseen

-- ---- THE REASON (02, 3): one of the ten is given, the first that holds, and a refusal just where the call is refused; of what is owed: Reasons.Reasoned
pub reason_some : ReasonSome
reason_some = some-reason

pub reason_first : ReasonFirst
reason_first = first-reason

pub reason-refused : ReasonRefused
reason-refused = refused-reason

-- ---- DEMAND 1
-- the refusal applies, and none with a lower number does
abbrev pub Lowest : Memory → Octets → Refusal → Type 0
Lowest m o r = (applies m o r ≡ true) × ((q : Refusal) → refusal_number q < refusal_number r → applies m o q ≡ false)

-- the refusal with a number
at : ℕ → Refusal
at n = cond (eqb n 1) UnlawfulMemory (cond (eqb n 2) BadRecord (cond (eqb n 3) WrongId (cond (eqb n 4) NameHeld (cond (eqb n 5) WrongUid (cond (eqb n 6) WrongState (cond (eqb n 7) TableFull NoRoom))))))

at-number : (r : Refusal) → at (refusal_number r) ≡ r
unfolding at
at-number UnlawfulMemory = refl
at-number BadRecord = refl
at-number WrongId = refl
at-number NameHeld = refl
at-number WrongUid = refl
at-number WrongState = refl
at-number TableFull = refl
at-number NoRoom = refl

same_number : (q r : Refusal) → refusal_number q ≡ refusal_number r → q ≡ r
same_number q r e = sym (at-number q) ∙ (ap at e ∙ at-number r)

number_positive : (r : Refusal) → 1 ≤ refusal_number r
number_positive UnlawfulMemory = omega arith
number_positive BadRecord = omega arith
number_positive WrongId = omega arith
number_positive NameHeld = omega arith
number_positive WrongUid = omega arith
number_positive WrongState = omega arith
number_positive TableFull = omega arith
number_positive NoRoom = omega arith

number_bounded : (r : Refusal) → refusal_number r < 9
number_bounded UnlawfulMemory = omega arith
number_bounded BadRecord = omega arith
number_bounded WrongId = omega arith
number_bounded NameHeld = omega arith
number_bounded WrongUid = omega arith
number_bounded WrongState = omega arith
number_bounded TableFull = omega arith
number_bounded NoRoom = omega arith

module _ (m : Memory) (o : Octets) where
  -- none with a number below n applies
  abbrev Below : ℕ → Type 0
  Below n = (q : Refusal) → refusal_number q < n → applies m o q ≡ false

  nothing : Below 1
  nothing q h = let p = number_positive q in absurd (let z : ⊥ = omega arith in z)

  further : (q : Refusal) → Below (refusal_number q) → applies m o q ≡ false → Below (refusal_number q + 1)
  further q b f k h = go (eqb (refusal_number k) (refusal_number q)) refl
    where
      go : (c : Bool) → eqb (refusal_number k) (refusal_number q) ≡ c → applies m o k ≡ false
      go true e = ap (applies m o) (same_number k q (eqb-true (refusal_number k) (refusal_number q) e)) ∙ f
      go false e = b k (let n : refusal_number k ≡ refusal_number q → ⊥ = eqb-false (refusal_number k) (refusal_number q) e in apartly (refusal_number k) (refusal_number q) h n)
        where
          apartly : (a c : ℕ) → a < c + 1 → (a ≡ c → ⊥) → a < c
          apartly a c h n = decide (leb (suc a) c) refl
            where
              decide : (d : Bool) → leb (suc a) c ≡ d → a < c
              decide true e = leb-true (suc a) c e
              decide false e = absurd (n (let z = leb-false (suc a) c e in omega arith))

  -- one rung: this refusal is the lowest that applies, or none up to it does
  rung : {P : Type 0} (q : Refusal) → Below (refusal_number q) → ((r : Refusal) → Lowest m o r → P) → (Below (refusal_number q + 1) → P) → P
  rung {P} q b given other = go (applies m o q) refl
    where
      go : (c : Bool) → applies m o q ≡ c → P
      go true a = given q (a, b)
      go false a = other (further q b a)

  -- one of them is the lowest that applies, or none applies
  ladder : {P : Type 0} → ((r : Refusal) → Lowest m o r → P) → (Below 9 → P) → P
  ladder given other =
      rung UnlawfulMemory nothing given λ b₁.
      rung BadRecord b₁ given λ b₂.
      rung WrongId b₂ given λ b₃.
      rung NameHeld b₃ given λ b₄.
      rung WrongUid b₄ given λ b₅.
      rung WrongState b₅ given λ b₆.
      rung TableFull b₆ given λ b₇.
      rung NoRoom b₇ given other

  -- the lowest refusal that applies is what the call gives, with no line, and the memory as it was
  pub lowest-refused : (r : Refusal) → Lowest m o r → call m o ≡ refuse m r
  unfolding call
  lowest-refused UnlawfulMemory l = rw l.0
  lowest-refused BadRecord l = rw (l.1 UnlawfulMemory (omega arith), l.0)
  lowest-refused WrongId l = rw (l.1 UnlawfulMemory (omega arith), l.1 BadRecord (omega arith), l.0)
  lowest-refused NameHeld l = rw (l.1 UnlawfulMemory (omega arith), l.1 BadRecord (omega arith), l.1 WrongId (omega arith), l.0)
  lowest-refused WrongUid l = rw (l.1 UnlawfulMemory (omega arith), l.1 BadRecord (omega arith), l.1 WrongId (omega arith), l.1 NameHeld (omega arith), l.0)
  lowest-refused WrongState l = rw (l.1 UnlawfulMemory (omega arith), l.1 BadRecord (omega arith), l.1 WrongId (omega arith), l.1 NameHeld (omega arith), l.1 WrongUid (omega arith), l.0)
  lowest-refused TableFull l = rw (
    l.1 UnlawfulMemory (omega arith),
    l.1 BadRecord (omega arith),
    l.1 WrongId (omega arith),
    l.1 NameHeld (omega arith),
    l.1 WrongUid (omega arith),
    l.1 WrongState (omega arith),
    l.0,
  )
  lowest-refused NoRoom l = rw (
    l.1 UnlawfulMemory (omega arith),
    l.1 BadRecord (omega arith),
    l.1 WrongId (omega arith),
    l.1 NameHeld (omega arith),
    l.1 WrongUid (omega arith),
    l.1 WrongState (omega arith),
    l.1 TableFull (omega arith),
    l.0,
  )

  -- where none applies, the record is accepted
  none-accepted : Below 9 → call m o ≡ accepted m (record_of o)
  unfolding call
  none-accepted b = rw (
    b UnlawfulMemory (omega arith),
    b BadRecord (omega arith),
    b WrongId (omega arith),
    b NameHeld (omega arith),
    b WrongUid (omega arith),
    b WrongState (omega arith),
    b TableFull (omega arith),
    b NoRoom (omega arith),
  )

  -- a refusal is answered only where it is the lowest that applies
  pub refused_lowest : (r : Refusal) → (call m o).answer ≡ Refused r → Lowest m o r
  refused_lowest r e = ladder
      (λ q l. let z : q ≡ r = same_number q r (ap number_of (sym (ap (λ (x : Outcome). x.answer) (lowest-refused q l)) ∙ e)) in subst (Lowest m o) z l)
      (λ b.
      let n : refusal_number r ≡ 0 = ap number_of (sym e ∙ ap (λ (x : Outcome). x.answer) (none-accepted b)) ∙ Unrefused m (record_of o) in
      let p = number_positive r in
      absurd (let w : ⊥ = omega arith in w))

  -- where any applies the call is refused, by it or by one with a lower number
  pub applies-refused : (r : Refusal) → applies m o r ≡ true → (q : Refusal) × (call m o ≡ refuse m q) × (refusal_number q ≤ refusal_number r)
  applies-refused r e = ladder
      (λ q l. (q, lowest-refused q l, least q l (leb (refusal_number q) (refusal_number r)) refl))
      (λ b. tf (applies m o r) e (b r (number_bounded r)))
    where
      least : (q : Refusal) → Lowest m o q → (c : Bool) → leb (refusal_number q) (refusal_number r) ≡ c → refusal_number q ≤ refusal_number r
      least q l true h = leb-true (refusal_number q) (refusal_number r) h
      least q l false h = tf (applies m o r) e (l.1 r (leb-false (refusal_number q) (refusal_number r) h))

  -- a refused call leaves every octet
  pub refused_same : (r : Refusal) → (call m o).answer ≡ Refused r → (call m o).after ≡ m
  refused_same r e = ap (λ (x : Outcome). x.after) (lowest-refused r (refused_lowest r e))

  -- a count is answered where the end of a command was accepted, in lawful memory
  counted-ended : (n : ℕ) → (call m o).answer ≡ Counted n → (c : ℕ) → record_of o ≡ ended c → (lawful m ≡ true) × (call m o ≡ ended_at m c)
  unfolding accepted
  counted-ended n e c r = ladder
      (λ q l. let z : ◌≡◌ {A = ℕ} 0 1 = clash q (sym e ∙ ap (λ (x : Outcome). x.answer) (lowest-refused q l)) in absurd (let w : ⊥ = omega arith in w))
      (λ b. (not-false (lawful m) (b UnlawfulMemory (omega arith)), none-accepted b ∙ ap (accepted m) r))
    where
      clash : (q : Refusal) → Counted n ≡ Refused q → ◌≡◌ {A = ℕ} 0 1
      clash q h = cc

  -- its class is then owed the lines that were not written, and the count is how many they are
  pub lines_left : (n : ℕ) → (call m o).answer ≡ Counted n → (c : ℕ) → record_of o ≡ ended c → owed (call m o).after c ≡ drop (length (call m o).lines) (owed m c)
  lines_left n e c r = let a = counted-ended n e c r in rw a.1 (left-owed m (law_out m a.0) c)

  pub count_left : (n : ℕ) → (call m o).answer ≡ Counted n → (c : ℕ) → record_of o ≡ ended c → n ≡ length (owed (call m o).after c)
  count_left n e c r =
      let a = counted-ended n e c r in
      let q : Counted n ≡ Counted (length (owed (call m o).after c)) = sym e ∙ rw a.1 (left-counted m (law_out m a.0) c) in
      cc

-- from lawful memory every call leaves lawful memory
pub stays-lawful : (m : Memory) (o : Octets) → lawful m ≡ true → lawful (call m o).after ≡ true
stays-lawful m o h = keeps m o ∙ h

-- so refusal 1 never comes up in a stream from lawful memory
pub never_unlawful : (m : Memory) → lawful m ≡ true → (os : List Octets) → allb (λ (c : Called). not (eqb (number_of c.answer) 1)) (calls m os) ≡ true
never_unlawful m h [] = refl
never_unlawful m h (o ∷ os) = rw (not_one (call m o).answer refl) (never_unlawful (call m o).after (stays-lawful m o h) os)
  where
    not_one : (a : Answer) → (call m o).answer ≡ a → not (eqb (number_of a) 1) ≡ true
    not_one Done e = refl
    not_one (Counted n) e = refl
    not_one (Refused UnlawfulMemory) e = tf (not (lawful m)) (refused_lowest m o UnlawfulMemory e).0 (ap not h)
    not_one (Refused BadRecord) e = refl
    not_one (Refused WrongId) e = refl
    not_one (Refused NameHeld) e = refl
    not_one (Refused WrongUid) e = refl
    not_one (Refused WrongState) e = refl
    not_one (Refused TableFull) e = refl
    not_one (Refused NoRoom) e = refl

-- a start with a lawful Q and lawful lengths is lawful
pub start-lawful : (m : Memory) → Starts m m → queue_ok (length m.queue) ≡ true → leb (length m.rows) 64 ≡ true → leb (length m.entries) 1024 ≡ true → lawful m ≡ true
unfolding lawful
start-lawful m z q r e = rw (z.counts, z.session, q, r, e, leb-zero (length m.queue), leb-zero (length m.rows), leb-zero (length m.entries))
