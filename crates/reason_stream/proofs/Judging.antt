-- The reason that the code finds is the rules' reason. Assumes nothing.
use Rattle.std.specs.Prelude.{◌≡◌, refl, Bool, true, false, not, cond, ◌&&◌, List, ℕ, zero, suc, ◌-◌, ◌≤◌, eqb}
use Rattle.std.proofs.Common.{ap, sym, ◌∙◌, arith, eqb-true, eq-eqb, ne_eqb}
use Rattle.model.specs.Lists.{anyb}
use Rattle.model.specs.Laws.{tf}
use Rattle.model.specs.Records.{Record, create, delete, rename, subscribe, grant, arrive, expunge, reflag, select, ended, command, drained, record_of_none, is_record, record_of}
use Rattle.model.specs.Memory.{Memory}
use Rattle.model.specs.Groups.{groups_of, number}
use Rattle.model.specs.Answers.{refusal_number, number_of}
use Rattle.model.specs.Rules.{Outcome}
use Rattle.model.specs.Call.{call}
use Rattle.model.specs.Fates.{is_overflow}
use Rattle.model.specs.Reasons as R
use Rattle.model.specs.Reasons.{points}
use Rattle.model.specs.Reasoned.{changes}
use Rattle.model.specs.declared.Refusal.{Refusal}
use Rattle.model.specs.declared.Refusal.TheVariants.{UnlawfulMemory, BadRecord, WrongId, NameHeld, WrongUid, WrongState, TableFull, NoRoom}
use Rattle.model.specs.declared.Reason.{Reason}
use Rattle.model.specs.declared.Reason.TheVariants.{Refused, Quiet, NoEvent, RightMissing, Unmet, Unasked, Unannounced, Waiting, Overflow, Written}
use Rattle.model.specs.declared.Session.{Session}
use Rattle.demands.specs.Theorems.{applies-refused}
use Rattle.demands.specs.Reasons.Numbers.{number_any}
use Rattle.demands.specs.Reasons.First.{chain, chained, refused-reason}
use Rattle.demands.specs.Reasons.Overflow.{overflow_hushes, number-stands}
use Rattle.reason_points.specs.declared.Points.{Points}
use Rattle.match_groups.specs.Asking.{numbered}
use Rattle.reason_points.specs.Showing.{shown, waiting_for}
use Rattle.reason_stream.specs.Judging.{first_of}

-- ---- they come to the chain, where `hushed` is right of a record that a group asks for
abbrev as_points : (q e r w g u : Bool) (c n : ℕ) → Points
as_points q e r w g u c n = record { quiet = q; event = e; rights = r; met = g; asking = numbered n; unannounced = u; waiting = waiting_for w c }

some-number : (n : ℕ) → eqb (suc n) 0 ≡ false
some-number n = ne_eqb (suc n) 0 (λ (e : suc n ≡ 0). let z : ⊥ = omega arith in z)

links : (q e r w g u over hushed : Bool) (c n : ℕ) → (eqb n 0 ≡ false → e ≡ true → over ≡ hushed)
    → cond q Quiet (cond (not e) NoEvent (cond (not r) RightMissing (cond (not w && not g) Unmet (cond (not w && not (not (eqb n 0))) Unasked (cond u Unannounced (cond w (Waiting c) (cond over Overflow (Written n))))))))
    ≡ first_of (as_points q e r w g u c n) hushed
links true e r w g u over hushed c n h = refl
links false false r w g u over hushed c n h = refl
links false true false w g u over hushed c n h = refl
links false true true true g u over hushed c n h = refl
links false true true false false u over hushed c n h = refl
links false true true false true u over hushed c zero h = refl
links false true true false true true over hushed c (suc n) h = rw (some-number n)
links false true true false true false over hushed c (suc n) h = rw (some-number n, h (some-number n) refl)

chain_is : (s : Session) (p : R.Points) (over hushed : Bool) → (eqb (number p.asks (groups_of s)) 0 ≡ false → p.event ≡ true → over ≡ hushed) → chain (groups_of s) p over ≡ first_of (shown s p) hushed
chain_is s p over hushed h =
    let n = number p.asks (groups_of s) in
    rw (← number_any p.asks (groups_of s)) (links p.quiet p.event p.rights p.waits (anyb p.meets (groups_of s)) p.unannounced over hushed p.class n h)

-- an event is a change
event-changes : (m : Memory) (r : Record) → (points m r).event ≡ true → changes r ≡ true
unfolding points
event-changes m (create i a q v c n) h = refl
event-changes m (delete i q) h = refl
event-changes m (rename i q n) h = refl
event-changes m (subscribe i b q) h = refl
event-changes m (grant i r) h = refl
event-changes m (arrive i u f z c) h = refl
event-changes m (expunge i u c) h = refl
event-changes m (reflag i u f c) h = refl
event-changes m (select i) h = h
event-changes m (ended c) h = h
event-changes m (command t) h = h
event-changes m (drained n) h = h
event-changes m record_of_none h = h

-- what is taken is a record
refusal_some : (q : Refusal) → eqb (refusal_number q) 0 ≡ false
refusal_some UnlawfulMemory = refl
refusal_some BadRecord = refl
refusal_some WrongId = refl
refusal_some NameHeld = refl
refusal_some WrongUid = refl
refusal_some WrongState = refl
refusal_some TableFull = refl
refusal_some NoRoom = refl

positive : (n : ℕ) → eqb n 0 ≡ false → 1 ≤ n
positive zero e = tf true refl e
positive (suc n) e = omega arith

module _ (m : Memory) (o : List ℕ) where
  record-taken : number_of (call m o).answer ≡ 0 → is_record o ≡ true
  record-taken e = go (is_record o) refl
    where
      go : (b : Bool) → is_record o ≡ b → b ≡ true
      go true f = refl
      go false f =
          let z = applies-refused m o BadRecord (ap not f) in
          tf (eqb (number_of (call m o).answer) 0) (eq-eqb _ 0 e) (ap (λ (x : Outcome). eqb (number_of x.answer) 0) z.1 ∙ refusal_some z.0)

  -- the reason
  pub judged : (p : Points) (hushed : Bool) (n : ℕ) {y : Reason} → (is_record o ≡ true → p ≡ shown m.session (points m (record_of o)))
      → hushed ≡ eqb (call m o).after.session.groupcount 0 → n ≡ number_of (call m o).answer → y ≡ cond (eqb n 0) (first_of p hushed) (Refused n) → y ≡ R.reason m o
  judged p hushed n {y} f g h k = k ∙ go (eqb n 0) refl
    where
      go : (b : Bool) → eqb n 0 ≡ b → cond b (first_of p hushed) (Refused n) ≡ R.reason m o
      go false e = ap Refused h ∙ sym (refused-reason.given m o (rw h at (positive n e)))
      go true e =
          let z : number_of (call m o).answer ≡ 0 = sym h ∙ eqb-true n 0 e in
          let r = points m (record_of o) in
          ap (λ (x : Points). first_of x hushed) (f (record-taken z))
          ∙ sym (chained m o z ∙ chain_is m.session r (anyb is_overflow (call m o).lines) hushed (λ a b. overflow_hushes m o z (event-changes m (record_of o) b) (number-stands r.asks m.session a) ∙ sym g))
