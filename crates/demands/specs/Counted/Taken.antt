-- A call is refused and leaves memory as it was, or is taken and not to be refused; and what lines leave, a told event and a command leave. Assumes nothing.
use Rattle.std.specs.Prelude.{◌≡◌, refl, List, [], ◌∷◌, Bool, not, cond, ℕ, eqb}
use Rattle.std.proofs.Math.Bool.{true, false}
use Rattle.std.proofs.lemmas.Bool.{not-false}
use Rattle.std.proofs.Common.{eq-eqb}
use Rattle.model.specs.Laws.{tf}
use Rattle.model.specs.Commands.{command_of}
use Rattle.model.specs.Records.{Record, create, delete, rename, subscribe, grant, arrive, expunge, reflag, select, ended, command, drained, record_of_none, is_record, record_of}
use Rattle.model.specs.Memory.{Memory, with_session}
use Rattle.model.specs.Lines.{Line, overflow}
use Rattle.model.specs.Queue.{fits, say}
use Rattle.model.specs.Events.{Event, silence, tellings, settled}
use Rattle.model.specs.Answering.{is_accepted, reply, answer_lines, with_asked, answered}
use Rattle.model.specs.Answers.{refusal_number, number_of}
use Rattle.model.specs.Lawful.{lawful}
use Rattle.model.specs.Refusals.{wrong_id, name_held, wrong_uid, wrong_state, table_full}
use Rattle.model.specs.Rules.{Outcome, event_outcome, accepted}
use Rattle.model.specs.Call.{call, refuse, roomless}
use Rattle.model.specs.Hidden.{Octets}
use Rattle.model.specs.declared.Session.{Session}
use Rattle.demands.specs.Lasting.Law.{Law, law_out}
use Rattle.demands.specs.Lasting.Ranges.{InRange, in_range_lem}
use Rattle.model.specs.declared.Refusal.{Refusal}
use Rattle.model.specs.declared.Refusal.TheVariants.{UnlawfulMemory, BadRecord, WrongId, NameHeld, WrongUid, WrongState, TableFull, NoRoom}

-- what is accepted is not refused
pub Unrefused : (m : Memory) (r : Record) → number_of (accepted m r).answer ≡ 0
unfolding accepted
Unrefused m (create i a q v c n) = refl
Unrefused m (delete i q) = refl
Unrefused m (rename i q n) = refl
Unrefused m (subscribe i s q) = refl
Unrefused m (grant i r) = refl
Unrefused m (arrive i u f z c) = refl
Unrefused m (expunge i u c) = refl
Unrefused m (reflag i u f c) = refl
Unrefused m (select i) = refl
Unrefused m (ended c) = refl
Unrefused m (command t) = refl
Unrefused m (drained n) = refl
Unrefused m record_of_none = refl

-- ---- a claim of what a call gives
module _ (P : Outcome → Type 0) where
  rung : (b : Bool) (x y : Outcome) → P x → (b ≡ false → P y) → P (cond b x y)
  rung true x y l r = l
  rung false x y l r = r refl

  module _ (m : Memory) (o : Octets) (refused : (r : Refusal) → P (refuse m r)) where
    ladder : (lawful m ≡ true → is_record o ≡ true → wrong_id m (record_of o) ≡ false → wrong_uid m (record_of o) ≡ false → P (accepted m (record_of o))) → P (call m o)
    unfolding call
    ladder takes =
        rung (not (lawful m)) _ _ (refused UnlawfulMemory) λ l.
        rung (not (is_record o)) _ _ (refused BadRecord) λ i.
        rung (wrong_id m (record_of o)) _ _ (refused WrongId) λ d.
        rung (name_held m (record_of o)) _ _ (refused NameHeld) λ _.
        rung (wrong_uid m (record_of o)) _ _ (refused WrongUid) λ e.
        rung (wrong_state m (record_of o)) _ _ (refused WrongState) λ _.
        rung (table_full m (record_of o)) _ _ (refused TableFull) λ _.
        rung (roomless m (record_of o)) _ _ (refused NoRoom) λ _.
        takes (not-false (lawful m) l) (not-false (is_record o) i) d e

-- a refusal has a number
refused-number : (r : Refusal) → eqb (refusal_number r) 0 ≡ false
refused-number UnlawfulMemory = refl
refused-number BadRecord = refl
refused-number WrongId = refl
refused-number NameHeld = refl
refused-number WrongUid = refl
refused-number WrongState = refl
refused-number TableFull = refl
refused-number NoRoom = refl

-- ---- of whether it is taken and of the memory after it
module _ (P : Bool → Memory → Type 0) (m : Memory) (o : Octets) (stays : P false m) where
  pub by_call : (Law m → wrong_id m (record_of o) ≡ false → wrong_uid m (record_of o) ≡ false → P true (accepted m (record_of o)).after) → P (eqb (number_of (call m o).answer) 0) (call m o).after
  by_call takes = ladder (λ (x : Outcome). P (eqb (number_of x.answer) 0) x.after) m o
      (λ r. rw (refused-number r) stays)
      (λ l i d e. rw (Unrefused m (record_of o)) (takes (law_out m l) d e))

-- ---- a call that is not refused: x is what it gives
pub record Taken (m : Memory) (o : Octets) (x : Outcome) : Type 0 where
  pub law : Law m
  pub range : InRange (record_of o)
  pub id : wrong_id m (record_of o) ≡ false
  pub uid : wrong_uid m (record_of o) ≡ false
  pub is : x ≡ accepted m (record_of o)

pub taken : (m : Memory) (o : Octets) → number_of (call m o).answer ≡ 0 → Taken m o (call m o)
taken m o = ladder (λ (x : Outcome). number_of x.answer ≡ 0 → Taken m o x) m o
    (λ r z. tf (eqb (refusal_number r) 0) (eq-eqb (refusal_number r) 0 z) (refused-number r))
    (λ l i d e z. record { law = law_out m l; range = in_range_lem o i; id = d; uid = e; is = refl })

-- ---- a claim of memory that writing lines leaves true
module _ (P : Memory → Type 0) (written : (n : Memory) (ls : List Line) → P n → P (say n ls)) (m : Memory) where
  -- an event is told, or overflows
  pub by_told : (event : Memory → Event) → P (event m).stored → P (event (silence m)).stored → P (event_outcome m event).after
  unfolding tellings settled
  by_told event a b = go (fits m (event m).lines)
    where
      go : (c : Bool) → P (say (cond c (event m).stored (event (silence m)).stored) (cond c (event m).lines (overflow ∷ [])))
      go true = written (event m).stored (event m).lines a
      go false = written (event (silence m)).stored (overflow ∷ []) b

  -- a command sets the session at most
  pub by-answered : ((n : Memory) (s : Session) → P n → P (with_session n s)) → (t : List ℕ) → P m → P (answered m t)
  unfolding answered
  by-answered session t a = go (is_accepted (reply m t))
    where
      go : (c : Bool) → P (cond c (with_asked (say m (answer_lines m t)) (command_of t)) (say m (answer_lines m t)))
      go true = session (say m (answer_lines m t)) _ (written m (answer_lines m t) a)
      go false = written m (answer_lines m t) a
