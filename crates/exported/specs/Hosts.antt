-- Runs of calls that a host makes, and what demands 2 and 3 say of them (01, Duties, 4 to 13). Assumes nothing.
use Rattle.std.specs.Prelude.{◌≡◌, List, [], ◌∷◌, ◌++◌, map, Bool, true, false, not, cond, ◌&&◌, ◌||◌, ℕ, suc, eqb, length, take}
use Rattle.std.proofs.Math.ListN.{get_elem?}
use Rattle.model.specs.Lists.{filterb, anyb}
use Rattle.model.specs.Records.{about, record_of, ended}
use Rattle.model.specs.Memory.{Memory, held, both_rights, selected_box}
use Rattle.model.specs.Call.{call}
use Rattle.model.specs.Hidden.{Octets}
use Rattle.model.specs.Fates.{Debt, waits, reported, tells, is_silent}
use Rattle.model.specs.Seen.{apparent, seen, history, setting_of, setting_by, held_by}
use Rattle.model.specs.Account.{front, settle, account_of, fate_at, Exact, Occasion, losses, overflows, Rested}
use Rattle.step.specs.Steps.{Lent, memory_of}
use Rattle.step.specs.Runs.{holds, Begins}
use Rattle.lent_answer.specs.declared.Answered.{Answered}
use Rattle.lent_answer.specs.Numbers.{numbers_said}
use Rattle.exported.specs.Called.{Calls}

-- a call that a host made: its octets, the numbers that it was answered, and what it lent as the call left it
pub record Hosted : Type 0 where
  pub octets : Octets
  pub answer : Answered
  pub after : Lent

-- the exported step, called with c on what lies in a
abbrev pub Makes : Lent → Hosted → Type 0
Makes a c = Calls a c.octets c.answer c.after

-- a run: each call is on the memory that the one before it left
abbrev pub HostRuns : Lent → List Hosted → Type 0
HostRuns a [] = Unit
HostRuns a (c ∷ cs) = Makes a c × HostRuns c.after cs

-- the memory that a run leaves, and its octet strings
abbrev pub last_of : Lent → List Hosted → Lent
last_of a [] = a
last_of a (c ∷ cs) = last_of c.after cs

abbrev pub octets_of : List Hosted → List Octets
octets_of cs = map (λ (c : Hosted). c.octets) cs

-- ---- demand 3
-- an id that holds l or r at no moment, in neither run; 0 is no id
abbrev pub ever_in : Lent → List Hosted → ℕ → Bool
ever_in a cs i = holds i a || anyb (λ (c : Hosted). holds i c.after) cs

abbrev pub hidden_of : Lent → Lent → List Hosted → List Hosted → ℕ → Bool
hidden_of a b cs ds i = not (eqb i 0) && (not (ever_in a cs i) && not (ever_in b ds i))

-- the calls with records about other ids than those of H
abbrev pub besides : (ℕ → Bool) → List Hosted → List Hosted
besides H cs = filterb (λ (c : Hosted). not (H (about c.octets))) cs

-- none of them is refused by 4 or 7
abbrev pub Unrefused : List Hosted → Type 0
Unrefused cs = anyb (λ (c : Hosted). eqb c.answer.refusal 4 || eqb c.answer.refusal 7) cs ≡ false

-- what a call shows: its numbers, and the octets that the queue holds after it
abbrev pub shown : Hosted → Answered × List ℕ
shown c = (c.answer, take c.after.counts.filled c.after.queue)

-- DEMAND 3, of the exported step: two runs that differ only in records about hidden ids show the same
abbrev pub HostsAlike : Type 0
HostsAlike = (a b : Lent) → Begins a b → (cs ds : List Hosted) → HostRuns a cs → HostRuns b ds
    → octets_of (besides (hidden_of a b cs ds) cs) ≡ octets_of (besides (hidden_of a b cs ds) ds)
    → Unrefused (besides (hidden_of a b cs ds) cs)
    → Unrefused (besides (hidden_of a b cs ds) ds)
    → (k : ℕ) → get_elem? (map shown (besides (hidden_of a b cs ds) cs)) k ≡ get_elem? (map shown (besides (hidden_of a b cs ds) ds)) k

-- ---- demand 2
-- the rules' memory behind what a run left
abbrev pub behind : Lent → List Hosted → Memory
behind a cs = memory_of (last_of a cs)

-- DEMAND 2, of the exported step: after any run from a, and by the numbers that it answers
pub record HostsTold (a : Lent) : Type 0 where
  -- a call's notices are just what is owed
  pub exact : (cs : List Hosted) → HostRuns a cs → (o : Octets) → Exact (account_of (memory_of a) (octets_of cs)) (seen (behind a cs) o)
  -- the numbers are the rules' answer; a call that is answered 0 is taken
  pub answers : (cs : List Hosted) → HostRuns a cs → (c : Hosted) → Makes (last_of a cs) c → c.answer ≡ numbers_said (call (behind a cs) c.octets).answer
  -- the octets of its lines are what it adds to the lent queue
  pub octets : (cs : List Hosted) → HostRuns a cs → (c : Hosted) → Makes (last_of a cs) c
      → take c.after.counts.filled c.after.queue
      ≡ cond (eqb c.answer.refusal 0) (held_by (held (behind a cs)) (record_of c.octets) (call (behind a cs) c.octets).lines) (held (behind a cs))
  -- Q stays what it was
  pub queue-length : (cs : List Hosted) → HostRuns a cs → length (last_of a cs).queue ≡ length a.queue
  -- what the account sees of mailboxes, groups, selection and F is what the history left
  pub setting : (cs : List Hosted) → HostRuns a cs → (c : Hosted) → Makes (last_of a cs) c → setting_of (memory_of c.after) ≡ setting_by (setting_of (behind a cs)) (seen (behind a cs) c.octets)
  -- nothing owed at once is left out, unless the overflow line was written in that call
  pub never-silent : (cs : List Hosted) → HostRuns a cs → anyb is_silent (account_of (memory_of a) (octets_of cs)).fates ≡ false
  -- what waits ceases to wait by a line that tells it, by `SE` or by its message's expunge, and in no other way
  pub settles : (cs : List Hosted) → HostRuns a cs → (c : Hosted) → Makes (last_of a cs) c → (k : ℕ) (d : Debt) → fate_at (account_of (memory_of a) (octets_of cs)) k ≡ waits d
      → fate_at (account_of (memory_of a) (octets_of cs ++ (c.octets ∷ []))) k
      ≡ cond (eqb c.answer.refusal 0) (settle (apparent (behind a cs)) (suc (length (octets_of cs))) (record_of c.octets) (call (behind a cs) c.octets).lines (waits d)) (waits d)
  -- with l and r held what waits is told by the first occasion
  pub first_occasion : (cs : List Hosted) → HostRuns a cs → (c : Hosted) → Makes (last_of a cs) c → (k : ℕ) (d : Debt) → fate_at (account_of (memory_of a) (octets_of cs)) k ≡ waits d
      → eqb c.answer.refusal 0 ≡ true → both_rights (selected_box (behind a cs)) ≡ true → Occasion (account_of (memory_of a) (octets_of cs)) (seen (behind a cs) c.octets) d
      → fate_at (account_of (memory_of a) (octets_of cs ++ (c.octets ∷ []))) k ≡ reported (suc (length (octets_of cs)))
  -- a command end, whatever its room, tells of what waits exactly what its front tells; the rest waits on
  pub told_in-part : (cs : List Hosted) → HostRuns a cs → (c : Hosted) → Makes (last_of a cs) c → (k : ℕ) (d : Debt) → fate_at (account_of (memory_of a) (octets_of cs)) k ≡ waits d
      → eqb c.answer.refusal 0 ≡ true → (n : ℕ) → record_of c.octets ≡ ended n
      → fate_at (account_of (memory_of a) (octets_of cs ++ (c.octets ∷ []))) k ≡ cond (tells (front (apparent (behind a cs)) (account_of (memory_of a) (octets_of cs)) n) d) (reported (suc (length (octets_of cs)))) (waits d)
  -- calls without an overflow line lose nothing
  pub no_loss : (cs ds : List Hosted) → HostRuns a cs → HostRuns (last_of a cs) ds → overflows (history (behind a cs) (octets_of ds)) ≡ false
      → losses (account_of (memory_of a) (octets_of cs ++ octets_of ds)) ≡ losses (account_of (memory_of a) (octets_of cs))
  -- after calls without an overflow line and then a command end of class 1 that counts 0, with l and r held, every change is settled, and none was lost
  pub all_told : (cs ds : List Hosted) → HostRuns a cs → HostRuns (last_of a cs) ds → (c : Hosted) → Makes (last_of (last_of a cs) ds) c
      → overflows (history (behind a cs) (octets_of ds ++ (c.octets ∷ []))) ≡ false → record_of c.octets ≡ ended 1 → both_rights (selected_box (behind (last_of a cs) ds)) ≡ true
      → c.answer ≡ record { refusal = 0; counted = 1; count = 0 }
      → Rested (account_of (memory_of a) (octets_of cs)) (account_of (memory_of a) (octets_of cs ++ (octets_of ds ++ (c.octets ∷ []))))
