-- Demand 3 at the code: two runs of calls over lent memory that differ only in records about hidden ids show the same (01, Duties, 4 and 7 to 13). Assumes nothing.
use Rattle.std.specs.Prelude.{◌≡◌, List, [], ◌∷◌, map, Bool, false, not, ◌&&◌, ◌||◌, ℕ, eqb, length, take}
use Rattle.std.proofs.Math.ListN.{get_elem?}
use Rattle.model.specs.Lists.{filterb, anyb}
use Rattle.model.specs.Records.{about}
use Rattle.model.specs.Answers.{number_of, counts_of}
use Rattle.model.specs.Hidden.{Octets, visible, excepted, no_counts, no_session}
use Rattle.model.specs.declared.Mailbox.{Mailbox}
use Rattle.model.specs.declared.Answer.{Answer}
use Rattle.step.specs.Steps.{Lent, Steps}
use Rattle.table_messages.specs.Words.{messages}

-- a call that was made: its octets, its answer, and the lent memory after it
pub record Made : Type 0 where
  pub octets : Octets
  pub answer : Answer
  pub after : Lent

-- a run: each call is one of the step, on the memory that the call before it left
abbrev pub Runs : Lent → List Made → Type 0
Runs a [] = Unit
Runs a (c ∷ cs) = Steps a c.octets c.answer c.after × Runs c.after cs

-- the id holds l or r in the rows that are used
abbrev pub holds : ℕ → Lent → Bool
holds i a = anyb (λ (x : Mailbox). eqb x.id i && visible x) (take a.counts.mailboxes a.table)

-- at some moment of the run
abbrev pub ever : Lent → List Made → ℕ → Bool
ever a cs i = holds i a || anyb (λ (c : Made). holds i c.after) cs

-- at none, in neither run; 0 is no id
abbrev pub hidden_in : Lent → Lent → List Made → List Made → ℕ → Bool
hidden_in a b cs ds i = not (eqb i 0) && (not (ever a cs i) && not (ever b ds i))

-- the calls with records about other ids than those of H
abbrev pub others : (ℕ → Bool) → List Made → List Made
others H cs = filterb (λ (c : Made). not (H (about c.octets))) cs

-- none of them is refused by 4 or 7
abbrev pub Freely : List Made → Type 0
Freely cs = anyb (λ (c : Made). excepted c.answer) cs ≡ false

-- what a call shows: the number of its answer, its counts, and the octets that the queue holds after it
abbrev pub shows : Made → ℕ × List ℕ × List ℕ
shows c = (number_of c.answer, counts_of c.answer, take c.after.counts.filled c.after.queue)

-- two starts: no mailbox, no message, F = 0, none selected, no NOTIFY yet, the same sizes; whatever else lies in tables and queue may differ
pub record Begins (a b : Lent) : Type 0 where
  pub counts : a.counts ≡ no_counts
  pub counts' : b.counts ≡ no_counts
  pub session : a.session ≡ no_session
  pub session' : b.session ≡ no_session
  pub queue : length b.queue ≡ length a.queue
  pub table : length b.table ≡ length a.table
  pub entries : length (messages b.words) ≡ length (messages a.words)

-- DEMAND 3, of the step: the n-th call that remains shows the same in both runs
abbrev pub Alike : Type 0
Alike = (a b : Lent) → Begins a b → (cs ds : List Made) → Runs a cs → Runs b ds
    → map (λ (c : Made). c.octets) (others (hidden_in a b cs ds) cs) ≡ map (λ (c : Made). c.octets) (others (hidden_in a b cs ds) ds)
    → Freely (others (hidden_in a b cs ds) cs)
    → Freely (others (hidden_in a b cs ds) ds)
    → (k : ℕ) → get_elem? (map shows (others (hidden_in a b cs ds) cs)) k ≡ get_elem? (map shows (others (hidden_in a b cs ds) ds)) k
