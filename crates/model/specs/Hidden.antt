-- Demand 3 as a statement: two streams that differ only in records about hidden ids show the same (01, Duties, 4 and 7 to 13).
use Rattle.std.specs.Prelude.{◌≡◌, List, [], ◌∷◌, map, Bool, false, not, ◌&&◌, ◌||◌, ℕ, eqb, length, replicate}
use Rattle.std.proofs.Math.ListN.{get_elem?}
use Rattle.model.specs.Lists.{filterb, anyb}
use Rattle.model.specs.Records.{about}
use Rattle.model.specs.Memory.{Memory, boxes, held, may_list, may_read, no_group, no_name}
use Rattle.model.specs.Answers.{number_of, counts_of}
use Rattle.model.specs.Call.{call}
use Rattle.model.specs.declared.Mailbox.{Mailbox}
use Rattle.model.specs.declared.Counts.{Counts}
use Rattle.model.specs.declared.Session.{Session}
use Rattle.model.specs.declared.Answer.{Answer}

-- an octet string; a stream is a list of them (Duties, 8)
abbrev pub Octets : Type 0
Octets = List ℕ

-- one call of a stream: the octet string, its answer, and the memory that it leaves
pub record Called : Type 0 where
  pub octets : Octets
  pub answer : Answer
  pub after : Memory

-- the calls of a stream, each on the memory that the one before it left (Duties, 10)
abbrev pub calls : Memory → List Octets → List Called
calls m [] = []
calls m (o ∷ os) = record { octets = o; answer = (call m o).answer; after = (call m o).after } ∷ calls (call m o).after os

-- the id holds l or r
abbrev pub visible : Mailbox → Bool
visible x = may_list x || may_read x

abbrev pub holds_right : ℕ → Memory → Bool
holds_right i m = anyb (λ (x : Mailbox). eqb x.id i && visible x) (boxes m)

-- it does so at some moment: at the start, or after a call (Duties, 12)
abbrev pub ever_held : Memory → List Octets → ℕ → Bool
ever_held m os i = holds_right i m || anyb (λ (c : Called). holds_right i c.after) (calls m os)

-- a hidden id: at no moment in either stream; 0 is no id
abbrev pub hidden : Memory → Memory → List Octets → List Octets → ℕ → Bool
hidden m n a b i = not (eqb i 0) && (not (ever_held m a i) && not (ever_held n b i))

-- a stream without the records about ids of H, and the calls of those that remain (Duties, 11)
abbrev pub without : (ℕ → Bool) → List Octets → List Octets
without H os = filterb (λ (o : Octets). not (H (about o))) os

abbrev pub remaining : (ℕ → Bool) → List Called → List Called
remaining H cs = filterb (λ (c : Called). not (H (about c.octets))) cs

-- none of the calls is refused by 4 or 7
abbrev pub excepted : Answer → Bool
excepted a = eqb (number_of a) 4 || eqb (number_of a) 7

abbrev pub Unexcepted : List Called → Type 0
Unexcepted cs = anyb (λ (c : Called). excepted c.answer) cs ≡ false

-- what a call shows: the number of its answer, its counts, and what the queue holds after it (Duties, 13)
abbrev pub observed : Called → ℕ × List ℕ × List ℕ
observed c = (number_of c.answer, counts_of c.answer, held c.after)

-- a start: no mailbox, no message, nothing in the queue, none selected, no NOTIFY yet (Duties, 9)
abbrev pub no_counts : Counts
no_counts = record { mailboxes = 0; messages = 0; filled = 0 }

abbrev pub no_session : Session
no_session = record { selected = 0; notified = 0; groupcount = 0; told = 0; groups = replicate 8 no_group; names = replicate 16 no_name }

-- two starts: the same Q, tables of the same lengths; what lies behind the counts and behind F may differ (Duties, 9)
pub record Starts (m n : Memory) : Type 0 where
  pub counts : m.counts ≡ no_counts
  pub counts' : n.counts ≡ no_counts
  pub session : m.session ≡ no_session
  pub session' : n.session ≡ no_session
  pub queue : length n.queue ≡ length m.queue
  pub rows : length n.rows ≡ length m.rows
  pub entries : length n.entries ≡ length m.entries

-- DEMAND 3: the n-th record that remains shows the same in both streams (Duties, 7)
abbrev pub Demand3 : Type 0
Demand3 = (m n : Memory) → Starts m n → (a b : List Octets)
    → without (hidden m n a b) a ≡ without (hidden m n a b) b
    → Unexcepted (remaining (hidden m n a b) (calls m a))
    → Unexcepted (remaining (hidden m n a b) (calls n b))
    → (k : ℕ) → get_elem? (map observed (remaining (hidden m n a b) (calls m a))) k ≡ get_elem? (map observed (remaining (hidden m n a b) (calls n b))) k
