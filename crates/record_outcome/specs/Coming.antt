-- What the code leaves of lent memory, beside the outcome that the rules give (01, Records, 30 and 31). Assumes nothing.
use Rattle.std.specs.Prelude.{◌≡◌, true, false, cond, List, ℕ, ◌*◌, ◌≤◌, length, set, Option, Some, None, Result, Ok, Err}
use Rattle.model.specs.Records.{Record}
use Rattle.model.specs.Memory.{Memory, boxes, place, known, the_mailbox, no_mailbox}
use Rattle.model.specs.Refusals.{wrong_id, name_held, wrong_uid, wrong_state, table_full}
use Rattle.model.specs.Rules.{accepted}
use Rattle.model.specs.Rules.{Outcome as Ruled}
use Rattle.model.specs.Call.{roomless, refuse}
use Rattle.model.specs.declared.Mailbox.{Mailbox}
use Rattle.model.specs.declared.Counts.{Counts}
use Rattle.model.specs.declared.Session.{Session}
use Rattle.model.specs.declared.Refusal.{Refusal}
use Rattle.model.specs.declared.Refusal.TheVariants.{WrongId, NameHeld, WrongUid, WrongState, TableFull, NoRoom}
use Rattle.model.specs.declared.Answer.{Answer}
use Rattle.model.specs.declared.Answer.TheVariants.{Done, Counted, Refused}
use Rattle.table_mailboxes.specs.Shift.{closed}
use Rattle.table_messages.specs.Words.{messages}
use Rattle.table_messages.specs.Laid.{laid}
use Rattle.laws.specs.Room.{Room}
use Rattle.record_outcome.specs.declared.Change.{Change}
use Rattle.record_outcome.specs.declared.Change.TheVariants.{Nothing, Put, Taken}
use Rattle.record_outcome.specs.declared.Outcome.{Outcome}
use Rattle.record_outcome.specs.declared.Place.{Place}

-- ---- the code's outcomes
-- no row changes, and a row is put
abbrev pub calm : Option ℕ → Counts → Session → Outcome
calm n k s = record { counted = n; change = Nothing; counts = k; session = s }

abbrev pub putting : ℕ → Mailbox → Counts → Session → Outcome
putting at x k s = record { counted = None; change = Put at x; counts = k; session = s }

-- what a record comes to: an outcome, or its refusal
abbrev pub Came : Type 0
Came = Result Outcome Refusal

abbrev pub counting : Option ℕ → Answer
counting None = Done
counting (Some n) = Counted n

-- the answer
abbrev pub answer_of : Came → Answer
answer_of (Ok r) = counting r.counted
answer_of (Err why) = Refused why

-- the mailbox table t, of which n rows are used, after a change
abbrev pub changed : Change → ℕ → List Mailbox → List Mailbox
changed Nothing n t = t
changed (Put at x) n t = set t at x
changed (Taken at) n t = closed at n t

-- table, counts and session after it: a refusal changes nothing
abbrev pub rows_after : Came → ℕ → List Mailbox → List Mailbox
rows_after (Ok r) n t = changed r.change n t
rows_after (Err why) n t = t

abbrev pub counts_after : Came → Counts → Counts
counts_after (Ok r) k = r.counts
counts_after (Err why) k = k

abbrev pub session_after : Came → Session → Session
session_after (Ok r) s = r.session
session_after (Err why) s = s

-- ---- memory as it is lent
-- the words, counts, session and queue are those of memory m
pub record Lends (m : Memory) (ws : List ℕ) (k : Counts) (s : Session) (q : List ℕ) : Type 0 where
  pub entries : m.entries ≡ messages ws
  pub counts : m.counts ≡ k
  pub session : m.session ≡ s
  pub queue : m.queue ≡ q

-- what code needs to know of sizes before it touches anything: all of it follows from lawful memory
pub record Ready (ws : List ℕ) (k : Counts) (s : Session) (q : List ℕ) : Type 0 where
  pub room : Room (length q) k.filled s
  pub rows : k.mailboxes ≤ 64
  pub messages : k.messages ≤ 1024
  pub words : k.messages * 6 ≤ length ws

-- mailbox i has place k among the used rows and is row x; where none has it, k is their number and x is no mailbox
pub record Placed (m : Memory) (i k : ℕ) (x : Mailbox) : Type 0 where
  pub at : k ≡ place i (boxes m)
  pub is : x ≡ the_mailbox i (boxes m)

-- what is found of mailbox i: it is known and has that place, or it is not known
abbrev pub Found : Memory → ℕ → Option Place → Type 0
Found m i (Some p) = (known i (boxes m) ≡ true) × Placed m i p.at p.row
Found m i None = known i (boxes m) ≡ false

-- its row; no mailbox's, where none was found
abbrev pub row_of : Option Place → Mailbox
row_of (Some p) = p.row
row_of None = no_mailbox

-- ---- what the code leaves is what the rules say
pub record Comes (m : Memory) (o : Ruled) (r : Came) (ws ws' q' : List ℕ) : Type 0 where
  pub answer : answer_of r ≡ o.answer
  pub rows : rows_after r m.counts.mailboxes m.rows ≡ o.after.rows
  pub words : ws' ≡ laid ws o.after.entries
  pub counts : counts_after r m.counts ≡ o.after.counts
  pub session : session_after r m.session ≡ o.after.session
  pub queue : q' ≡ o.after.queue

-- the refusals from 3 on, and then the rule: what a call does with a record in lawful memory
abbrev pub ladder : Memory → Record → Ruled
ladder m r =
    cond (wrong_id m r) (refuse m WrongId)
    (cond (name_held m r) (refuse m NameHeld)
    (cond (wrong_uid m r) (refuse m WrongUid)
    (cond (wrong_state m r) (refuse m WrongState)
    (cond (table_full m r) (refuse m TableFull)
    (cond (roomless m r) (refuse m NoRoom) (accepted m r))))))
