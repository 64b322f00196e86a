-- One call over lent memory: what it answers and every octet that it leaves, beside the rules' call (01, Records, 21 to 31; Duties, 8). Assumes nothing.
use Rattle.std.specs.Prelude.{◌≡◌, List, ℕ}
use Rattle.model.specs.Memory.{Memory}
use Rattle.model.specs.Call.{call}
use Rattle.model.specs.declared.Mailbox.{Mailbox}
use Rattle.model.specs.declared.Counts.{Counts}
use Rattle.model.specs.declared.Session.{Session}
use Rattle.model.specs.declared.Answer.{Answer}
use Rattle.table_messages.specs.Words.{messages}
use Rattle.table_messages.specs.Laid.{laid, laid-entries}

-- memory as it is lent: the mailbox table's rows, the message table's words, counts, session, queue
pub record Lent : Type 0 where
  pub table : List Mailbox
  pub words : List ℕ
  pub counts : Counts
  pub session : Session
  pub queue : List ℕ

-- the memory that the rules speak of: six words make an entry
abbrev pub memory_of : Lent → Memory
memory_of a = record { rows = a.table; entries = messages a.words; counts = a.counts; session = a.session; queue = a.queue }

-- a call with octets o on lent memory a answers r and leaves b: the words are the entries laid out, the words behind the last whole entry as they were
pub record Steps (a : Lent) (o : List ℕ) (r : Answer) (b : Lent) : Type 0 where
  pub answer : r ≡ (call (memory_of a) o).answer
  pub table : b.table ≡ (call (memory_of a) o).after.rows
  pub words : b.words ≡ laid a.words (call (memory_of a) o).after.entries
  pub counts : b.counts ≡ (call (memory_of a) o).after.counts
  pub session : b.session ≡ (call (memory_of a) o).after.session
  pub queue : b.queue ≡ (call (memory_of a) o).after.queue

-- so the memory that it leaves is the one that the rules leave
pub after_is : (a : Lent) (o : List ℕ) (r : Answer) (b : Lent) → Steps a o r b → memory_of b ≡ (call (memory_of a) o).after
after_is a o r b s =
    rw (s.table, laid-entries a.words b.words _ s.words, s.counts, s.session, s.queue)
