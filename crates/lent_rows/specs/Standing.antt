-- The columns as they stand for the rows of a table, every number within its own type. Assumes nothing.
use Rattle.std.specs.Prelude.{List, ℕ, ◌<◌, length, get_or}
use Rattle.model.specs.Memory.{no_mailbox}
use Rattle.model.specs.declared.Mailbox.{Mailbox}
use Rattle.table_mailboxes.specs.declared.Columns.{Columns}
use Rattle.table_mailboxes.specs.Whole.{LaidIn}

-- the numbers of a row are those of its fields' types
pub record Narrow (x : Mailbox) : Type 0 where
  pub id : x.id < 65536
  pub validity : x.uidvalidity < 4294967296
  pub next : x.uidnext < 4294967296
  pub low : x.counterlow < 4294967296
  pub high : x.counterhigh < 4294967296

-- the columns have these rows
pub record Stands (l : List Mailbox) (c : Columns) : Type 0 where
  pub laid : LaidIn l c
  pub narrow : (k : ℕ) → k < length l → Narrow (get_or l k no_mailbox)
