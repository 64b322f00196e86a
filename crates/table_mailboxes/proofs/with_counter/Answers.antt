-- `with_counter`: the row with both halves of the counter; the halves make the number again. Assumes nothing.
use Rattle.table_mailboxes.proofs.with_counter.Goals as goal

pub returns : goal.returns
returns c = rw (c.low_half.ensures, c.high_half.ensures)
