-- `count_each`: all are the count and those from here on. Assumes nothing.
use Rattle.std.proofs.Common.{◌≡◌, ◌+◌, ◌≤◌, drop, map}
use Rattle.laws.specs.Counting.{countb}
use Rattle.table_messages.specs.Words.{of_row}
use Rattle.table_messages.specs.Counted.{lives}
use Rattle.table_messages.proofs.count_each.Given as goal

abbrev pub invariant-loop-row : goal.invariant-loop-row
invariant-loop-row l = (l.count ≤ l.row-index) × (countb (lives l.mailbox) (map of_row l.all) ≡ l.count + countb (lives l.mailbox) (drop l.row-index (map of_row l.all)))
