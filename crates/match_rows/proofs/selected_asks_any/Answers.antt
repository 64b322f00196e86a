-- `selected_asks_any`: an event is one of five. Assumes nothing.
use Rattle.std.proofs.Common.{rules}
use Rattle.match_rows.specs.Picked.{selected_any}
use Rattle.match_rows.proofs.selected_asks_any.Goals as goal

pub returns-then-selected_asks-4 : goal.returns-then-selected_asks-4
returns-then-selected_asks-4 c = rw (selected_any c.args.s.now) (search rules)

pub returns-else-selected_asks-4 : goal.returns-else-selected_asks-4
returns-else-selected_asks-4 c = rw (selected_any c.args.s.now) (search rules)
