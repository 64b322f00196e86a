-- `rows`: the words cut into sixes are the entries. Assumes nothing.
use Rattle.std.proofs.Common.{map, ap, ◌∙◌}
use Rattle.table_messages.specs.Words.{of_row, messages-rows}
use Rattle.table_messages.proofs.rows.Goals as goal

pub returns : goal.returns
returns c = ap (map of_row) c.as_chunks.ensures.front ∙ messages-rows c.args.words.now
