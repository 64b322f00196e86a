-- `search_row`: the selected mailbox by its view, any other by rank. Assumes nothing.
use Rattle.std.proofs.Common.{length}
use Rattle.table_messages.specs.Words.{messages}
use Rattle.search_find.specs.Runs.{row-viewed, row_boxed}
use Rattle.search_find.proofs.search_row.Goals as goal

pub returns-then-is_selected : goal.returns-then-is_selected
returns-then-is_selected c =
    (row-viewed (messages c.args.words.now) (length (messages c.args.words.now)) c.args.id c.args.wanted.selected c.args.wanted.below.0 c.args.wanted.cells.now _ c.search_view.result c.is_selected.result c.is_selected.ensures c.if-is_selected.true c.search_view.ensures, c.search_view.ensures.few)

pub returns : goal.returns
returns c =
    (row_boxed (messages c.args.words.now) (length (messages c.args.words.now)) c.args.id c.args.wanted.selected c.args.wanted.below.0 c.args.wanted.cells.now _ c.search_box.result c.is_selected.result c.is_selected.ensures c.if-is_selected.false c.search_box.ensures, c.search_box.ensures.few)
