-- The rows first, then the messages.
use Rattle.std.proofs.Common.{◌≡◌, sym, ◌∙◌, true, false}
use Rattle.model.specs.Lists.{apart}
use Rattle.model.specs.Lawful.{clash}
use Rattle.table_messages.specs.Words.{messages}
use Rattle.lawful_quick.specs.Passing.{slow_order}
use Rattle.lawful.proofs.tables_ok.Goals as goal

pub returns-then-rows_differ : goal.returns-then-rows_differ
returns-then-rows_differ c =
    λ l h w x v ok.
    let yes : apart clash l ≡ true = sym (c.rows_differ.ensures.0 l h v ok) ∙ c.if-rows_differ.true in
    rw (slow_order l (messages c.args.words.now) c.args.view.selected c.args.view.told.0, yes) (c.messages_ok.ensures l h w x ok yes)

pub returns-else-rows_differ : goal.returns-else-rows_differ
returns-else-rows_differ c =
    λ l h w x v ok.
    let no : apart clash l ≡ false = sym (c.rows_differ.ensures.0 l h v ok) ∙ c.if-rows_differ.false in
    rw (slow_order l (messages c.args.words.now) c.args.view.selected c.args.view.told.0, no, c.if-rows_differ.false)

pub rows_differ-requires : goal.rows_differ-requires
rows_differ-requires c = c.new-g.ensures c.args.cols.now.n
