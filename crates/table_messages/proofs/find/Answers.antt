-- `find`: the place among the rows is that among their entries. Assumes nothing.
use Rattle.std.proofs.Common.{rules, tests, ◌∙◌, ap, position}
use Rattle.std.proofs.lemmas.Iterator.{YieldsList-from_slice}
use Rattle.std.proofs.lemmas.Iterator.Search.{position_from_yields_List}
use Rattle.table_messages.specs.Words.{of_row}
use Rattle.table_messages.specs.Found.{stands, found_among}
use Rattle.table_messages.proofs.find.Goals as goal

pub returns : goal.returns
returns c =
    let p = stands c.args.mailbox c.args.uid.0 in
    position_from_yields_List (λ r. p (of_row r)) _ _ c.position.result c.position.ensures.ran (YieldsList-from_slice c.rows.result.now cc) (λ x b q k. search (rules, tests))
    ∙ (found_among p of_row c.rows.result.now ∙ ap (position p) c.rows.ensures)
