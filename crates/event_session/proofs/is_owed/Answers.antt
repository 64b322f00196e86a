-- `is_owed`: one of the rows is owed a line where one of their entries is. Assumes nothing.
use Rattle.std.proofs.Common.{rules, tests, ◌∙◌, ap}
use Rattle.std.proofs.lemmas.Iterator.{YieldsList-from_slice}
use Rattle.std.proofs.lemmas.Iterator.Search.{any_from_yields_List}
use Rattle.model.specs.Lists.{anyb}
use Rattle.table_messages.specs.Words.{of_row}
use Rattle.event_session.specs.Quiet.{owes, any_among}
use Rattle.event_session.proofs.is_owed.Goals as goal

pub returns : goal.returns
returns c =
    let p = owes c.args.id c.args.told.0 in
    any_from_yields_List (λ r. p (of_row r)) _ _ c.any.result c.any.ensures.ran (YieldsList-from_slice c.rows.result.now cc) (λ x b q k. search (rules, tests))
    ∙ (any_among p of_row c.rows.result.now ∙ ap (anyb p) c.rows.ensures)
