-- `find_name`: where no row has the name, the place is behind the last. Assumes nothing.
use Rattle.std.proofs.Common.{rules, ◌∙◌, ap, length}
use Rattle.std.specs.Prelude.{Option, ℕ}
use Rattle.std.specs.Option.{unwrap_or}
use borrow.Author.Tests.{tests}
use Rattle.std.proofs.lemmas.Iterator.{YieldsList-from_slice}
use Rattle.std.proofs.lemmas.Iterator.Search.{position_from_yields_List}
use Rattle.lent_rows.specs.Rows.{is_named, named_or}
use Rattle.lent_rows.proofs.find_name.Goals as goal

pub returns : goal.returns
returns c =
    let e = position_from_yields_List (is_named c.args.name.now) _ _ c.position.result c.position.ensures.ran (YieldsList-from_slice _ c.iter.ensures.rest) (λ x b q k. search (rules, tests)) in
    c.unwrap_or.ensures ∙ (ap (λ (o : Option ℕ). unwrap_or o (length c.args.rows.now)) e ∙ named_or c.args.name.now c.args.rows.now)
