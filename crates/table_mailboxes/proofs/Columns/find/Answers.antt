-- `find`: the place in the column of ids is that in the rows. Assumes nothing.
use Rattle.std.proofs.Common.{rules, arith, ◌≡◌, ◌∙◌, ℕ, eqb, length}
use borrow.Author.Tests.{tests}
use Rattle.std.proofs.lemmas.Iterator.{YieldsList-from_slice}
use Rattle.std.proofs.lemmas.Iterator.Search.{position_from_yields_List}
use Rattle.table_mailboxes.specs.Rows.{column_place_in}
use Rattle.table_mailboxes.proofs.Columns.find.Goals as goal

pub returns-clause-first : goal.returns-clause-first
returns-clause-first c =
    position_from_yields_List (λ (y : ℕ). eqb y c.args.id) _ _ c.position.result c.position.ensures.ran (YieldsList-from_slice _ c.iter.ensures.rest) (λ x b q k. search (rules, tests))

pub returns-clause-column : goal.returns-clause-column
returns-clause-column c l h p =
    let long : length c.args.self.now.ids ≡ 64 = search rules in
    let few = c.args.self.now.few in
    returns-clause-first c ∙ column_place_in c.args.id l c.args.self.now.ids c.args.self.now.n h (omega arith) p
