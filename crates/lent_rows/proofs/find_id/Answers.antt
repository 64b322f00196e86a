-- `find_id`: where no row has the id, the place is behind the last. Assumes nothing.
use Rattle.std.proofs.Common.{rules, ◌∙◌, ap, eqb, length}
use Rattle.std.specs.Prelude.{Option, ℕ}
use Rattle.std.specs.Option.{unwrap_or}
use borrow.Author.Tests.{tests}
use Rattle.std.proofs.lemmas.Iterator.{YieldsList-from_slice}
use Rattle.std.proofs.lemmas.Iterator.Search.{position_from_yields_List}
use Rattle.model.specs.declared.Mailbox.{Mailbox}
use Rattle.table_mailboxes.specs.Rows.{place_or}
use Rattle.lent_rows.proofs.find_id.Goals as goal

pub returns : goal.returns
returns c =
    let e = position_from_yields_List (λ (x : Mailbox). eqb x.id c.args.id) _ _ c.position.result c.position.ensures.ran (YieldsList-from_slice _ c.iter.ensures.rest) (λ x b q k. search (rules, tests)) in
    c.unwrap_or.ensures ∙ (ap (λ (o : Option ℕ). unwrap_or o (length c.args.rows.now)) e ∙ place_or c.args.id c.args.rows.now)
