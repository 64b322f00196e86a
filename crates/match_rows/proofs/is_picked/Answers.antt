-- `is_picked`: whom mailbox events are asked of, and where they are not, what the groups ask. Assumes nothing.
use Rattle.std.proofs.Common.{sym, ◌∙◌}
use Rattle.match_rows.specs.Picked.{picked_mailbox, picked-other}
use Rattle.match_rows.proofs.is_picked.Goals as goal

pub returns-then-mailbox : goal.returns-then-mailbox
returns-then-mailbox c =
    let listed = sym c.has.ensures ∙ c.if-has.true in
    λ s n any messages mailbox. c.if-mailbox.true ∙ picked_mailbox s n c.args.a c.args.selected listed (sym mailbox ∙ c.if-mailbox.true)

pub returns-else-selected : goal.returns-else-selected
returns-else-selected c =
    let listed = sym c.has.ensures ∙ c.if-has.true in
    λ s n any messages mailbox. picked-other s n c.args.a _ c.args.selected listed (sym mailbox ∙ c.if-mailbox.false) c.if-selected.false messages
