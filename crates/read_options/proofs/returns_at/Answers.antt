-- `returns_at`: a row is judged once it is read. Assumes nothing.
use Rattle.std.proofs.Common.{sym, ◌∙◌, rules}
use Rattle.read_options.proofs.Judging.{judged_none, judged_once, judged_twice}
use Rattle.read_options.proofs.returns_at.Goals as goal

pub returns-in_err-row : goal.returns-in_err-row
returns-in_err-row c =
    rw c.from_residual.ensures
    (judged_none c.args.text.now c.args.at (sym c.octet_at.ensures ∙ c.if-octet_at-ne40.false) (λ e. c.if-octet_at-eq41.false (c.octet_at-2.ensures ∙ e)) c.in_err-row.ensures)

pub returns-then-row : goal.returns-then-row
returns-then-row c =
    judged_once c.args.text.now c.args.at (sym c.octet_at.ensures ∙ c.if-octet_at-ne40.false) (λ e. c.if-octet_at-eq41.false (c.octet_at-2.ensures ∙ e)) c.in_ok-row.ensures (search rules)

pub returns-else-row : goal.returns-else-row
returns-else-row c =
    judged_twice c.args.text.now c.args.at (sym c.octet_at.ensures ∙ c.if-octet_at-ne40.false) (λ e. c.if-octet_at-eq41.false (c.octet_at-2.ensures ∙ e)) c.in_ok-row.ensures (search rules)
