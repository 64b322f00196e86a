-- `row_to_close`: each case is one step of the definition of a row. Assumes nothing.
use Rattle.std.proofs.Common.{sym, ◌∙◌, arith}
use Rattle.octets.proofs.Joining.{row_none, row_over, row-neither, row-ends, row-goes}
use Rattle.octets.proofs.rows.+row_to_close.Goals as goal

pub returns-in_err-first : goal.returns-in_err-first
returns-in_err-first g t c = rw c.from_residual.ensures (row_none _ _ _ _ c.in_err-first.ensures.exact)

pub returns-in_err-rest-in-32 : goal.returns-in_err-rest-in-32
returns-in_err-rest-in-32 g t c =
    rw c.from_residual-in_err-rest-in-32.ensures
    (row-ends _ _ _ _ c.in_ok-first.ensures.exact c.in_ok-first.ensures.within (sym c.octet_at.ensures ∙ c.in-32.is) c.in_err-rest-in-32.ensures)

pub returns-in_ok-rest-in-32 : goal.returns-in_ok-rest-in-32
returns-in_ok-rest-in-32 g t c =
    rw c.join.ensures
    (row-goes _ _ _ _ c.in_ok-first.ensures.exact c.in_ok-first.ensures.within (sym c.octet_at.ensures ∙ c.in-32.is) _ _ c.in_ok-rest-in-32.ensures)

pub returns-in-41 : goal.returns-in-41
returns-in-41 g t c =
    row_over _ _ _ _ c.in_ok-first.ensures.exact c.in_ok-first.ensures.within (sym c.octet_at.ensures ∙ c.in-41.is)

pub returns-in_default : goal.returns-in_default
returns-in_default g t c =
    row-neither _ _ _ _ c.in_ok-first.ensures.exact c.in_ok-first.ensures.within (λ e. omega (arith, c.octet_at.ensures ∙ e)) (λ e. omega (arith, c.octet_at.ensures ∙ e))
