-- `sources_row`: each case is one step of the definition of a row. Assumes nothing.
use Rattle.std.proofs.Common.{◌≡◌, [], sym, ◌∙◌, arith, rules}
use Rattle.read_search.specs.Sourced.{sources_of}
use Rattle.read_search.proofs.Rows.{row_none, row_last, row-wrong, row-ends, row-goes}
use Rattle.read_search.proofs.counts.+sources_row.Goals as goal

pub returns-in_err-filter : goal.returns-in_err-filter
returns-in_err-filter t c = rw c.from_residual.ensures (row_none _ _ c.in_err-filter.ensures.exact)

pub returns-in_err-more-in-32 : goal.returns-in_err-more-in-32
returns-in_err-more-in-32 t c =
    rw c.from_residual-in_err-more-in-32.ensures
    (row-ends _ _ c.in_ok-filter.ensures.exact c.in_ok-filter.ensures.within (sym c.octet_at.ensures ∙ c.in-32.is) c.in_err-more-in-32.ensures)

pub returns-in_ok-more-in-32 : goal.returns-in_ok-more-in-32
returns-in_ok-more-in-32 t c =
    rw c.with_source.ensures
    (row-goes _ _ c.in_ok-filter.ensures.exact c.in_ok-filter.ensures.within (sym c.octet_at.ensures ∙ c.in-32.is) c.in_ok-more-in-32.ensures)

pub returns-in-41 : goal.returns-in-41
returns-in-41 t c =
    let e : c.default.result ≡ sources_of [] = search rules in
    rw (c.with_source-in-41.ensures, e)
    (row_last _ _ c.in_ok-filter.ensures.exact c.in_ok-filter.ensures.within (sym c.octet_at.ensures ∙ c.in-41.is))

pub returns-in_default : goal.returns-in_default
returns-in_default t c =
    row-wrong _ _ c.in_ok-filter.ensures.exact c.in_ok-filter.ensures.within (λ e. omega (arith, c.octet_at.ensures ∙ e)) (λ e. omega (arith, c.octet_at.ensures ∙ e))
