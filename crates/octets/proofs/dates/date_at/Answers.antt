-- `date_at`: the first octet says whether there are quotes; between them stands a bare date, as in the definition. Assumes nothing.
use mathlib.Core.Path.{◌≡◌, sym, ◌∙◌}
use native.Mathlib.Omega.{arith}
use lib.ListN.{get_or}
use Rattle.octets.proofs.Strings.{octet_in}
use Rattle.octets.proofs.Days.{date_bare, date_no_date, date_no_quote, date-quoted}
use Rattle.octets.proofs.dates.date_at.Goals as goal

pub returns-in_err-q : goal.returns-in_err-q
returns-in_err-q c =
    rw c.from_residual.ensures record {
      exact = date_no_date c.args.text.now c.args.at (sym c.octet_at.ensures ∙ c.if-octet_at-eq34.true)
          c.in_err-q.ensures.exact;
      within = tt;
    }

pub returns-then-octet_at-ne34 : goal.returns-then-octet_at-ne34
returns-then-octet_at-ne34 c =
    record {
      exact = date_no_quote c.args.text.now c.args.at (sym c.octet_at.ensures ∙ c.if-octet_at-eq34.true) _
          c.in_ok-q.ensures.exact (λ e. c.if-octet_at-ne34.true (c.octet_at-then-octet_at-eq34.ensures ∙ e));
      within = tt;
    }

pub returns-then-octet_at-eq34 : goal.returns-then-octet_at-eq34
returns-then-octet_at-eq34 c =
    let f = c.in_ok-q.ensures.within in
    let open-quote = sym c.octet_at.ensures ∙ c.if-octet_at-eq34.true in
    let e : get_or c.args.text.now c.in_ok-q.q 0 ≡ 34 = sym c.octet_at-then-octet_at-eq34.ensures ∙ c.if-octet_at-ne34.false in
    record {
      exact = date-quoted c.args.text.now c.args.at open-quote _ c.in_ok-q.ensures.exact e;
      within = (omega arith, omega (arith, octet_in c.args.text.now c.in_ok-q.q (omega arith)));
    }

pub returns : goal.returns
returns c =
    record {
      exact = date_bare c.args.text.now c.args.at _ (λ e. c.if-octet_at-eq34.false (c.octet_at.ensures ∙ e))
          c.bare_date_at-2.ensures.exact;
      within = c.bare_date_at-2.ensures.within;
    }
