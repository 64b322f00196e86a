-- `bare_date_at`: day, dash, month, dash and year are read in the order of the definition, which is bad where one lacks. Assumes nothing.
use mathlib.Core.Path.{sym, ◌∙◌}
use native.Mathlib.Omega.{arith}
use Rattle.octets.proofs.Chains.{within-from}
use Rattle.octets.proofs.Days.{date_no_day, date_no_dash, date_no_month, date_no-second, date_year}
use Prim.Native.Nat.{◌+◌}
use Rattle.octets.proofs.dates.bare_date_at.Goals as goal

pub returns-in_err-q : goal.returns-in_err-q
returns-in_err-q c = rw c.from_residual.ensures record { exact = date_no_day c.args.text.now c.args.at c.in_err-q.ensures.exact; within = tt }

pub returns-then-octet_at-ne45 : goal.returns-then-octet_at-ne45
returns-then-octet_at-ne45 c =
    record {
      exact = date_no_dash c.args.text.now c.args.at _ c.in_ok-q.ensures.exact
          (λ e. c.if-octet_at-ne45.true (c.octet_at.ensures ∙ e));
      within = tt;
    }

pub returns-in_err-r : goal.returns-in_err-r
returns-in_err-r c =
    rw c.from_residual-in_err-r.ensures record {
      exact = date_no_month c.args.text.now c.args.at _ c.in_ok-q.ensures.exact
          (sym c.octet_at.ensures ∙ c.if-octet_at-ne45.false) c.in_err-r.ensures.exact;
      within = tt;
    }

pub returns-then-octet_at-ne45-2 : goal.returns-then-octet_at-ne45-2
returns-then-octet_at-ne45-2 c =
    record {
      exact = date_no-second c.args.text.now c.args.at _ c.in_ok-q.ensures.exact
          (sym c.octet_at.ensures ∙ c.if-octet_at-ne45.false) _ c.in_ok-r.ensures.exact
          (λ e. c.if-octet_at-ne45-2.true (c.octet_at-2.ensures ∙ e));
      within = tt;
    }

pub returns : goal.returns
returns c =
    let f = c.in_ok-q.ensures.within in
    let g = c.in_ok-r.ensures.within in
    let dash = sym c.octet_at.ensures ∙ c.if-octet_at-ne45.false in
    let second = sym c.octet_at-2.ensures ∙ c.if-octet_at-ne45-2.false in
    record {
      exact = date_year c.args.text.now c.args.at _ c.in_ok-q.ensures.exact dash _ c.in_ok-r.ensures.exact _ second
          c.digits_at-2.ensures.exact;
      within = within-from c.args.text.now c.args.at (c.in_ok-r.r + 1) c.digits_at-2.result (omega arith)
          c.digits_at-2.ensures.within;
    }
