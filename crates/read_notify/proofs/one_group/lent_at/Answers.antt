-- `lent_at`: a group opens with a parenthesis and a filter that may group, and `lent_behind` has the rest. Assumes nothing.
use native.Mathlib.Omega.{arith}
use mathlib.Core.Path.{sym, ◌∙◌}
use Rattle.read_notify.proofs.Lending.{lent_by_lem, within_lent}
use Rattle.read_notify.proofs.one_group.lent_at.Goals as goal

pub returns : goal.returns
returns c =
    let w = c.in_ok-filter.ensures.within in
    record {
      exact = lent_by_lem c.args.text.now c.args.at c.args.first (sym c.octet_at.ensures ∙ c.if-octet_at-ne40.false)
          c.in_ok-filter.ensures.exact c.is_groupable.ensures c.if-not-is_groupable.false
          c.lent_behind.ensures.exact;
      within = within_lent c.args.text.now c.args.at c.in_ok-filter.filter.names c.in_ok-filter.next
          c.lent_behind.result (omega arith) c.lent_behind.ensures.within;
    }
