-- `lent_behind`: a space, events and a parenthesis make the group. Assumes nothing.
use mathlib.Core.Path.{sym, ap, ◌∙◌}
use native.Mathlib.Omega.{arith}
use Rattle.read_notify.specs.Tallies.{about_selected}
use Rattle.read_notify.specs.declared.Tally.{Tally}
use Rattle.read_notify.proofs.Counting.{one_most}
use Rattle.read_notify.proofs.Lending.{behind_lent}
use Rattle.octets.specs.Rows.{in-text}
use Rattle.read_notify.proofs.one_group.lent_behind.Goals as goal

pub returns : goal.returns
returns c =
    let events = c.in_ok-e.ensures in
    let w = events.within in
    let space = sym c.octet_at.ensures ∙ c.if-octet_at-ne32.false in
    let shut = sym c.octet_at-2.ensures ∙ c.if-octet_at-ne41.false in
    let i = in-text c.args.text.now c.in_ok-e.next shut (omega arith) in
    let m = one_most (about_selected c.args.filter.scope) in
    let g = ap (λ (t : Tally). t.groups) c.tally_by-tally.ensures in
    let h = ap (λ (t : Tally). t.selected) c.tally_by-tally.ensures in
    let n = ap (λ (t : Tally). t.names) c.tally_by-tally.ensures in
    record {
      exact = λ f a b. behind_lent c.args.text.now c.args.at c.args.first f space events.exact shut
          (c.selector_of-selector.ensures f a) a b c.lent-group.ensures c.tally_by-tally.ensures;
      within = (omega arith, omega arith, n, omega arith, omega arith);
    }
