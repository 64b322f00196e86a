-- `gather`: what is counted and kept grows by a group at each turn; what is left of the row says the same behind it. Assumes nothing.
use mathlib.Core.Path.{◌≡◌, sym, ◌∙◌}
use borrow.Author.Rules.{rules}
use Rattle.read_notify.specs.Tallies.{no_tally}
use Rattle.read_notify.proofs.Storing.{goes_start, goes_none, goes_on, goes_last, goes-wrong}
use Rattle.read_notify.proofs.watches.gather.Goals as goal

pub loop-lent-init : goal.loop-lent-init
loop-lent-init c =
    let none : c.default-tally.result ≡ no_tally = search rules in
    goes_start c.args.text.now c.args.at _ _ _ none c.no_watch-watch.ensures c.keep_nothing-kept.ensures

pub returns-in_err-lent : goal.returns-in_err-lent
returns-in_err-lent c =
    rw c.from_residual.ensures (goes_none c.args.text.now c.args.at c.loop-lent.tally c.loop-lent.watch c.loop-lent.kept c.loop-lent.p c.loop-lent.invariant c.in_err-lent.ensures.exact c.args.status)

pub loop-lent-preserved : goal.loop-lent-preserved
loop-lent-preserved c =
    goes_on c.args.text.now c.args.at c.loop-lent.tally c.loop-lent.watch c.loop-lent.kept c.loop-lent.p c.loop-lent.invariant
    c.in_ok-lent.ensures.exact c.in_ok-lent.ensures.within c.keep_more-kept.ensures.exact
    c.keep_group-watch.result c.keep_group-watch.ensures c.add-tally.result c.add-tally.ensures
    (sym c.octet_at.ensures ∙ c.if-octet_at-eq32.true)

pub returns-then-next-text : goal.returns-then-next-text
returns-then-next-text c =
    goes_last c.args.text.now c.args.at c.loop-lent.tally c.loop-lent.watch c.loop-lent.kept c.loop-lent.p c.loop-lent.invariant
    c.in_ok-lent.ensures.exact c.in_ok-lent.ensures.within c.keep_more-kept.ensures.exact
    c.keep_group-watch.result c.keep_group-watch.ensures c.add-tally.result c.add-tally.ensures
    (λ e. c.if-octet_at-eq32.false (c.octet_at.ensures ∙ e)) c.args.status c.if-next-text.true

pub returns-else-next-text : goal.returns-else-next-text
returns-else-next-text c =
    goes-wrong c.args.text.now c.args.at c.loop-lent.tally c.loop-lent.watch c.loop-lent.kept c.loop-lent.p c.loop-lent.invariant
    c.in_ok-lent.ensures.exact c.in_ok-lent.ensures.within c.keep_more-kept.ensures.exact
    c.keep_group-watch.result c.keep_group-watch.ensures c.add-tally.result c.add-tally.ensures
    (λ e. c.if-octet_at-eq32.false (c.octet_at.ensures ∙ e)) c.args.status c.if-next-text.false
