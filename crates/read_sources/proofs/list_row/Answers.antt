-- `list_row`: the list grows by a source at each turn; what is left of the row says the same behind it. Assumes nothing.
use Rattle.std.proofs.Common.{sym, ◌∙◌, arith}
use Rattle.read_sources.proofs.Keeping.{goes_start, goes_none, goes-wrong, goes_last, goes_on}
use Rattle.read_sources.proofs.list_row.Goals as goal

pub loop-longer-init : goal.loop-longer-init
loop-longer-init c = goes_start c.args.text.now c.args.at c.args.listed c.requires.0 c.requires.1

pub returns-in_err-longer : goal.returns-in_err-longer
returns-in_err-longer c =
    λ n h. c.from_residual.ensures
    ∙ goes_none c.args.text.now c.args.at c.args.listed c.loop-longer.more c.loop-longer.p c.loop-longer.invariant c.in_err-longer.ensures n h

pub loop-longer-preserved : goal.loop-longer-preserved
loop-longer-preserved c =
    goes_on c.args.text.now c.args.at c.args.listed c.loop-longer.more c.loop-longer.p c.loop-longer.invariant c.in_ok-longer.ensures (sym c.octet_at.ensures ∙ c.in-32.is)

pub returns-in-41 : goal.returns-in-41
returns-in-41 c =
    goes_last c.args.text.now c.args.at c.args.listed c.loop-longer.more c.loop-longer.p c.loop-longer.invariant c.in_ok-longer.ensures (sym c.octet_at.ensures ∙ c.in-41.is)

pub returns-in_default : goal.returns-in_default
returns-in_default c =
    goes-wrong c.args.text.now c.args.at c.args.listed c.loop-longer.more c.loop-longer.p c.loop-longer.invariant c.in_ok-longer.ensures
    (λ e. omega (arith, c.octet_at.ensures ∙ e)) (λ e. omega (arith, c.octet_at.ensures ∙ e))
