-- `select`: a mailbox or none is selected, or it is not known, or it cannot be selected. Assumes nothing.
use mathlib.Core.Path.{refl, ap, sym, ◌∙◌}
use Rattle.std.proofs.Common.{Ok}
use Rattle.record_outcome.specs.declared.Outcome.{Outcome}
use Rattle.record_session.specs.Leaving.{select_unknown, select_barred, select_comes}
use Rattle.record_session.proofs.select.Goals as goal

pub returns-then-is_unknown : goal.returns-then-is_unknown
returns-then-is_unknown c = λ m q lent law w. select_unknown m c.args.words.now c.args.counts c.args.s.now q lent law c.args.id c.args.found w c.row_of-x.result c.row_of-x.ensures _ (sym c.is_unknown.ensures ∙ c.if-is_unknown.true) refl

pub returns-then-is_barred : goal.returns-then-is_barred
returns-then-is_barred c = λ m q lent law w. select_barred m c.args.words.now c.args.counts c.args.s.now q lent law c.args.id c.args.found w c.row_of-x.result c.row_of-x.ensures _ (sym c.is_unknown.ensures ∙ c.if-is_unknown.false)
    (sym c.is_barred.ensures ∙ c.if-is_barred.true) refl

pub returns : goal.returns
returns c =
    λ m q lent law w. select_comes m c.args.words.now c.args.counts c.args.s.now q lent law c.args.id c.args.found w c.row_of-x.result c.row_of-x.ensures _ (sym c.is_unknown.ensures ∙ c.if-is_unknown.false)
    (sym c.is_barred.ensures ∙ c.if-is_barred.false) c.select-chose.ensures (ap (λ (j : Outcome). Ok j) c.unmoved.ensures)
