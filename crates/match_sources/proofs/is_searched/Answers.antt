-- `is_searched`: the chain goes over the sources that are listed. Assumes nothing.
use borrow.Author.Rules.{rules}
use borrow.Author.Tests.{tests}
use mathlib.Core.Path.{sym, ◌∙◌}
use lib.ListN.{take}
use Rattle.std.proofs.lemmas.Iterator.{YieldsList-from_slice, YieldsList-from_take}
use Rattle.std.proofs.lemmas.Iterator.Search.{any_from_yields_List}
use Rattle.model.specs.Iterating.{anyb_is_any}
use Rattle.match_sources.specs.Admitting.{admits_in}
use Rattle.match_sources.proofs.is_searched.Goals as goal

pub returns-then-has : goal.returns-then-has
returns-then-has c =
    let test = admits_in c.args.listed.now.kept.names c.args.attributes c.args.name.now c.args.selected in
    rw (sym c.has.ensures ∙ c.if-has.true)
    (any_from_yields_List {s = c.take.result} test _ _ c.any.result c.any.ensures.ran
    (YieldsList-from_take c.args.listed.now.count (YieldsList-from_slice c.args.listed.now.sources cc) c.take.ensures.count) (λ x b q k. search (rules, tests))
    ∙ anyb_is_any test (take c.args.listed.now.count c.args.listed.now.sources))
