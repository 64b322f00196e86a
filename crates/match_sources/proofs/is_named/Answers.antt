-- `is_named`: the chain goes over the source's own names. Assumes nothing.
use borrow.Author.Rules.{rules}
use borrow.Author.Tests.{tests}
use mathlib.Core.Path.{◌∙◌}
use Rattle.std.proofs.lemmas.Iterator.{YieldsList-from_slice, YieldsList-from_take}
use Rattle.std.proofs.lemmas.Iterator.Adapters.{YieldsList-from_skip}
use Rattle.std.proofs.lemmas.Iterator.Search.{any_from_yields_List}
use Rattle.model.specs.Groups.{lent_name}
use Rattle.model.specs.Iterating.{anyb_is_any}
use Rattle.model.specs.declared.LentName.{LentName}
use Rattle.match_sources.specs.Admitting.{meant}
use Rattle.match_sources.proofs.is_named.Goals as goal

pub returns : goal.returns
returns c =
    let test = λ (x : LentName). meant c.args.one.scope (lent_name x) c.args.name.now in
    any_from_yields_List {s = c.take.result} test _ _ c.any.result c.any.ensures.ran
    (YieldsList-from_take c.args.one.count (YieldsList-from_skip c.args.one.first (YieldsList-from_slice c.args.kept.now.names cc) cc) c.take.ensures.count)
    (λ x b q k. search (rules, tests))
    ∙ anyb_is_any test _
