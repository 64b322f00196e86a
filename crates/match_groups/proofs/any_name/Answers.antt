-- A name of the range passes. Assumes nothing.
use Rattle.std.proofs.Common.{rules, tests, ◌∙◌}
use Rattle.std.proofs.lemmas.Iterator.{YieldsList-from_slice}
use Rattle.std.proofs.lemmas.Iterator.Search.{any_from_yields_List}
use Rattle.model.specs.declared.LentName.{LentName}
use Rattle.model.specs.Names.{Name}
use Rattle.model.specs.Groups.{lent_name}
use Rattle.match_groups.specs.Asking.{hit, any_names, lent_names_in}
use Rattle.match_groups.proofs.any_name.Goals as goal

pub returns : goal.returns
returns c =
    any_from_yields_List (λ (x : LentName). hit c.args.deep (lent_name x) c.args.name.now) _ _ c.any.result c.any.ensures.ran (YieldsList-from_slice (lent_names_in c.args.s.now c.args.range) cc) (λ x b q k. search (rules, tests))
    ∙ any_names c.args.s.now c.args.range (λ (t : Name). hit c.args.deep t c.args.name.now)
