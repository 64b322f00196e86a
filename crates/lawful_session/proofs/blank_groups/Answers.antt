-- The library's word for the chain is the rules'. Assumes nothing.
use Rattle.std.proofs.Common.{rules, tests, ◌∙◌}
use Rattle.std.proofs.lemmas.Iterator.{YieldsList-from_slice}
use Rattle.std.proofs.lemmas.Iterator.Search.{all_from_yields_List}
use Rattle.model.specs.Lawful.{blank_group}
use Rattle.model.specs.Iterating.{allb_is_all}
use Rattle.lawful_session.proofs.blank_groups.Goals as goal

pub returns : goal.returns
returns c = all_from_yields_List blank_group _ _ c.all.result c.all.ensures.ran (YieldsList-from_slice c.args.groups.now cc) (λ x b q k. search (rules, tests)) ∙ allb_is_all blank_group c.args.groups.now
