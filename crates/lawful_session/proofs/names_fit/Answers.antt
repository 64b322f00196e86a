-- The library's words for the chains are the rules'. Assumes nothing.
use Rattle.std.proofs.Common.{rules, tests, ◌≡◌, ◌∙◌}
use Rattle.std.proofs.lemmas.Iterator.{YieldsList-from_slice}
use Rattle.std.proofs.lemmas.Iterator.Search.{all_from_yields_List}
use Rattle.model.specs.Lists.{allb}
use Rattle.model.specs.Lawful.{lent_name_ok, blank_name}
use Rattle.model.specs.Iterating.{allb_is_all}
use Rattle.lawful_session.proofs.names_fit.Goals as goal

pub returns-then-all : goal.returns-then-all
returns-then-all c =
    let used : c.all.result ≡ allb lent_name_ok c.args.used.now = all_from_yields_List lent_name_ok _ _ c.all.result c.all.ensures.ran (YieldsList-from_slice c.args.used.now cc) (λ x b q k. search (rules, tests)) ∙ allb_is_all lent_name_ok c.args.used.now in
    let rest : c.all-then-all.result ≡ allb blank_name c.args.rest.now = all_from_yields_List blank_name _ _ c.all-then-all.result c.all-then-all.ensures.ran (YieldsList-from_slice c.args.rest.now cc) (λ x b q k. search (rules, tests)) ∙ allb_is_all blank_name c.args.rest.now in
    search rules

pub returns-else-all : goal.returns-else-all
returns-else-all c =
    let used : c.all.result ≡ allb lent_name_ok c.args.used.now = all_from_yields_List lent_name_ok _ _ c.all.result c.all.ensures.ran (YieldsList-from_slice c.args.used.now cc) (λ x b q k. search (rules, tests)) ∙ allb_is_all lent_name_ok c.args.used.now in
    search rules
