-- A group of the session passes. Assumes nothing.
use Rattle.std.proofs.Common.{rules, tests, true, ◌∙◌}
use Rattle.std.proofs.lemmas.Iterator.{YieldsList-from_slice}
use Rattle.std.proofs.lemmas.Iterator.Search.{any_from_yields_List}
use Rattle.model.specs.declared.Group.{Group}
use Rattle.model.specs.declared.LentGroup.{LentGroup}
use Rattle.model.specs.Groups.{group_of, groups_of}
use Rattle.model.specs.Lawful.{used_groups}
use Rattle.match_groups.specs.Asking.{selecting, any_groups, selecting_is, any_same}
use Rattle.match_groups.proofs.matched.has_selected.Goals as goal

pub returns : goal.returns
returns c =
    any_from_yields_List (λ (g : LentGroup). selecting true (group_of g).selector) _ _ c.any.result c.any.ensures.ran (YieldsList-from_slice (used_groups c.args.s.now) cc) (λ x b q k. search (rules, tests))
    ∙ any_groups c.args.s.now (λ (g : Group). selecting true g.selector)
    ∙ any_same _ _ (λ (g : Group). selecting_is g.selector) (groups_of c.args.s.now)
