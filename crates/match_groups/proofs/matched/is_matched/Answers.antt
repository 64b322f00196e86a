-- A group of the session passes. Assumes nothing.
use Rattle.std.proofs.Common.{rules, tests, ◌∙◌}
use Rattle.std.proofs.lemmas.Iterator.{YieldsList-from_slice}
use Rattle.std.proofs.lemmas.Iterator.Search.{any_from_yields_List}
use Rattle.model.specs.declared.LentGroup.{LentGroup}
use Rattle.model.specs.Groups.{group_of}
use Rattle.model.specs.Lawful.{used_groups}
use Rattle.match_groups.specs.Asking.{matched_by, any_groups}
use Rattle.match_groups.proofs.matched.is_matched.Goals as goal

pub returns : goal.returns
returns c =
    any_from_yields_List (λ (g : LentGroup). matched_by c.args.s.now c.args.name.now c.args.a c.args.here (group_of g)) _ _ c.any.result c.any.ensures.ran (YieldsList-from_slice (used_groups c.args.s.now) cc) (λ x b q k. search (rules, tests))
    ∙ any_groups c.args.s.now (matched_by c.args.s.now c.args.name.now c.args.a c.args.here)
