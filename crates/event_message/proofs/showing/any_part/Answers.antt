-- A group of the session asks for the part. Assumes nothing.
use Rattle.std.proofs.Common.{rules, tests, ◌∙◌}
use Rattle.std.proofs.lemmas.Iterator.{YieldsList-from_slice}
use Rattle.std.proofs.lemmas.Iterator.Search.{any_from_yields_List}
use Rattle.model.specs.declared.LentGroup.{LentGroup}
use Rattle.model.specs.Groups.{group_of}
use Rattle.model.specs.Lawful.{used_groups}
use Rattle.match_groups.specs.Asking.{any_groups}
use Rattle.event_message.specs.Shown.{part_of}
use Rattle.event_message.proofs.showing.any_part.Goals as goal

pub returns : goal.returns
returns c =
    any_from_yields_List (λ (g : LentGroup). part_of c.args.k (group_of g)) _ _ c.any.result c.any.ensures.ran (YieldsList-from_slice (used_groups c.args.s.now) cc) (λ x b q k. search (rules, tests))
    ∙ any_groups c.args.s.now (part_of c.args.k)
