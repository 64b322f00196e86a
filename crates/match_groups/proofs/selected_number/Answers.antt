-- The number of the first that passes. Assumes nothing.
use Rattle.std.proofs.Common.{rules, tests, true, ◌∙◌, sym, ap, Some, None}
use Rattle.std.proofs.lemmas.Iterator.{YieldsList-from_slice}
use Rattle.std.proofs.lemmas.Iterator.Search.{position_from_yields_List}
use Rattle.model.specs.declared.LentGroup.{LentGroup}
use Rattle.model.specs.Groups.{group_of}
use Rattle.model.specs.Lawful.{used_groups}
use Rattle.match_groups.specs.Asking.{standing, number_groups, selected-number_is, numbered}
use Rattle.match_groups.proofs.selected_number.Goals as goal

pub returns-in_err-at : goal.returns-in_err-at
returns-in_err-at c =
    let p = position_from_yields_List (λ (g : LentGroup). standing true c.args.k (group_of g)) _ _ c.position.result c.position.ensures.ran (YieldsList-from_slice (used_groups c.args.s.now) cc) (λ x b q k. search (rules, tests)) in
    c.from_residual.ensures ∙ number_groups c.args.s.now (standing true c.args.k) None (sym c.in_err-at.was ∙ p) ∙ ap numbered (selected-number_is c.args.s.now c.args.k)

pub returns : goal.returns
returns c =
    let p = position_from_yields_List (λ (g : LentGroup). standing true c.args.k (group_of g)) _ _ c.position.result c.position.ensures.ran (YieldsList-from_slice (used_groups c.args.s.now) cc) (λ x b q k. search (rules, tests)) in
    number_groups c.args.s.now (standing true c.args.k) (Some c.in_ok-at.at) (sym c.in_ok-at.was ∙ p) ∙ ap numbered (selected-number_is c.args.s.now c.args.k)
