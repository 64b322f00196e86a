-- The number of the first that passes. Assumes nothing.
use Rattle.std.proofs.Common.{rules, tests, ◌∙◌, sym, Some, None}
use Rattle.std.proofs.lemmas.Iterator.{YieldsList-from_slice}
use Rattle.std.proofs.lemmas.Iterator.Search.{position_from_yields_List}
use Rattle.model.specs.declared.LentGroup.{LentGroup}
use Rattle.model.specs.Groups.{group_of}
use Rattle.model.specs.Lawful.{used_groups}
use Rattle.match_groups.specs.Asking.{asks_in, number_groups}
use Rattle.match_groups.proofs.asking.Goals as goal

pub returns-in_err-i : goal.returns-in_err-i
returns-in_err-i c =
    let p = position_from_yields_List (λ (g : LentGroup). asks_in c.args.s.now c.args.name.now c.args.a c.args.k (group_of g)) _ _ c.position.result c.position.ensures.ran (YieldsList-from_slice (used_groups c.args.s.now) cc) (λ x b q k. search (rules, tests)) in
    c.from_residual.ensures ∙ number_groups c.args.s.now (asks_in c.args.s.now c.args.name.now c.args.a c.args.k) None (sym c.in_err-i.was ∙ p)

pub returns : goal.returns
returns c =
    let p = position_from_yields_List (λ (g : LentGroup). asks_in c.args.s.now c.args.name.now c.args.a c.args.k (group_of g)) _ _ c.position.result c.position.ensures.ran (YieldsList-from_slice (used_groups c.args.s.now) cc) (λ x b q k. search (rules, tests)) in
    number_groups c.args.s.now (asks_in c.args.s.now c.args.name.now c.args.a c.args.k) (Some c.in_ok-i.i) (sym c.in_ok-i.was ∙ p)
