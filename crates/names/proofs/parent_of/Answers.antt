-- `parent_of`: what stands before the last slash is kept as an argument is. Assumes nothing.
use Rattle.std.specs.Prelude.{◌≡◌, List, ℕ, refl}
use Rattle.std.proofs.Common.{rules, ap, subst, ◌∙◌, Some, None}
use borrow.Author.Tests.{tests}
use Rattle.model.specs.Listing.{lend_name}
use Rattle.names.proofs.Slashes.{Before, from_back, slash_from_back}
use Rattle.names.proofs.parent_of.Goals as goal

pub returns-in-Some : goal.returns-in-Some
returns-in-Some c =
    let e : c.iter.result.rest.now ≡ c.args.name.now = cc in
    let b : Before c.iter.result.rest.now (Some c.in-Some.end) = subst (Before c.iter.result.rest.now) c.in-Some.is (slash_from_back _ _ c.iter.result.rest.now c.rposition.result c.rposition.ensures.ran (from_back c.iter.result.rest.now refl) (λ x b q k. search (rules, tests))) in
    let d : Before c.args.name.now (Some c.in-Some.end) = subst (λ (k : List ℕ). Before k (Some c.in-Some.end)) e b in
    c.stored.ensures ∙ ap lend_name d.1

pub returns-in-None : goal.returns-in-None
returns-in-None c =
    let e : c.iter.result.rest.now ≡ c.args.name.now = cc in
    let b : Before c.iter.result.rest.now None = subst (Before c.iter.result.rest.now) c.in-None.is (slash_from_back _ _ c.iter.result.rest.now c.rposition.result c.rposition.ensures.ran (from_back c.iter.result.rest.now refl) (λ x b q k. search (rules, tests))) in
    let d : Before c.args.name.now None = subst (λ (k : List ℕ). Before k None) e b in
    c.stored-in-None.ensures ∙ ap lend_name d
