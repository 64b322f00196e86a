-- `place_of`: of digits alone their number, one more at a turn. Assumes nothing.
use Rattle.std.proofs.Common.{rules, arith, ◌≡◌, ◌∙◌, sym}
use borrow.Author.Tests.{tests}
use Rattle.std.proofs.lemmas.Iterator.{YieldsList-from_slice}
use Rattle.std.proofs.lemmas.Iterator.Search.{all_from_yields_List}
use Rattle.model.specs.Iterating.{allb_is_all}
use Rattle.model.specs.Lists.{allb}
use Rattle.model.specs.Octets.{digit}
use Rattle.reason_text.proofs.Places.{place_none, place_some, value_next, value_end}
use Rattle.reason_text.proofs.place_of.Goals as goal

pub returns-then-not-all : goal.returns-then-not-all
returns-then-not-all c =
    let all : c.all.result ≡ allb digit c.args.text.now = all_from_yields_List digit _ _ c.all.result c.all.ensures.ran (YieldsList-from_slice c.args.text.now cc) (λ x b q k. search (rules, tests)) ∙ allb_is_all digit c.args.text.now in
    let z = place_none c.args.text.now (sym all ∙ c.if-not-all.true) in omega arith

pub loop-b-preserved : goal.loop-b-preserved
loop-b-preserved c = (omega arith, c.loop-b.invariant.1 ∙ rw c.appended-v.ensures (value_next c.args.text.now c.loop-b.b-index c.loop-b.v c.loop-b-test.true))

pub returns : goal.returns
returns c =
    let all : c.all.result ≡ allb digit c.args.text.now = all_from_yields_List digit _ _ c.all.result c.all.ensures.ran (YieldsList-from_slice c.args.text.now cc) (λ x b q k. search (rules, tests)) ∙ allb_is_all digit c.args.text.now in
    let z = place_some c.args.text.now (sym all ∙ c.if-not-all.false) in
    let y = value_end c.args.text.now c.loop-b.b-index c.loop-b.v c.loop-b-test.false in
    omega arith
