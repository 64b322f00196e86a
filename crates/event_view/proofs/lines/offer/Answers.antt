-- `offer`: a line that is refused leaves the state with one more counted; one that fits is measured, then put. Assumes nothing.
use Rattle.std.proofs.Common.{rules, tests, refl, ◌≡◌, ◌∙◌, ap, arith, true, false}
use Rattle.event_view.specs.declared.Going.{Going}
use Rattle.event_view.specs.Saying.{say_shut, say_over, say-fits}
use Rattle.event_view.specs.Coded.{state_of}
use Rattle.event_view.proofs.lines.offer.Goals as goal

pub returns-then-not-g : goal.returns-then-not-g
returns-then-not-g g c =
    let state = state_of c.args.queue.now c.args.g in
    let shut : c.args.g.whole ≡ false = search (rules, tests) in (
      ap (state_of c.args.queue.now) c.refused.ensures ∙ say_shut c.args.limit c.args.uid.0 _ state shut,
      omega (arith, ap (λ (x : Going). x.end) c.refused.ensures),
      omega (arith, ap (λ (x : Going). x.rest) c.refused.ensures),
      ap (λ (x : Going). x.next.0) c.refused.ensures,
    )

pub returns-then-limit-end : goal.returns-then-limit-end
returns-then-limit-end g c =
    let state = state_of c.args.queue.now c.args.g in (
      ap (state_of _) c.refused-then-limit-end.ensures
          ∙ say_over c.args.queue.now _ c.args.limit c.args.uid.0 _ state c.write-end.result refl c.write-end.ensures c.if-limit-end.true,
      omega (arith, ap (λ (x : Going). x.end) c.refused-then-limit-end.ensures),
      omega (arith, ap (λ (x : Going). x.rest) c.refused-then-limit-end.ensures),
      ap (λ (x : Going). x.next.0) c.refused-then-limit-end.ensures,
    )

pub returns : goal.returns
returns g c =
    let state = state_of c.args.queue.now c.args.g in
    let whole : c.args.g.whole ≡ true = search (rules, tests) in (
      say-fits c.args.queue.now _ c.args.limit c.args.uid.0 _ state c.write-end.result refl c.write-end.ensures _ c.write-end-2.result
          whole c.write-end-2.ensures c.if-limit-end.false,
      omega (arith, c.write-end.ensures.next, c.write-end-2.ensures.next),
      omega arith,
      refl,
    )
