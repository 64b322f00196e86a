-- `arrive`: each end comes to what the ladder says of `ME`. Assumes nothing.
use mathlib.Core.Path.{refl, ap, sym, ◌∙◌}
use native.Mathlib.Omega.{arith}
use lib.ListN.{length}
use Rattle.std.proofs.Common.{Ok}
use Rattle.laws.specs.Room.{sizes}
use Rattle.record_outcome.specs.Laws.{none_refused}
use Rattle.record_outcome.specs.declared.Outcome.{Outcome}
use Rattle.record_message.specs.Met.{some_free}
use Rattle.record_message.specs.Arrivals.{arrive_unknown, arrive_spent, arrive-full, arrive_done}
use Rattle.record_message.proofs.arrive.Goals as goal

pub returns-in_err-place : goal.returns-in_err-place
returns-in_err-place c = λ m lent law w. arrive_unknown m c.args.words.now c.args.counts c.args.s.now c.args.queue.now lent law c.args.id c.args.found w c.args.uid.0 c.args.flags c.args.size c.args.counter _ c.in_err-place.ensures.ok_part
    (none_refused _ c.in_err-place.ensures.ok_part c.in_err-place.ensures.value c.from_residual.ensures.1)

pub returns-then-is_spent : goal.returns-then-is_spent
returns-then-is_spent c =
    λ m lent law w. arrive_spent m c.args.words.now c.args.counts c.args.s.now c.args.queue.now lent law c.args.id c.args.found w c.args.uid.0 c.args.flags c.args.size c.args.counter _ c.in_ok-place.place c.in_ok-place.ensures.ok_part (sym c.is_spent.ensures ∙ c.if-is_spent.true) refl

pub returns-then-words-used : goal.returns-then-words-used
returns-then-words-used c =
    λ m lent law w. arrive-full m c.args.words.now c.args.counts c.args.s.now c.args.queue.now lent law c.args.id c.args.found w c.args.uid.0 c.args.flags c.args.size c.args.counter _ c.in_ok-place.place c.in_ok-place.ensures.ok_part (sym c.is_spent.ensures ∙ c.if-is_spent.false) (omega (arith, c.if-words-used.true)) refl

pub receive-came-requires : goal.receive-came-requires
receive-came-requires c =
    let z = sizes (length c.args.queue.now) c.args.counts.filled c.args.s.now c.requires.0.room in
    let low = z.low in
    let high = z.high in
    let most = z.filled in
    (omega (arith, c.if-words-used.false), omega (arith, c.if-words-used.false, c.requires.1), omega (arith, low), omega (arith, high), omega (arith, high, most), some_free (length c.args.queue.now) c.args.counts.filled c.args.s.now c.requires.0.room, c.requires.2)

pub returns : goal.returns
returns c =
    λ m lent law w. arrive_done m c.args.words.now c.args.counts c.args.s.now c.args.queue.now lent law c.args.id c.args.found w c.args.uid.0 c.args.flags c.args.size c.args.counter _ c.in_ok-place.place c.in_ok-place.ensures.ok_part
    (sym c.is_spent.ensures ∙ c.if-is_spent.false) _ c.receive-came.result.left.used _ c.receive-came.result.left.kept.session c.receive-came.result.left.kept.filled c.with_counter-x.result c.receive-came.result.row (omega (arith, c.if-words-used.false)) c.with_counter-x.ensures c.receive-came.ensures.0 c.receive-came.ensures.1 (ap (λ (j : Outcome). Ok j) c.put_left.ensures)
