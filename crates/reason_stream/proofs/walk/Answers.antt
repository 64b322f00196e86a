-- `walk`: the reason at a place. The invariant: it is that of the rest of the stream at the place that is left. Assumes nothing.
use borrow.Author.Rules.{rules}
use native.Mathlib.Omega.{arith}
use mathlib.Core.Path.{◌≡◌, refl}
use lib.ListN.{replicate}
use Rattle.model.specs.Memory.{no_mailbox}
use Rattle.model.specs.Hidden.{no_counts, no_session}
use Rattle.step_stream.specs.Printing.{standing}
use Rattle.reason_stream.specs.Placing.{reaching_start, reaching_next, reaching_here, reaching_end}
use Rattle.reason_stream.proofs.walk.Goals as goal

pub loop-i-init : goal.loop-i-init
loop-i-init c =
    let e : standing (replicate 64 no_mailbox) no_counts no_session c.args.words.now c.args.queue.now ≡ standing c.begun-s.result.table c.begun-s.result.counts c.begun-s.result.session c.args.words.now c.args.queue.now = rw (c.begun-s.ensures.0, c.begun-s.ensures.1, c.begun-s.ensures.2) in
    (refl, refl, reaching_start c.args.stream.now c.args.place _ _ e c.requires.1)

pub record_size-requires : goal.record_size-requires
record_size-requires c = (c.loop-i-test.true, c.requires.0)

pub returns-then-left-eq1 : goal.returns-then-left-eq1
returns-then-left-eq1 c =
    reaching_here c.loop-i.invariant.2 c.record_size.ensures c.why_at.ensures.reason c.if-left-eq1.true

pub loop-i-smaller : goal.loop-i-smaller
loop-i-smaller c = omega arith

pub loop-i-preserved : goal.loop-i-preserved
loop-i-preserved c =
    (search rules, search rules, reaching_next c.loop-i.invariant.2 c.record_size.ensures c.serve-s.ensures c.if-left-eq1.false)

pub returns : goal.returns
returns c = reaching_end c.loop-i.invariant.2 c.loop-i-test.false
