-- `walk`: every record of a stream. The invariant: what is still to be written is what the run's memory prints for the rest. Assumes nothing.
use borrow.Author.Rules.{rules}
use native.Mathlib.Omega.{arith}
use mathlib.Core.Path.{refl, ◌∙◌}
use Rattle.step_stream.specs.Printing.{running_start, running_next, running_end}
use Rattle.step_stream.proofs.walk.Goals as goal

pub loop-i-init : goal.loop-i-init
loop-i-init c =
    (refl, refl, running_start c.args.stream.now c.args.out.now c.args.words.now c.args.queue.now c.start-s.ensures.0 c.start-s.ensures.1 c.start-s.ensures.2 c.start-s.ensures.3)

pub record_size-requires : goal.record_size-requires
record_size-requires c =
    (c.loop-i-test.true, c.requires.0)

pub turn-s-requires : goal.turn-s-requires
turn-s-requires c =
    (omega arith, c.loop-i.invariant.1 ∙ c.requires.1)

pub loop-i-smaller : goal.loop-i-smaller
loop-i-smaller c =
    omega arith

pub loop-i-preserved : goal.loop-i-preserved
loop-i-preserved c =
    (search rules, search rules, running_next c.loop-i.invariant.2 c.record_size.ensures c.turn-s.ensures)

pub returns : goal.returns
returns c = running_end c.loop-i.invariant.2 c.loop-i-test.false
