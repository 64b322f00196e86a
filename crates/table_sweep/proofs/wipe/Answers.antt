-- `wipe`: the loop keeps that the places up to j are nothing, and that all others are as they were. Assumes nothing.
use Rattle.std.proofs.Common.{arith}
use Rattle.table_messages.specs.Words.{messages-length}
use Rattle.table_sweep.specs.Swept.{wiping_start, wiping_next, wiping_end}
use Rattle.table_sweep.proofs.wipe.Goals as goal

pub loop-j-init : goal.loop-j-init
loop-j-init c = wiping_start c.args.words.now c.args.from

pub loop-j-preserved : goal.loop-j-preserved
loop-j-preserved c =
    let k = messages-length c.args.upto c.args.words.now c.requires.1 in
    rw c.put.ensures (wiping_next c.args.words.now c.args.from c.loop-j.words c.loop-j.j c.nothing.result (omega arith) (omega arith) c.loop-j.invariant c.nothing.ensures (omega arith))

pub returns : goal.returns
returns c = wiping_end c.args.words.now c.args.from c.loop-j.words c.loop-j.j c.args.upto (omega arith) c.loop-j.invariant
