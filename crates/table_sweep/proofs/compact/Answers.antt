-- `compact`: the loop keeps that those of the first i entries that stay lie in the first o places, and that o is at most i. Assumes nothing.
use Rattle.std.proofs.Common.{arith, rules}
use Rattle.table_messages.specs.Words.{messages-length}
use Rattle.table_sweep.specs.Swept.{passing_start, passed}
use Rattle.table_sweep.proofs.compact.Goals as goal

pub loop-i-init : goal.loop-i-init
loop-i-init c = passing_start c.args.sweep c.args.words.now

pub move_one-o-requires : goal.move_one-o-requires
move_one-o-requires c = (c.loop-i.invariant.most, search rules)

pub loop-i-preserved : goal.loop-i-preserved
loop-i-preserved c = let k = messages-length c.args.used c.args.words.now c.requires in c.move_one-o.ensures.moved c.args.words.now (omega arith) c.loop-i.invariant

pub returns : goal.returns
returns c = passed c.args.sweep c.args.words.now c.loop-i.words c.loop-i.i c.loop-i.o c.args.used (omega arith) c.loop-i.invariant
