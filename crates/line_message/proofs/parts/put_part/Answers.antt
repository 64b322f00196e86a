-- `put_part`: the lines of the places above j are written, and the place of the next message is kept. Assumes nothing.
use mathlib.Core.Path.{◌≡◌}
use native.Mathlib.Omega.{arith}
use Rattle.table_messages.specs.Words.{messages}
use Rattle.line_message.specs.Parts.{part_next_lem, part_end, next_most}
use Rattle.line_message.proofs.parts.put_part.Goals as goal

pub loop-j-preserved : goal.loop-j-preserved
loop-j-preserved c =
    let m = next_most c.args.told.0 c.loop-j.next.0 c.entry-e.result c.args.part in record {
      limit = omega arith;
      upper_bound = omega arith;
      places = omega arith;
      put = part_next_lem c.args.part c.args.told.0 (messages c.args.words.now) c.args.order.now c.loop-j.j c.loop-j.next.0 _ c.entry-e.result c.loop-j-test.true c.loop-j.invariant.put c.entry-e.ensures c.put_one-next.ensures.put c.put_one-next.ensures.next;
    }

pub returns-clause-put : goal.returns-clause-put
returns-clause-put c = let e : c.loop-j.j ≡ 0 = omega arith in part_end c.args.part c.args.told.0 (messages c.args.words.now) c.args.order.now c.loop-j.next.0 (omega arith) (rw e at c.loop-j.invariant.put)
