-- `count_each`: all are the count and those from here on. Assumes nothing.
use Rattle.std.proofs.Common.{arith, get_or, []}
use Rattle.table_messages.specs.Words.{of_row}
use Rattle.table_messages.specs.Counted.{lives, count_next, one_most}
use Rattle.table_messages.proofs.count_each.Goals as goal

pub loop-row-preserved : goal.loop-row-preserved
loop-row-preserved c =
    let p = lives c.args.mailbox in
    let b = p (of_row (get_or c.rows-all.result.now c.loop-row.row-index [])) in
    rw (c.from-count.ensures, c.lives.ensures, c.of_row.ensures)
    (omega (arith, one_most b), count_next p c.rows-all.result.now c.loop-row.row-index c.loop-row.count c.loop-row-test.true c.loop-row.invariant.1)
