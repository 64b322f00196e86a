-- `tally_all`: where no state was set so far, all are the count and those from here on. Assumes nothing.
use Rattle.std.proofs.Common.{arith, get_or, [], eqb}
use Rattle.table_messages.specs.Words.{of_row}
use Rattle.table_messages.specs.Counted.{lives, at_rest_here, count_next, one_most}
use Rattle.table_messages.proofs.tally_all.Goals as goal

pub loop-row-preserved : goal.loop-row-preserved
loop-row-preserved c =
    let x = of_row (get_or c.rows-all.result.now c.loop-row.row-index []) in
    rw (c.from-count.ensures, c.of_row-e.ensures) (
      omega (arith, one_most (eqb x.mailbox c.args.mailbox)),
      λ z.
          let r = at_rest_here c.args.mailbox c.loop-row.states x z in
          rw r.1 (count_next (lives c.args.mailbox) c.rows-all.result.now c.loop-row.row-index c.loop-row.count c.loop-row-test.true (c.loop-row.invariant.1 r.0)),
    )
