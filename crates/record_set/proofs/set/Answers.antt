-- `set`: the notes and the order are made of the rows as they stand, so the listing that goes by them is that of the session that is asked for. Assumes nothing.
use Rattle.std.proofs.Common.{arith}
use Rattle.record_set.specs.Listed.{noted-rows}
use Rattle.record_set.specs.Setting.{noted-set}
use Rattle.record_set.proofs.set.Goals as goal

pub returns : goal.returns
returns c =
    λ m p gs lent law laid sel is first asks.
    c.set_noted.ensures m p c.args.status gs lent law sel is first asks
    (noted-set m c.args.words.now c.args.counts c.args.s.now c.args.queue.now lent c.args.status gs c.args.asked.now asks
    (λ same. noted-rows m c.args.words.now c.args.counts c.args.s.now c.args.queue.now lent law c.args.cols.now laid c.args.cols.now.few
    c.args.asked.now same c.args.status c.note_rows.new.picked c.by_name-r.new.order c.existing-tally.result c.note_rows.new.asks c.by_name-r.result (omega arith)
    c.note_rows.ensures c.by_name-r.ensures.0 c.existing-tally.ensures))
