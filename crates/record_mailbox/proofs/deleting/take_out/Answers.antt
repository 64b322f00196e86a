-- `take_out`: a row is taken out, with the messages of its mailbox. Assumes nothing.
use Rattle.record_mailbox.specs.Deleting.{taken_out}
use Rattle.record_mailbox.proofs.deleting.take_out.Goals as goal

pub returns : goal.returns
returns c =
    rw c.saturating_sub.ensures (taken_out c.args.words.now c.args.queue.now c.args.counts c.args.s.now c.args.place.now.at c.args.y.now c.args.place.now.row c.args.id c.args.quiet c.settle-used.result c.delete-kept.result.session c.delete-kept.result.filled
    c.settle-used.ensures c.delete-kept.ensures)
