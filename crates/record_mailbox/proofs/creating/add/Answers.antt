-- `add`: the new mailbox stands behind the last. Assumes nothing.
use Rattle.record_mailbox.specs.Creating.{added}
use Rattle.record_mailbox.proofs.creating.add.Goals as goal

pub returns : goal.returns
returns c =
    added c.args.queue.now c.args.counts c.args.s.now c.args.y.now c.args.x c.args.quiet _ c.create-done.ensures c.put.ensures
