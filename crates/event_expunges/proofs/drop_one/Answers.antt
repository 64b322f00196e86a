-- `drop_one`: the entry is gone, and STATUS is told of the entries that are left, or not. Assumes nothing.
use Rattle.std.specs.Prelude.{◌-◌}
use Rattle.table_messages.specs.Words.{messages, messages-take}
use Rattle.event_message.specs.After.{drop_leaves}
use Rattle.event_expunges.proofs.drop_one.Goals as goal

pub returns : goal.returns
returns c =
    drop_leaves (messages c.args.words.now) c.args.used c.args.queue.now c.args.s.now c.args.filled c.args.k c.args.x.now c.args.on c.args.words.now _ _ _ _ c.remove.ensures
    (rw (messages-take (c.args.used - 1) c.remove.new.words) at c.tell_status.ensures)
