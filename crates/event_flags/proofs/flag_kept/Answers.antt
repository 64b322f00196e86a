-- `flag_kept`: the entry is changed, and the STATUS of a change is told or not. Assumes nothing.
use Rattle.event_message.specs.Flagged.{kept_leaves}
use Rattle.event_flags.proofs.flag_kept.Goals as goal

pub returns : goal.returns
returns c =
    kept_leaves c.args.words.now _ c.args.used c.args.queue.now c.args.s.now c.args.filled c.args.k c.args.flags c.args.counter c.get-e.result c.changed.result c.args.states
    c.get-e.ensures c.changed.ensures c.put.ensures c.requires.0 c.args.x.now c.args.on _ _ _ c.tell_change.ensures
