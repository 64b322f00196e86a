-- `drop_now`: the line is said, and the entry goes if it fits and stays otherwise. Assumes nothing.
use Rattle.table_messages.specs.Words.{messages}
use Rattle.event_message.specs.After.{once_leaves}
use Rattle.event_expunges.proofs.drop_now.Goals as goal

pub returns : goal.returns
returns c =
    once_leaves (messages c.args.words.now) c.args.used c.args.queue.now c.args.s.now c.args.filled c.args.k c.args.words.now _ c.args.n.0 c.take_out-rest.result c.say-said.result.fits _ c.say-said.result.end _ _ c.take_out-rest.ensures.0 c.take_out-rest.ensures.1 c.say-said.ensures c.hear.ensures.0 c.hear.ensures.1
