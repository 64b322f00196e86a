-- `speak`: the three parts one after the other, each begun anew where the one before ended, are what is said. Assumes nothing.
use Rattle.std.proofs.Common.{length}
use Rattle.table_messages.specs.Words.{messages}
use Rattle.order_messages.specs.Chosen.{chosen}
use Rattle.event_view.specs.Speaking.{speaks}
use Rattle.event_view.proofs.speak.Goals as goal

pub returns : goal.returns
returns c =
    speaks c.args.told.0 c.args.class c.args.limit (chosen (messages c.args.words.now) c.args.order.now (length c.args.order.now)) c.args.queue.now c.args.filled _ _ _
    c.say_first-a.result c.begun.result c.say_exists-b.result c.begun-2.result c.marks-c.result c.staying-k.result c.unseen-f.result
    c.say_first-a.ensures.0 c.begun.ensures c.staying-k.ensures.0 c.unseen-f.ensures.0 c.say_exists-b.ensures.0 c.begun-2.ensures c.marks-c.ensures.0
