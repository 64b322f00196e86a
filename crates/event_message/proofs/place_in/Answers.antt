-- `place_in`: the place among the entries in use. Assumes nothing.
use Rattle.table_messages.specs.Words.{messages-take}
use Rattle.event_message.proofs.place_in.Goals as goal

pub returns : goal.returns
returns c = rw (c.from.ensures, c.from-2.ensures, messages-take c.args.used c.args.words.now) at c.place_of.ensures
