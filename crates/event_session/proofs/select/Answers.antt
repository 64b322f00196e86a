-- `select`: one pass frees what waited, and the view becomes the whole mailbox. Assumes nothing.
use mathlib.Core.Path.{◌∙◌, ap}
use mathlib.Core.List.{List}
use lib.ListN.{take, length}
use Rattle.model.specs.Memory.{no_message, refill}
use Rattle.model.specs.declared.Message.{Message}
use Rattle.table_messages.specs.Words.{messages}
use lib.ListN.{length}
use Rattle.table_messages.specs.Laid.{laid}
use Rattle.event_session.specs.After.{kept_rests}
use Rattle.event_session.proofs.select.Goals as goal

pub returns : goal.returns
returns c =
    let k = kept_rests (take c.args.used (messages c.args.words.now)) in
    (c.settle-used.ensures.0 ∙ ap (λ (l : List Message). laid c.args.words.now (refill no_message (messages c.args.words.now) c.args.used l)) k, c.settle-used.ensures.1 ∙ ap length k, c.viewed.ensures)
