-- `get`: six words from 6 i on are entry i. Assumes nothing.
use mathlib.Core.Path.{sym}
use native.Mathlib.Omega.{arith}
use Rattle.table_messages.specs.Words.{messages_get}
use Rattle.table_messages.proofs.get.Goals as goal

pub returns : goal.returns
returns c =
    sym (messages_get c.args.i c.args.words.now (omega arith))
