-- `entry`: a place behind the last whole entry has nothing; any other has its six words in the slice. Assumes nothing.
use mathlib.Core.Path.{sym, ◌∙◌}
use native.Mathlib.Omega.{arith}
use Rattle.table_messages.specs.Words.{messages, messages-count, past}
use Rattle.table_messages.proofs.entry.Goals as goal

pub returns-then-words-i : goal.returns-then-words-i
returns-then-words-i c =
    c.nothing.ensures ∙ sym (past (messages c.args.words.now) c.args.i (let z = messages-count c.args.words.now in omega arith))
