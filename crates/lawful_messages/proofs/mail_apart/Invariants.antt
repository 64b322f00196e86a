-- `mail_apart`: the loop keeps that no two of all entries are twins exactly if none is from i on. Assumes nothing.
use Rattle.std.proofs.Common.{◌≡◌, drop}
use Rattle.model.specs.Lists.{apart}
use Rattle.model.specs.Lawful.{twin}
use Rattle.table_messages.specs.Words.{messages}
use Rattle.lawful_messages.proofs.mail_apart.Given as goal

abbrev pub invariant-loop-i : goal.invariant-loop-i
invariant-loop-i l = apart twin (messages l.words) ≡ apart twin (drop l.i (messages l.words))
