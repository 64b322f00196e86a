-- `any_twin`: the loop keeps that the entry has a twin from `from` on exactly if it has one from i on. Assumes nothing.
use Rattle.std.proofs.Common.{◌≡◌, drop}
use Rattle.model.specs.Lists.{anyb}
use Rattle.model.specs.Lawful.{twin}
use Rattle.table_messages.specs.Words.{messages}
use Rattle.lawful_messages.proofs.any_twin.Given as goal

abbrev pub invariant-loop-i : goal.invariant-loop-i
invariant-loop-i l = anyb (twin l.d) (drop l.from (messages l.words)) ≡ anyb (twin l.d) (drop l.i (messages l.words))
