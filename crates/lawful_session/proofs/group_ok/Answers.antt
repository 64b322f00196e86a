-- `group_ok`: the four tests of a lent group, joined as `group_is` has them. Assumes nothing.
use Rattle.std.proofs.Common.{rules}
use Rattle.lawful_session.specs.Tests.{group_is}
use Rattle.lawful_session.proofs.group_ok.Goals as goal

pub returns-then-events_ok : goal.returns-then-events_ok
returns-then-events_ok c = rw group_is (search rules)

pub returns-else-events_ok : goal.returns-else-events_ok
returns-else-events_ok c = rw group_is (search rules)
