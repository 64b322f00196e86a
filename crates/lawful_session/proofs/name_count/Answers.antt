-- The library's word for the chain is the rules'. Assumes nothing.
use Rattle.std.proofs.Common.{rules}
use Rattle.lawful_session.specs.Tests.{counts_are}
use Rattle.lawful_session.proofs.name_count.Goals as goal

pub returns : goal.returns
returns c = rw counts_are (search rules)
