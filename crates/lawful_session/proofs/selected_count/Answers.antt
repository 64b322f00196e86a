-- The library's word for the chain is that of the lemmas. Assumes nothing.
use Rattle.std.proofs.Common.{rules}
use Rattle.lawful_session.specs.Tests.{selectings_are}
use Rattle.lawful_session.proofs.selected_count.Goals as goal

pub returns : goal.returns
returns c = rw selectings_are (search rules)
