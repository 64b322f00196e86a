-- `next_turn`: the call's octets stood behind its numbers.
use Rattle.std.proofs.Common.{◌++◌}
use Rattle.std.proofs.KnownBytes.{Consumes-trans}
use Rattle.run_cases.proofs.turns.next_turn.Goals as goal

pub returns : goal.returns
returns g c =
    let a = c.next_expected.ensures in
    let b = c.run.ensures in
    (a.0 ++ b.0, Consumes-trans _ _ _ a.0 b.0 a.1 b.1)
