-- `run`: what was read second stood behind what was read first.
use Rattle.std.proofs.Common.{◌++◌, take}
use Rattle.std.proofs.KnownBytes.{Consumes-trans}
use Rattle.run_cases.proofs.turns.run.Goals as goal

pub returns-then-got-octets : goal.returns-then-got-octets
returns-then-got-octets g c =
    let a = take c.read_full-got.result.size c.read_full-got.new.octets in
    let b = take c.read_full-more.result.size c.read_full-more.new.octets in
    (a ++ b, Consumes-trans _ _ _ a b c.read_full-got.ensures.bytes c.read_full-more.ensures.bytes)

pub returns : goal.returns
returns g c =
    let a = take c.read_full-got.result.size c.read_full-got.new.octets in
    let b = take c.read_full-more.result.size c.read_full-more.new.octets in
    (a ++ b, Consumes-trans _ _ _ a b c.read_full-got.ensures.bytes c.read_full-more.ensures.bytes)
