-- `set_at`: the parts of a set are the cells behind its first two. Assumes nothing.
use Rattle.std.proofs.Common.{◌+◌}
use Rattle.match_keys.specs.Laws.{tests_set}
use Rattle.match_keys.proofs.set_at.Goals as goal

pub returns : goal.returns
returns c =
    (c.behind-after.ensures, tests_set c.args.last c.args.n c.args.cells.now (c.args.at + 2) c.behind-after.result c.in_set-holds.result c.in_set-holds.ensures)
