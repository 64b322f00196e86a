-- `step`: the columns are laid out of the array's rows, so `decide` speaks of these very rows. Assumes nothing.
use borrow.Author.Rules.{rules}
use lib.ListN.{length}
use mathlib.Core.Path.{◌≡◌}
use Rattle.table_mailboxes.specs.Walks.{mapped-length}
use Rattle.step.specs.Served.{seen_whole}
use Rattle.step.proofs.step.Goals as goal

pub decide-requires : goal.decide-requires
decide-requires c =
    let w : length c.args.table.now ≡ 64 = search (rules, mapped-length) in
    (c.args.table.now, seen_whole c.args.table.now c.args.lent w c.lay.ensures)

pub returns : goal.returns
returns c =
    let w : length c.args.table.now ≡ 64 = search (rules, mapped-length) in
    c.decide.ensures c.args.table.now (seen_whole c.args.table.now c.args.lent w c.lay.ensures)
