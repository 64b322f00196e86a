-- `row_of`: the guess is tested, and the search is over all of them. Assumes nothing.
use Rattle.std.proofs.Common.{rules, arith, ◌≡◌, ◌≤◌, length}
use Rattle.table_counts.specs.Tally.{finds}
use Rattle.table_counts.proofs.row_of.Goals as goal

pub returns-clause-finds : goal.returns-clause-finds
returns-clause-finds c =
    let long : length c.args.cols.now.ids ≡ 64 = search rules in
    let few : c.args.cols.now.n ≤ 64 = c.args.cols.now.few in
    finds c.args.cols.now.ids c.args.cols.now.n c.args.id _ (omega arith) c.find.ensures.first
