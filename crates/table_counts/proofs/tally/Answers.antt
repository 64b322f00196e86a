-- `tally`: an entry that exists counts for the row with its id, and for no other. Assumes nothing.
use Rattle.std.proofs.Common.{rules, arith, ◌≡◌, ◌≤◌, length}
use Rattle.table_counts.specs.Tally.{tally_one}
use Rattle.table_counts.proofs.tally.Goals as goal

pub returns-in-Some : goal.returns-in-Some
returns-in-Some c =
    let long : length c.args.counts.now ≡ 64 = search rules in
    let few : c.args.cols.now.n ≤ 64 = c.args.cols.now.few in
    rw (← c.get-e.ensures) (tally_one c.args.cols.now.ids c.args.cols.now.n c.get-e.result c.args.i c.args.counts.now c.requires.2 c.in-Some.k c.if-e-eq1.false c.in-Some.ensures.finds (omega arith))
