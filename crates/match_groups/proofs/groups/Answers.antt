-- No more than the eight that there are. Assumes nothing.
use Rattle.std.proofs.Common.{◌≡◌, length, arith}
use Rattle.std.proofs.Math.ListN.{length-take}
use Rattle.std.proofs.lemmas.List.{take_min}
use Rattle.match_groups.proofs.groups.Goals as goal

pub returns : goal.returns
returns c =
    let long : length c.args.s.now.groups ≡ 8 = omega arith in
    (rw (c.min.ensures, c.from.ensures) (take_min c.args.s.now.groupcount c.args.s.now.groups), simp length-take (omega arith))
