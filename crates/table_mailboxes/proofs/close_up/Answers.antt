-- `close_up`: the rows behind move down, and the last becomes zeros. Assumes nothing.
use Rattle.std.proofs.Common.{rules, arith, ◌≡◌, ◌∙◌, ◌-◌, length}
use Rattle.table_mailboxes.specs.Walks.{mapped-length}
use Rattle.table_mailboxes.specs.Shift.{copied_down, shift_end}
use Rattle.table_mailboxes.proofs.close_up.Goals as goal

pub returns : goal.returns
returns c =
    let long : length c.args.rows ≡ 64 = search (rules, mapped-length) in
    let e = c.copy_within.ensures.after ∙ copied_down c.args.k c.args.n c.args.rows (omega arith) (omega arith) in
    rw (c.vacant.ensures, e) (shift_end c.args.k c.args.n (c.args.n - 1) c.args.rows (omega arith) (omega arith) (omega arith))
