-- `judge_by`: a NOTIFY has no keys. Assumes nothing.
use Rattle.read_commands.proofs.Wholes.{notify_cells}
use Rattle.read_commands.proofs.judge_by.Goals as goal

pub returns-in-Notify : goal.returns-in-Notify
returns-in-Notify c =
    rw c.in-Notify.is
    (record { exact = c.judge_notify.ensures c.args.selected; cells = notify_cells c.args.cells.now c.args.cells.now c.args.text.now c.args.at })
