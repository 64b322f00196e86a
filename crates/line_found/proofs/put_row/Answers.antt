-- `put_row`: where nothing was found the line is empty. Assumes nothing.
use Rattle.std.proofs.Common.{◌≡◌, length, arith, rules, tests}
use Rattle.line_put.specs.Writes.{writes_nothing}
use Rattle.line_found.specs.Telling.{line_none}
use Rattle.line_found.proofs.put_row.Goals as goal

pub returns-else-not-is_empty-clause-put : goal.returns-else-not-is_empty-clause-put
returns-else-not-is_empty-clause-put c =
    let e : length c.args.uids.now ≡ 0 = search (rules, tests) in
    writes_nothing (line_none c.args.tag.now c.args.name.now c.args.validity c.args.wanted c.args.uids.now e) (omega arith)
