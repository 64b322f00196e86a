-- `put_whole`: the tagged line is put where the lines end, so both stand behind each other. Assumes nothing.
use Rattle.std.proofs.Common.{rules}
use Rattle.line_put.specs.Writes.{◌then◌}
use Rattle.search_lines.proofs.put_whole.Goals as goal

pub returns : goal.returns
returns c =
    let p = ◌then◌ c.put_lines.ensures.put c.put_reply.ensures.put in
    let q = p.put in
    search (rules, q)
