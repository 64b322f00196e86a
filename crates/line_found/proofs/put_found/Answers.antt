-- `put_found`: tag, mailbox, results and line end, one behind the other. Assumes nothing.
use Rattle.line_put.specs.Writes.{◌then◌, writes_as}
use Rattle.line_found.specs.Writing.{line_pieces}
use Rattle.line_found.proofs.put_found.Goals as goal

pub returns-clause-put : goal.returns-clause-put
returns-clause-put c =
    writes_as (◌then◌ (◌then◌ (◌then◌ c.put_tag.ensures.put c.put_box.ensures.put) c.put_results.ensures.put) c.put.ensures) (line_pieces c.args.tag.now c.args.name.now c.args.validity c.args.wanted c.args.uids.now c.requires.2.0)
