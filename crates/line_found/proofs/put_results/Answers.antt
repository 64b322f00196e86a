-- `put_results`: the four parts in their order. Assumes nothing.
use Rattle.line_put.specs.Writes.{◌then◌, writes_as}
use Rattle.line_found.specs.Writing.{pieces_are}
use Rattle.line_found.proofs.put_results.Goals as goal

pub returns-clause-put : goal.returns-clause-put
returns-clause-put c =
    writes_as (◌then◌ (◌then◌ (◌then◌ c.put_labelled.ensures.put c.put_labelled-2.ensures.put) c.put_all.ensures.put) c.put_labelled-3.ensures.put) (pieces_are c.args.wanted c.args.uids.now c.requires.2)
