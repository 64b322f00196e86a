-- `tell`: the runs that were found are the ones that are said, and the scratch arrays are long enough for both. Assumes nothing.
use native.Mathlib.Omega.{arith}
use Rattle.search_answer.specs.Coming.{tells}
use Rattle.search_answer.proofs.tell.Goals as goal

pub say-requires : goal.say-requires
say-requires c =
    let few = c.args.cols.now.few in
    let r = c.find-hits.ensures.few in
    (c.requires.0, record { few = omega arith; in_rows = omega arith; in-starts = omega arith; in-counts = omega arith; room = omega arith; bounded = c.find-hits.ensures.bounded })

pub returns : goal.returns
returns c =
    tells c.args.text.now c.args.words.now c.args.selected c.args.told.0 c.args.cols.now
    c.find-hits.new.rows c.find-hits.new.uids c.find-hits.new.starts c.find-hits.new.counts c.find-hits.result c.find-hits.ensures
    c.args.queue.now c.args.filled _ _ _ c.say.ensures
