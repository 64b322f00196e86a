-- `choose`: the rows that are noted are those that the search admits, and they are put in order by their names. Assumes nothing.
use Rattle.search_hits.specs.Finding.{chooses}
use Rattle.search_hits.proofs.choose.Goals as goal

pub returns : goal.returns
returns c = chooses c.args.listed.now c.args.selected c.args.cols.now c.pick.new.picked c.pick.ensures _ c.by_name.result c.by_name.ensures.1 c.by_name.ensures.0
