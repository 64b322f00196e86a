-- `find`: what was read of the line chooses the rows, and the runs found in them by its keys are those of the rules. Assumes nothing.
use native.Mathlib.Omega.{arith}
use Rattle.search_hits.specs.Finding.{gathers}
use Rattle.search_hits.proofs.find.Goals as goal

pub returns : goal.returns
returns c =
    gathers c.args.text.now c.args.words.now c.args.selected c.args.told.0 c.args.cols.now c.args.cols.now.few c.read-asked.new.cells c.read-asked.result c.read-asked.ensures
    c.choose-k.new.rows c.choose-k.result c.choose-k.ensures (omega arith) _ _ _ c.find_runs.ensures
