-- `asked`: sources and keys are read behind the word, where a line that is a search has them; another line is none. Assumes nothing.
use Rattle.search_hits.specs.Finding.{sources_none, search_none, asks_is}
use Rattle.search_hits.proofs.reading.asked.Goals as goal

pub returns-in_err-at : goal.returns-in_err-at
returns-in_err-at c = rw c.from_residual.ensures c.in_err-at.ensures

pub returns-in_err-listed : goal.returns-in_err-listed
returns-in_err-listed c = rw c.from_residual-in_err-listed.ensures (sources_none c.args.text.now _ c.in_ok-at.ensures c.in_err-listed.ensures)

pub returns-in_err-asked : goal.returns-in_err-asked
returns-in_err-asked c = rw c.from_residual-in_err-asked.ensures (search_none c.args.text.now _ c.in_ok-at.ensures c.args.cells.now _ c.in_err-asked.ensures)

pub returns : goal.returns
returns c =
    asks_is c.args.text.now _ c.in_ok-at.ensures _ _ c.in_ok-listed.ensures
    c.args.cells.now c.search_at.new.cells _ _ c.in_ok-asked.ensures
    c.requires.0 c.requires.1 c.search_at.auto.cells
