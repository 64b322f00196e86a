-- `read`: what was read of a line that is a search is what it asks; a line that is none owes nothing but room. Assumes nothing.
use Rattle.search_hits.specs.Finding.{asks_none}
use Rattle.search_hits.proofs.reading.read.Goals as goal

pub returns-in-None : goal.returns-in-None
returns-in-None c = asks_none c.args.text.now _ _ c.nothing.ensures c.in-None.ensures
