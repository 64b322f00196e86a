-- `all_hold`: a search that holds all of its keys is a list of keys, of which none may fail. Assumes nothing.
use Rattle.match_keys.specs.Laws.{all_is}
use Rattle.match_keys.proofs.all_hold.Goals as goal

pub returns : goal.returns
returns c = all_is c.args.cells.now c.args.p c.keys_hold.result (rw c.facts_of.ensures at c.keys_hold.ensures)
