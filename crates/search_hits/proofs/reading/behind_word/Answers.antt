-- `behind_word`: the verb stands behind the tag and a space; where the line is a search, it is ESEARCH and the search goes on there. Assumes nothing.
use Rattle.search_hits.specs.Headed.{behind-found, behind_none}
use Rattle.search_hits.proofs.reading.behind_word.Goals as goal

pub returns-in_err-at : goal.returns-in_err-at
returns-in_err-at c = rw c.from_residual.ensures (behind_none c.args.text.now c.tag_end.result c.tag_end.ensures.exact c.in_err-at.ensures)

pub returns : goal.returns
returns c = behind-found c.args.text.now c.tag_end.result c.tag_end.ensures.exact c.in_ok-at.ensures
