-- `tag_length`: the reader's length cuts out the tag, and a line without a tag has the length 0. Assumes nothing.
use Rattle.search_hits.specs.Headed.{tags_by}
use Rattle.search_hits.proofs.reading.tag_length.Goals as goal

pub returns : goal.returns
returns c = tags_by c.args.text.now c.tag_length.result c.tag_length.ensures
