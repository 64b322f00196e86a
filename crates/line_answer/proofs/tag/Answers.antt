-- `tag`: the tag, or `*` where there is none. Assumes nothing.
use mathlib.Core.Path.{sym}
use Rattle.line_answer.specs.Tagged.{tag_none, tag_some}
use Rattle.line_answer.proofs.tag.Goals as goal

pub returns-then-is_tagged-clause-tag : goal.returns-then-is_tagged-clause-tag
returns-then-is_tagged-clause-tag c = tag_some c.args.text.now _ c.tag_end.ensures.exact (sym c.if-is_tagged.ensures)

pub returns-clause-tag : goal.returns-clause-tag
returns-clause-tag c = tag_none c.args.text.now (sym c.if-is_tagged.ensures)
