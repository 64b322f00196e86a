-- `head`: by the verb that was read, as the definition does. Assumes nothing.
use Rattle.std.proofs.Common.{sym, ◌∙◌}
use Rattle.read_commands.proofs.Wholes.{no_tag, heads_by}
use Rattle.read_commands.proofs.head.Goals as goal

pub returns-then-not-is_tagged : goal.returns-then-not-is_tagged
returns-then-not-is_tagged c = no_tag c.args.text.now (sym c.is_tagged.ensures ∙ c.if-not-is_tagged.true)

pub returns : goal.returns
returns c = heads_by c.args.text.now c.tag_end.result c.tag_end.ensures.exact (sym c.is_tagged.ensures ∙ c.if-not-is_tagged.false) _ c.verb_at.ensures.exact
