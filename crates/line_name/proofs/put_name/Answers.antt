-- `put_name`: the name as it is, or in quotes. Assumes nothing.
use native.Mathlib.Omega.{arith}
use mathlib.Core.Path.{sym, ◌∙◌}
use Rattle.line_name.specs.Laws.{text_bare, text_quoted, text_length}
use Rattle.line_put.specs.Writes.{writes_as}
use Rattle.line_name.proofs.put_name.Goals as goal

pub returns-then-is_bare-clause-put : goal.returns-then-is_bare-clause-put
returns-then-is_bare-clause-put c = writes_as c.put.ensures (sym (text_bare c.args.name.now (sym c.is_bare.ensures ∙ c.if-is_bare.true)))

pub returns-else-is_bare-clause-put : goal.returns-else-is_bare-clause-put
returns-else-is_bare-clause-put c = writes_as c.put_quoted.ensures.put (sym (text_quoted c.args.name.now (sym c.is_bare.ensures ∙ c.if-is_bare.false)))
