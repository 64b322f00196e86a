-- `is_folded`: any other name than INBOX is as it is. Assumes nothing.
use Rattle.std.specs.Prelude.{not}
use Rattle.std.proofs.Common.{ap, sym, ◌∙◌}
use Rattle.names.specs.Folding.{folded-other}
use Rattle.names.proofs.is_folded.Goals as goal

pub returns-then-not-is_inbox : goal.returns-then-not-is_inbox
returns-then-not-is_inbox c = ap not c.if-not-is_inbox.true ∙ folded-other c.args.name.now (sym c.is_inbox.ensures ∙ c.if-not-is_inbox.true)
