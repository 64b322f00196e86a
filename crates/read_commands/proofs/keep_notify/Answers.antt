-- `keep_notify`: what was read ends where the line does. Assumes nothing.
use Rattle.std.proofs.Common.{sym, ◌∙◌}
use Rattle.read_commands.proofs.Wholes.{keeps_whole}
use Rattle.read_commands.proofs.keep_notify.Goals as goal

pub returns-then-end-text : goal.returns-then-end-text
returns-then-end-text c = keeps_whole c.args.text.now c.args.at (sym c.octet_at.ensures ∙ c.if-octet_at-ne32.false) c.if-end-text.true c.in_ok-notify.ensures.is
