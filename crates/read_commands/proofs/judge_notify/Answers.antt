-- `judge_notify`: what was read is answered as the command is. Assumes nothing.
use Rattle.std.proofs.Common.{ap, ◌∙◌}
use Rattle.read_commands.specs.Judging.{notified}
use Rattle.read_commands.proofs.Wholes.{notify_is}
use Rattle.read_commands.proofs.judge_notify.Goals as goal

pub returns : goal.returns
returns c = λ sel. c.notify_reply.ensures ∙ ap (notified c.args.l) c.keep_notify.ensures.exact ∙ notify_is c.args.l sel c.args.text.now c.args.at
