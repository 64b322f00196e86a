-- `refuse`: the line that is written is all of the answer that the rules give, so whether it fits decides between done and refusal 8. Assumes nothing.
use Rattle.record_reply.specs.Left.{line_comes}
use Rattle.record_reply.proofs.refuse.Goals as goal

pub returns : goal.returns
returns c =
    λ m ws lent is says no.
    line_comes m ws c.args.counts c.args.s.now c.args.queue.now c.args.text.now lent c.args.verb c.args.reply is says no
    c.say_reply-said.ensures c.outcome.result c.outcome.ensures
