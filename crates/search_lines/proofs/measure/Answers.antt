-- `measure`: with the limit 0 nothing is written, so both parts can be measured from one place and their lengths added. Assumes nothing.
use Rattle.std.proofs.Common.{rules}
use Rattle.model.specs.Requests.{esearch}
use Rattle.model.specs.Commands.{tag_of}
use Rattle.model.specs.Lines.{answer}
use Rattle.model.specs.declared.Reply.TheVariants.{Accepted}
use Rattle.search_lines.specs.Lines.{measured_both}
use Rattle.search_lines.proofs.measure.Goals as goal

pub returns : goal.returns
returns c =
    let l = c.put_lines.ensures.put in
    let p = measured_both (answer (tag_of c.args.text.now) esearch Accepted) l.put (rw l.limit at c.put_reply.ensures.put.put) in
    search (rules, p)
