-- `new_at`: a list that was read is not empty. Assumes nothing.
use Rattle.std.proofs.Common.{◌≡◌, [], sym, ◌∙◌, arith, rules}
use Rattle.read_events.specs.Gathered.{gather_events}
use Rattle.read_events.proofs.Gathering.{new_list}
use Rattle.read_events.proofs.new_at.Goals as goal

pub returns-then-octet_at-eq40 : goal.returns-then-octet_at-eq40
returns-then-octet_at-eq40 c =
    let w = c.in_ok-attributes.ensures.within in
    let e = new_list c.args.text.now c.args.at (sym c.octet_at.ensures ∙ c.if-octet_at-eq32.true) (sym c.octet_at-then-octet_at-eq32.ensures ∙ c.if-octet_at-eq40.true) c.in_ok-attributes.ensures.exact in
    let d : c.default.result ≡ gather_events [] = search rules in
    record { exact = rw d e; within = (omega arith, omega arith) }
