-- `events_at`: the word NONE is not empty. Assumes nothing.
use Rattle.std.proofs.Common.{◌≡◌, [], sym, ◌∙◌, rules}
use Rattle.read_events.specs.Gathered.{gather_events}
use Rattle.read_events.proofs.Gathering.{events_none}
use Rattle.read_events.proofs.events_at.Goals as goal

pub returns-then-word_at : goal.returns-then-word_at
returns-then-word_at c =
    let e : c.default.result ≡ gather_events [] = search rules in
    events_none c.args.text.now c.args.at (λ e. c.if-octet_at-eq40.false (c.octet_at.ensures ∙ e)) (sym c.word_at.ensures ∙ c.if-word_at.true) c.run_end.ensures e
