-- `decide`: the exact test is refusal 1 and the reader's verdict is refusal 2; behind both the memory is lawful, and `serve` says the rest of the ladder. Assumes nothing.
use mathlib.Core.Path.{refl, sym, ◌∙◌}
use Rattle.record_outcome.specs.Laws.{none_refused}
use Rattle.step.specs.Served.{law_ready, steps_unlawful, steps-bad, steps_served, is_of}
use Rattle.step.proofs.decide.Goals as goal

pub returns-then-not-is_lawful : goal.returns-then-not-is_lawful
returns-then-not-is_lawful c =
    λ rows seen. steps_unlawful rows c.args.lent c.args.words.now c.args.counts c.args.s c.args.queue.now c.args.octets.now _
    (λ t w. sym c.if-not-is_lawful.true ∙ c.is_lawful.ensures t rows c.args.queue.now w seen.stands.laid refl)
    refl

pub returns-in_err-r : goal.returns-in_err-r
returns-in_err-r c =
    λ rows seen. steps-bad rows c.args.lent c.args.words.now c.args.counts c.args.s c.args.queue.now c.args.octets.now _
    (λ t w. sym c.if-not-is_lawful.false ∙ c.is_lawful.ensures t rows c.args.queue.now w seen.stands.laid refl)
    (rw c.in_err-r.ensures.ok_part at c.read.ensures)
    (none_refused _ c.in_err-r.ensures.ok_part c.in_err-r.ensures.value c.from_residual.ensures.1)

pub serve-requires : goal.serve-requires
serve-requires c =
    let l = law_ready c.requires.0 c.args.lent c.args.words.now c.args.counts c.args.s c.args.queue.now c.requires.1.lends
    (λ t w. sym (c.is_lawful.ensures t c.requires.0 c.args.queue.now w c.requires.1.stands.laid refl) ∙ c.if-not-is_lawful.false) in
    (l.0, l.1, rw c.in_ok-r.ensures.ok_part at c.read.ensures)

pub returns : goal.returns
returns c =
    λ rows seen. steps_served rows c.args.lent c.args.words.now c.args.counts c.args.s c.args.queue.now c.args.octets.now _ seen.stands
    (λ t w. sym c.if-not-is_lawful.false ∙ c.is_lawful.ensures t rows c.args.queue.now w seen.stands.laid refl)
    (is_of c.args.octets.now _ c.in_ok-r.ensures.ok_part c.read.ensures)
    c.serve.ensures
