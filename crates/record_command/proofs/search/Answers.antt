-- `search`: the reply that was judged is the rules', and a line whose word is ESEARCH and that is accepted is a search. Assumes nothing.
use mathlib.Core.Path.{◌≡◌, ap, sym, ◌∙◌}
use mathlib.Core.Bool.{not}
use native.Mathlib.Omega.{arith}
use lib.Dec.{eqb}
use Rattle.model.specs.Requests.{esearch}
use Rattle.model.specs.Commands.{command_of}
use Rattle.model.specs.Limits.{limits}
use Rattle.model.specs.declared.Limits.{Limits}
use Rattle.laws.specs.Room.{sizes}
use Rattle.read_commands.specs.Judging.{judged_of, whole_by}
use Rattle.record_reply.specs.Judged.{verb_judged, reply_judged, accepted_judged}
use Rattle.record_command.specs.Verbs.{search_are}
use Rattle.record_command.proofs.search.Goals as goal

pub refuse-requires : goal.refuse-requires
refuse-requires c =
    let z = sizes _ _ c.args.s.now c.requires.0.room in (omega arith, omega arith)

pub returns-then-not-is_accepted : goal.returns-then-not-is_accepted
returns-then-not-is_accepted c =
    let e : whole_by esearch c.args.text.now c.args.at ≡ command_of c.args.text.now → c.judge_search-first.result ≡ judged_of limits (not (eqb c.args.s.now.selected 0)) (command_of c.args.text.now) = λ h.
    c.judge_search-first.ensures.exact
    ∙ (ap (λ (l : Limits). judged_of l (not (eqb c.args.s.now.selected 0)) (whole_by esearch c.args.text.now c.args.at)) c.limits.ensures
    ∙ ap (judged_of limits (not (eqb c.args.s.now.selected 0))) h) in
    let no = sym c.is_accepted.ensures ∙ c.if-not-is_accepted.true in
    λ m lent law laid head.
    c.refuse.ensures m c.args.words.now lent
    (verb_judged m c.args.words.now c.args.counts c.args.s.now c.args.queue.now c.args.text.now lent c.judge_search-first.result (e head))
    (reply_judged m c.args.words.now c.args.counts c.args.s.now c.args.queue.now c.args.text.now lent c.judge_search-first.result (e head) no) no

pub returns : goal.returns
returns c =
    let e : whole_by esearch c.args.text.now c.args.at ≡ command_of c.args.text.now → c.judge_search-first.result ≡ judged_of limits (not (eqb c.args.s.now.selected 0)) (command_of c.args.text.now) = λ h.
    c.judge_search-first.ensures.exact
    ∙ (ap (λ (l : Limits). judged_of l (not (eqb c.args.s.now.selected 0)) (whole_by esearch c.args.text.now c.args.at)) c.limits.ensures
    ∙ ap (judged_of limits (not (eqb c.args.s.now.selected 0))) h) in
    let yes = sym c.is_accepted.ensures ∙ c.if-not-is_accepted.false in
    λ m lent law laid head.
    let first = accepted_judged m c.args.words.now c.args.counts c.args.s.now c.args.queue.now c.args.text.now lent c.judge_search-first.result (e head) yes in
    search_are m c.args.text.now c.args.at head first _ (λ p q is. c.answer.ensures m c.args.cols.now.nexts c.args.cols.now.counters p q lent law laid.0 laid.1 is first)
