-- `answer_by`: behind each verb stands the command that the rules read there; one of no verb that is served is BAD. Assumes nothing.
use mathlib.Core.Path.{refl, ap, sym, ◌∙◌}
use mathlib.Core.Bool.{not}
use native.Mathlib.Omega.{arith}
use lib.Dec.{eqb}
use Rattle.model.specs.Limits.{limits}
use Rattle.model.specs.declared.Reply.TheVariants.{Bad}
use Rattle.read_options.specs.declared.Verb.{Verb}
use Rattle.read_options.specs.declared.Verb.TheVariants.{Other}
use Rattle.laws.specs.Room.{sizes}
use Rattle.read_commands.specs.Judging.{answer_of, judged_of, judged_by}
use Rattle.record_reply.specs.Judged.{verb_judged, reply_judged}
use Rattle.record_command.proofs.answer_by.Goals as goal

pub refuse-requires : goal.refuse-requires
refuse-requires c =
    let z = sizes _ _ c.args.s.now c.requires.0.room in (omega arith, omega arith)

pub returns-in-Notify : goal.returns-in-Notify
returns-in-Notify c =
    λ m lent law laid sel head. c.notify.ensures m lent law laid sel (rw c.in-Notify.is at head)

pub returns-in-Esearch : goal.returns-in-Esearch
returns-in-Esearch c =
    λ m lent law laid sel head.
    c.search.ensures m lent law laid (rw c.in-Esearch.is at head)

pub returns-in-Other : goal.returns-in-Other
returns-in-Other c =
    λ m lent law laid sel head.
    let told = ap (λ (v : Verb). judged_by v c.args.text.now c.args.at) (sym c.in-Other.is) in
    let e = ap (judged_of limits (not (eqb c.args.s.now.selected 0))) (told ∙ head) in
    c.refuse.ensures m c.args.words.now lent
    (verb_judged m c.args.words.now c.args.counts c.args.s.now c.args.queue.now c.args.text.now lent (answer_of Other Bad) e)
    (reply_judged m c.args.words.now c.args.counts c.args.s.now c.args.queue.now c.args.text.now lent (answer_of Other Bad) e refl) refl
