-- `answer`: the head of the line gives its verb and where the command goes on; a line without a verb is BAD by the rules. Assumes nothing.
use mathlib.Core.Path.{refl, ap}
use mathlib.Core.Bool.{not}
use native.Mathlib.Omega.{arith}
use lib.Dec.{eqb}
use Rattle.model.specs.Limits.{limits}
use Rattle.model.specs.declared.Reply.TheVariants.{Bad}
use Rattle.read_options.specs.declared.Verb.TheVariants.{Other}
use Rattle.laws.specs.Room.{sizes}
use Rattle.read_commands.specs.Judging.{answer_of, judged_of}
use Rattle.record_reply.specs.Judged.{verb_judged, reply_judged}
use Rattle.record_command.proofs.answer.Goals as goal

pub refuse-requires : goal.refuse-requires
refuse-requires c =
    let z = sizes _ _ c.args.s.now c.requires.0.room in (omega arith, omega arith)

pub returns-in-Some : goal.returns-in-Some
returns-in-Some c =
    λ m lent law laid sel. c.answer_by.ensures m lent law laid sel c.in-Some.ensures

pub returns-in-None : goal.returns-in-None
returns-in-None c =
    λ m lent law laid sel.
    let e = ap (judged_of limits (not (eqb c.args.s.now.selected 0))) c.in-None.ensures in
    c.refuse.ensures m c.args.words.now lent
    (verb_judged m c.args.words.now c.args.counts c.args.s.now c.args.queue.now c.args.text.now lent (answer_of Other Bad) e)
    (reply_judged m c.args.words.now c.args.counts c.args.s.now c.args.queue.now c.args.text.now lent (answer_of Other Bad) e refl) refl
