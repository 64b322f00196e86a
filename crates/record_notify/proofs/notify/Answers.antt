-- `notify`: the reply that was judged is the rules', and what was read is the command, so NONE or SET stands in it; what was not read is never accepted. Assumes nothing.
use Rattle.std.proofs.Common.{◌≡◌, ap, sym, ◌∙◌, not, eqb, arith}
use Rattle.model.specs.Laws.{tf}
use Rattle.model.specs.Requests.{notify}
use Rattle.model.specs.Commands.{command_of}
use Rattle.model.specs.Limits.{limits}
use Rattle.model.specs.Answering.{is_accepted}
use Rattle.model.specs.declared.Limits.{Limits}
use Rattle.laws.specs.Room.{sizes}
use Rattle.read_notify.specs.Readings.{read_notify}
use Rattle.read_commands.specs.Judging.{judged_of, whole_by, notified, asks}
use Rattle.read_commands.specs.declared.Judged.{Judged}
use Rattle.read_commands.proofs.Wholes.{notify_is}
use Rattle.record_reply.specs.Judged.{verb_judged, reply_judged, accepted_judged}
use Rattle.record_notify.specs.Read.{nothing_is, groups_are, set_few}
use Rattle.record_notify.proofs.notify.Goals as goal

pub refuse-requires : goal.refuse-requires
refuse-requires c =
    let z = sizes _ _ c.args.s.now c.requires.room in (omega arith, omega arith)

pub returns-then-not-is_accepted : goal.returns-then-not-is_accepted
returns-then-not-is_accepted c =
    let e : whole_by notify c.args.text.now c.args.at ≡ command_of c.args.text.now → c.notify_reply-first.result ≡ judged_of limits (not (eqb c.args.s.now.selected 0)) (command_of c.args.text.now) = λ h.
    c.notify_reply-first.ensures ∙ (ap (λ (l : Limits). notified l (asks c.keep_notify-read.result)) c.limits.ensures
    ∙ (ap (notified limits) c.keep_notify-read.ensures.exact ∙ (notify_is limits (not (eqb c.args.s.now.selected 0)) c.args.text.now c.args.at ∙ ap (judged_of limits (not (eqb c.args.s.now.selected 0))) h))) in
    let no = sym c.is_accepted.ensures ∙ c.if-not-is_accepted.true in
    λ m lent law laid sel head.
    c.refuse.ensures m c.args.words.now lent
    (verb_judged m c.args.words.now c.args.counts c.args.s.now c.args.queue.now c.args.text.now lent c.notify_reply-first.result (e head))
    (reply_judged m c.args.words.now c.args.counts c.args.s.now c.args.queue.now c.args.text.now lent c.notify_reply-first.result (e head) no) no

pub returns-in-Nothing : goal.returns-in-Nothing
returns-in-Nothing c =
    λ m lent law laid sel head.
    c.none.ensures m c.args.words.now lent _
    (nothing_is (command_of c.args.text.now) ((rw (c.in-Some.is, c.in-Nothing.is) at c.keep_notify-read.ensures).exact ∙ ap read_notify head))

pub returns-in-Groups : goal.returns-in-Groups
returns-in-Groups c =
    let e : whole_by notify c.args.text.now c.args.at ≡ command_of c.args.text.now → c.notify_reply-first.result ≡ judged_of limits (not (eqb c.args.s.now.selected 0)) (command_of c.args.text.now) = λ h.
    c.notify_reply-first.ensures ∙ (ap (λ (l : Limits). notified l (asks c.keep_notify-read.result)) c.limits.ensures
    ∙ (ap (notified limits) c.keep_notify-read.ensures.exact ∙ (notify_is limits (not (eqb c.args.s.now.selected 0)) c.args.text.now c.args.at ∙ ap (judged_of limits (not (eqb c.args.s.now.selected 0))) h))) in
    let yes = sym c.is_accepted.ensures ∙ c.if-not-is_accepted.false in
    λ m lent law laid sel head.
    let first = accepted_judged m c.args.words.now c.args.counts c.args.s.now c.args.queue.now c.args.text.now lent c.notify_reply-first.result (e head) yes in
    groups_are (command_of c.args.text.now) ((rw (c.in-Some.is, c.in-Groups.is) at c.keep_notify-read.ensures).exact ∙ ap read_notify head) _
    (λ gs is. let few = set_few m c.args.text.now _ _ gs is first in
    c.set.ensures m _ gs lent law laid sel is first (c.settled-watching.ensures ∙ (rw (c.in-Some.is, c.in-Groups.is) at c.keep_notify-read.ensures).keeps _ _ gs (head ∙ is) few.0 few.1 c.args.s.now))

pub returns-in_default : goal.returns-in_default
returns-in_default c =
    let yes = sym c.is_accepted.ensures ∙ c.if-not-is_accepted.false in
    λ m lent law laid sel head. tf _ yes (ap (λ (j : Judged). is_accepted j.reply) c.notify_reply-first.ensures ∙ rw c.in_default.is)
