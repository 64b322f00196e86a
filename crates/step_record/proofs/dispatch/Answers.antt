-- `dispatch`: a subject stands for one kind, so what serves it says what the rules make of the record; a record of no kind is none. Assumes nothing.
use Rattle.record_read.specs.declared.Kind.TheVariants.{Command}
use Rattle.record_read.specs.Laws.{command_bounds}
use Rattle.record_kind.specs.declared.Subject.TheVariants as S
use Rattle.step_record.specs.Kinds.{rest, by_subject, says_of, in_range_lem, follows, served, placed_by, answered, nothing}
use Rattle.step_record.proofs.dispatch.Goals as goal

pub serve-requires : goal.serve-requires
serve-requires c =
    let says = says_of _ (by_subject _ c.subject_of.ensures c.in-Mailbox.is) c.requires.2.says in
    (c.requires.0, in_range_lem says, follows (rest c.args.octets.now c.args.r.now.tail) says)

pub serve-requires-in-Message : goal.serve-requires-in-Message
serve-requires-in-Message c =
    (c.requires.0, c.requires.1, in_range_lem (says_of _ (by_subject _ c.subject_of.ensures c.in-Message.is) c.requires.2.says))

pub serve-requires-in-Session : goal.serve-requires-in-Session
serve-requires-in-Session c =
    (c.requires.0, in_range_lem (says_of _ (by_subject _ c.subject_of.ensures c.in-Session.is) c.requires.2.says))

pub answer-requires : goal.answer-requires
answer-requires c =
    (c.requires.0, rw (rest c.args.octets.now c.args.r.now.tail) (command_bounds (says_of Command (by_subject S.Command c.subject_of.ensures c.in-Command.is) c.requires.2.says)))

pub returns-in-Mailbox : goal.returns-in-Mailbox
returns-in-Mailbox c =
    placed_by c.args.found c.args.cols.now c.requires.2 (rest c.args.octets.now c.args.r.now.tail) (by_subject _ c.subject_of.ensures c.in-Mailbox.is) c.serve.ensures

pub returns-in-Message : goal.returns-in-Message
returns-in-Message c =
    served c.args.found c.args.cols.now c.requires.2 (by_subject _ c.subject_of.ensures c.in-Message.is) c.serve-in-Message.ensures

pub returns-in-Session : goal.returns-in-Session
returns-in-Session c =
    served c.args.found c.args.cols.now c.requires.2 (by_subject _ c.subject_of.ensures c.in-Session.is) c.serve-in-Session.ensures

pub returns-in-Command : goal.returns-in-Command
returns-in-Command c =
    answered c.args.found c.args.cols.now c.requires.2 (rest c.args.octets.now c.args.r.now.tail) (by_subject S.Command c.subject_of.ensures c.in-Command.is) c.row_of-x.ensures c.answer.ensures

pub returns-in-Nothing : goal.returns-in-Nothing
returns-in-Nothing c =
    nothing c.args.found c.args.cols.now c.requires.2 (by_subject S.Nothing c.subject_of.ensures c.in-Nothing.is)
