-- `serve`: the function of each kind says what the rules make of a record of that kind; at `CE` the mailbox that was sought is the selected one. Assumes nothing.
use mathlib.Core.Path.{ap, ◌∙◌}
use Rattle.laws.specs.Room.{sizes}
use Rattle.record_read.specs.declared.Kind.TheVariants.{Select, Ended, Drained}
use Rattle.record_kind.specs.Subjects.{session_kind}
use Rattle.record_kind.specs.Serving.{range_of, serves_of, is-selected}
use Rattle.step_session.proofs.serve.Goals as goal

pub select-requires : goal.select-requires
select-requires c =
    let told = ap session_kind c.in-Select.is in
    let r = range_of Select told c.args.v c.requires.1 in
    (c.requires.0.words, r.0)

pub drain-requires : goal.drain-requires
drain-requires c = (sizes _ _ _ c.requires.0.room).filled

pub returns-in-Select : goal.returns-in-Select
returns-in-Select c =
    let told = ap session_kind c.in-Select.is in
    λ m t. serves_of Select told c.args.v t c.args.found (c.select.ensures m c.args.queue.now)

pub returns-in-Ended : goal.returns-in-Ended
returns-in-Ended c =
    let told = ap session_kind c.in-Ended.is in
    λ m t. serves_of Ended told c.args.v t c.args.found (λ lends law w. c.end_command.ensures m lends law (c.row_of-x.ensures ∙ is-selected m c.args.found lends w))

pub returns-in-Drained : goal.returns-in-Drained
returns-in-Drained c =
    let told = ap session_kind c.in-Drained.is in
    λ m t. serves_of Drained told c.args.v t c.args.found (λ lends law w. c.drain.ensures m c.args.words.now lends)
