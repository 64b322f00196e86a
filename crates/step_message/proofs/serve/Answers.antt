-- `serve`: the function of each kind says what the rules make of a record of that kind, from the numbers at its fields' places. Assumes nothing.
use mathlib.Core.Path.{ap}
use Rattle.record_read.specs.declared.Kind.TheVariants.{Arrive, Expunge, Reflag}
use Rattle.record_kind.specs.Subjects.{message_kind}
use Rattle.record_kind.specs.Serving.{range_of, serves_of}
use Rattle.step_message.proofs.serve.Goals as goal

pub arrive-requires : goal.arrive-requires
arrive-requires c =
    let told = ap message_kind c.in-Arrive.is in
    let r = range_of Arrive told c.args.v c.requires.2 in
    (c.requires.0, c.requires.1, r.1.0.1)

pub returns-in-Arrive : goal.returns-in-Arrive
returns-in-Arrive c =
    let told = ap message_kind c.in-Arrive.is in
    λ m t. serves_of Arrive told c.args.v t c.args.found (c.arrive.ensures m)

pub returns-in-Expunge : goal.returns-in-Expunge
returns-in-Expunge c =
    let told = ap message_kind c.in-Expunge.is in
    λ m t. serves_of Expunge told c.args.v t c.args.found (c.expunge.ensures m)

pub returns-in-Reflag : goal.returns-in-Reflag
returns-in-Reflag c =
    let told = ap message_kind c.in-Reflag.is in
    λ m t. serves_of Reflag told c.args.v t c.args.found (c.flag.ensures m)
