-- `serve`: a record of a stream, the step alone. Assumes nothing.
use borrow.Author.Rules.{rules}
use mathlib.Core.Path.{◌≡◌, refl}
use lib.ListN.{length}
use Rattle.table_mailboxes.specs.Walks.{mapped-length}
use Rattle.step_stream.specs.Printing.{serves}
use Rattle.step_stream.proofs.serve.Goals as goal

pub returns-in-Ok : goal.returns-in-Ok
returns-in-Ok c =
    let w : length c.args.table.now ≡ 64 = search (rules, mapped-length) in
    serves c.args.table.now w c.args.words.now c.args.counts c.args.session.now c.args.queue.now c.args.octets.now c.step-came.result _ _ c.step-came.ensures c.applied-table.ensures c.answer_of-answer.ensures (rw c.in-Ok.is) (rw c.in-Ok.is)

pub returns-in-Err : goal.returns-in-Err
returns-in-Err c =
    let w : length c.args.table.now ≡ 64 = search (rules, mapped-length) in
    serves c.args.table.now w c.args.words.now c.args.counts c.args.session.now c.args.queue.now c.args.octets.now c.step-came.result _ _ c.step-came.ensures c.applied-table.ensures c.answer_of-answer.ensures (rw c.in-Err.is) (rw c.in-Err.is)
