-- `rows_ok`: the loop keeps that all rows are in order exactly if those from k on are. Assumes nothing.
use Rattle.std.proofs.Common.{refl, sym, ◌∙◌, arith}
use Rattle.model.specs.Memory.{no_mailbox}
use Rattle.model.specs.Lawful.{mailbox_ok}
use Rattle.table_mailboxes.specs.Walks.{all_broken, all_on, all_over}
use Rattle.lawful_mailboxes.specs.Fields.{row_in_lem}
use Rattle.lawful_mailboxes.proofs.rows_ok.Goals as goal

pub loop-k-init : goal.loop-k-init
loop-k-init c = λ l w. refl

pub returns-then-not-row_ok : goal.returns-then-not-row_ok
returns-then-not-row_ok c =
    λ l w. sym (c.loop-k.invariant l w ∙ all_broken mailbox_ok l c.loop-k.k no_mailbox (omega arith) (sym (c.row_ok.ensures ∙ row_in_lem c.args.cols.now c.loop-k.k l w (omega arith)) ∙ c.if-not-row_ok.true))

pub loop-k-preserved : goal.loop-k-preserved
loop-k-preserved c =
    λ l w. c.loop-k.invariant l w ∙ all_on mailbox_ok l c.loop-k.k no_mailbox (omega arith) (sym (c.row_ok.ensures ∙ row_in_lem c.args.cols.now c.loop-k.k l w (omega arith)) ∙ c.if-not-row_ok.false)

pub returns : goal.returns
returns c = λ l w. sym (c.loop-k.invariant l w ∙ all_over mailbox_ok l c.loop-k.k (omega arith))
