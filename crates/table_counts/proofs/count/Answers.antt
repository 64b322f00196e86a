-- `count`: all counts 0, then one pass over the entries. Assumes nothing.
use Rattle.std.proofs.Common.{arith, ◌≡◌, ◌∙◌, sym, ap, ℕ, length, take, get_or}
use Rattle.model.specs.Memory.{existing}
use Rattle.table_messages.specs.Words.{messages, messages-length}
use Rattle.table_mailboxes.specs.Columns.{zero_at}
use Rattle.table_counts.specs.Tally.{Apart, apart-ids, counted_next, existing-count}
use Rattle.table_counts.proofs.count.Goals as goal

pub loop-i-init : goal.loop-i-init
loop-i-init c = (λ k. (let z = zero_at 64 k in omega arith), λ a k h. zero_at 64 k)

pub loop-i-preserved : goal.loop-i-preserved
loop-i-preserved c =
    (c.tally.ensures.below, λ a. (let z = messages-length c.args.used c.args.words.now c.requires.0 in counted_next c.args.cols.now.ids c.args.cols.now.n (messages c.args.words.now) c.loop-i.i c.loop-i.counts _ (omega arith) c.tally.ensures a (c.loop-i.invariant.1 a)))

pub returns : goal.returns
returns c =
    λ l h w a k g.
    let apart : Apart c.args.cols.now.ids c.args.cols.now.n = rw h at (apart-ids l c.args.cols.now.ids w a) in
    let e : c.loop-i.i ≡ c.args.used = omega arith in
    (rw e at (c.loop-i.invariant.1 apart k g))
    ∙ (sym (existing-count (get_or c.args.cols.now.ids k 0) (take c.args.used (messages c.args.words.now)))
    ∙ ap (λ (i : ℕ). length (existing i (take c.args.used (messages c.args.words.now)))) (w k (omega arith)))
