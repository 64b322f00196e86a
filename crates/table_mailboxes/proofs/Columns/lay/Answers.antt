-- `lay`: a row more is laid out, and at last all of them. Assumes nothing.
use Rattle.std.proofs.Common.{rules, arith, ◌≡◌, sym, ◌∙◌, length, refl, length-take-le, get_or-take, replicate}
use Rattle.table_mailboxes.specs.Columns.{zero_at}
use Rattle.model.specs.Memory.{no_mailbox}
use Rattle.table_mailboxes.specs.Walks.{any_default, mapped-length, vacant}
use Rattle.table_mailboxes.specs.Whole.{filling_put}
use Rattle.table_mailboxes.specs.Filling.{filling_start, filling_end}
use Rattle.table_mailboxes.proofs.Columns.lay.Goals as goal

pub loop-k-init : goal.loop-k-init
loop-k-init c =
    let z : c.fill.new.self ≡ replicate (length c.args.self.now.nexts) 0 = search rules in
    (refl, filling_start c.args.rows.now _ _ _ _ _ _ _ (search rules) (search rules) (search rules) (search rules) (c.fill.ensures.len ∙ search rules) (search rules) (search rules) (λ k. rw z (zero_at (length c.args.self.now.nexts) k)))

pub loop-k-preserved : goal.loop-k-preserved
loop-k-preserved c =
    let long : length c.args.rows.now ≡ 64 = search (rules, mapped-length) in
    let d = get_or-take c.few-n.result c.args.rows.now c.loop-k.k _ (omega arith) ∙ any_default c.args.rows.now c.loop-k.k vacant no_mailbox (omega arith) in
    (c.put.ensures.n ∙ c.loop-k.invariant.0, filling_put c.args.rows.now c.loop-k.k _ _ _ (omega arith) d c.put.ensures c.loop-k.invariant.1)

pub returns : goal.returns
returns c =
    let long : length c.args.rows.now ≡ 64 = search (rules, mapped-length) in
    let w : c.loop-k.k ≡ c.few-n.result = omega arith in
    let e = c.few-n.ensures.1 c.args.rows.now long in
    rw (← e) (length-take-le c.few-n.result c.args.rows.now (omega arith) ∙ sym c.loop-k.invariant.0, filling_end c.args.rows.now _ _ _ _ _ _ _ c.loop-k.k c.loop-k.invariant.1 c.few-n.result w (omega arith))
