-- `lay`: a row more is laid out, and at last all of them. Assumes nothing.
use Rattle.std.proofs.Common.{rules, arith, ◌≡◌, sym, ◌∙◌, length, refl, ℕ, get_or, take_all, replicate}
use Rattle.table_mailboxes.specs.Columns.{zero_at, all_below}
use Rattle.model.specs.Memory.{no_mailbox}
use Rattle.table_mailboxes.specs.Walks.{any_default, vacant}
use Rattle.table_mailboxes.specs.Whole.{filling_put}
use Rattle.table_mailboxes.specs.Filling.{filling_start, filling_end}
use Rattle.lent_rows.specs.Standing.{Narrow}
use Rattle.lent_rows.proofs.lay.Goals as goal

pub loop-k-init : goal.loop-k-init
loop-k-init c =
    let z : c.fill.new.self ≡ replicate (length c.args.cols.now.nexts) 0 = search rules in (
      refl,
      filling_start c.in_use-taken.result.now _ _ _ _ _ _ _ (search rules) (search rules) (search rules) (search rules) (c.fill.ensures.len ∙ search rules)
          (search rules) (search rules) (λ k. rw z (zero_at (length c.args.cols.now.nexts) k)),
      λ k h. absurd (let z : ⊥ = omega arith in z),
    )

pub loop-k-preserved : goal.loop-k-preserved
loop-k-preserved c =
    let rows = c.in_use-taken.result.now in
    let i = c.loop-k.k in
    let d = any_default rows i vacant no_mailbox (omega arith) in (
      c.put_row.ensures.put.n ∙ c.loop-k.invariant.0,
      filling_put rows i _ _ _ (omega arith) d c.put_row.ensures.put c.loop-k.invariant.1,
      all_below (λ (k : ℕ). Narrow (get_or rows k no_mailbox)) i c.loop-k.invariant.2 (rw (← d) c.put_row.ensures.narrow),
    )

pub returns : goal.returns
returns c =
    let rows = c.in_use-taken.result.now in
    let n = length rows in
    let w : c.loop-k.k ≡ n = omega arith in
    rw (← c.in_use-taken.ensures.rows) (record {
      laid = (sym c.loop-k.invariant.0, rw (take_all n rows (omega arith)) at (filling_end rows _ _ _ _ _ _ _ c.loop-k.k c.loop-k.invariant.1 n w (omega arith)));
      narrow = λ k h. c.loop-k.invariant.2 k (omega arith);
    })
