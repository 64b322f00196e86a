-- `set_noted`: measuring leaves the queue and gives the length of the whole answer, by which the rules too choose between too large, refusal 8 and done. Assumes nothing.
use Rattle.std.proofs.Common.{ap, sym, refl, subst, ◌∙◌, List, ℕ, arith, length}
use Rattle.model.specs.Memory.{both_rights}
use Rattle.model.specs.Listing.{watching}
use Rattle.model.specs.declared.Counts.{Counts}
use Rattle.record_outcome.specs.Coming.{Lends}
use Rattle.record_reply.specs.Left.{comes-roomless}
use Rattle.record_set.specs.Setting.{set-verb, set_large, set-roomless, set-size}
use Rattle.record_set.proofs.set_noted.Goals as goal

pub returns-then-limit-a : goal.returns-then-limit-a
returns-then-limit-a c =
    λ m p wanted gs lent law sel is first asks noted.
    let w = c.put_work-b.ensures.0 m (watching m.session gs) wanted noted in
    let n = w.next in
    let same = w.kept (omega arith) ∙ c.owed_size-a.ensures.2 in
    let x = ap length lent.queue in
    let t = c.args.work.now.text.now in
    c.refuse.ensures m c.args.words.now (subst (λ (q : List ℕ). Lends m c.args.words.now c.args.counts c.args.s.now q) (sym same) lent)
    (set-verb m t p wanted gs is first)
    (set_large m t p wanted gs is first c.owed_size-a.result c.put_work-b.result (c.owed_size-a.ensures.0 m lent law (c.has_rights.ensures ∙ ap both_rights sel)) (omega arith) (omega arith)) refl

pub returns-then-limit-filled : goal.returns-then-limit-filled
returns-then-limit-filled c =
    λ m p wanted gs lent law sel is first asks noted.
    let w = c.put_work-b.ensures.0 m (watching m.session gs) wanted noted in
    let n = w.next in
    let same = w.kept (omega arith) ∙ c.owed_size-a.ensures.2 in
    let x = ap length lent.queue in
    let z = ap (λ (k : Counts). k.filled) lent.counts in
    let t = c.args.work.now.text.now in
    rw same (comes-roomless m c.args.words.now c.args.counts c.args.s.now c.args.queue.now t lent
    (set-roomless m t p wanted gs is first c.owed_size-a.result c.put_work-b.result (c.owed_size-a.ensures.0 m lent law (c.has_rights.ensures ∙ ap both_rights sel)) (omega arith) (omega arith) (omega arith))
    _ refl)

pub returns : goal.returns
returns c =
    λ m p wanted gs lent law sel is first asks noted.
    let w = c.put_work-b.ensures.0 m (watching m.session gs) wanted noted in
    let n = w.next in
    let same = w.kept (omega arith) ∙ c.owed_size-a.ensures.2 in
    let x = ap length same in
    let l = c.owed_size-a.ensures.0 m lent law (c.has_rights.ensures ∙ ap both_rights sel) in
    let z = set-size m c.args.work.now.text.now p wanted gs is first in
    c.write_set.ensures m p wanted gs (subst (λ (q : List ℕ). Lends m c.args.words.now c.args.counts c.args.s.now q) (sym same) lent)
    law sel is first asks noted (omega arith) (omega arith)
