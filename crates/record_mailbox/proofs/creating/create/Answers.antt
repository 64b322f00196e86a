-- `create`: a mailbox is new, or its id or its name is in use, or no row is left. Assumes nothing.
use mathlib.Core.Path.{refl, sym, ◌∙◌}
use Rattle.model.specs.Memory.{boxes}
use Rattle.record_mailbox.specs.Creating.{create-known, create_held, create-full, create_comes}
use Rattle.record_mailbox.proofs.creating.create.Goals as goal

pub returns-then-is_some : goal.returns-then-is_some
returns-then-is_some c = λ m ws lent l law w n p at d e v. create-known m ws c.args.counts c.args.s.now c.args.queue.now lent law c.args.id c.args.a c.args.quiet c.args.validity c.args.counter c.args.name.now _ c.args.found w (sym c.is_some.ensures ∙ c.if-is_some.true) refl

pub returns-then-is_taken : goal.returns-then-is_taken
returns-then-is_taken c = λ m ws lent l law w n p at d e v. create_held m ws c.args.counts c.args.s.now c.args.queue.now lent law c.args.id c.args.a c.args.quiet c.args.validity c.args.counter c.args.name.now _ c.args.found w (sym c.is_some.ensures ∙ c.if-is_some.false)
    (sym (c.is_taken.ensures (boxes m) n p d e v) ∙ c.if-is_taken.true) refl

pub returns-then-lent-counts : goal.returns-then-lent-counts
returns-then-lent-counts c = λ m ws lent l law w n p at d e v. create-full m ws c.args.counts c.args.s.now c.args.queue.now lent law c.args.id c.args.a c.args.quiet c.args.validity c.args.counter c.args.name.now _ c.args.found w c.args.lent l (sym c.is_some.ensures ∙ c.if-is_some.false)
    (sym (c.is_taken.ensures (boxes m) n p d e v) ∙ c.if-is_taken.false) c.if-lent-counts.true refl

pub returns : goal.returns
returns c =
    λ m ws lent l law w n p at d e v.
    create_comes m ws c.args.counts c.args.s.now c.args.queue.now lent law c.args.id c.args.a c.args.quiet c.args.validity c.args.counter c.args.name.now _ c.args.found w c.args.lent l
    c.new_box-x.result c.parent-y.result c.add.result c.new_box-x.ensures (c.parent-y.ensures (boxes m) n at d e) (sym c.is_some.ensures ∙ c.if-is_some.false)
    (sym (c.is_taken.ensures (boxes m) n p d e v) ∙ c.if-is_taken.false) c.if-lent-counts.false v c.add.ensures refl
