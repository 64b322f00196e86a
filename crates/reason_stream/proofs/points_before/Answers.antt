-- `points_before`: what a record asks of the rules, if it is one. Assumes nothing.
use borrow.Author.Rules.{rules}
use mathlib.Core.Path.{◌≡◌, sym, ◌∙◌, ap}
use mathlib.Core.List.{List}
use Prim.Native.Nat.{ℕ}
use native.Mathlib.Omega.{arith}
use lib.ListN.{length, take}
use lib.Seq.{take_all}
use Rattle.model.specs.Laws.{tf}
use Rattle.model.specs.Records.{Record, record_by}
use Rattle.model.specs.Reasons.{points}
use Rattle.model.specs.declared.Mailbox.{Mailbox}
use Rattle.table_mailboxes.specs.Walks.{mapped-length}
use Rattle.record_read.specs.Kinds.{kind_for}
use Rattle.reason_points.specs.Showing.{shown}
use Rattle.reason_stream.specs.Judging.{rest}
use Rattle.reason_stream.proofs.points_before.Goals as goal

pub returns-in-None : goal.returns-in-None
returns-in-None c = λ m e f i. tf _ i c.in-None.ensures

pub points_of-requires : goal.points_of-requires
points_of-requires c =
    (c.in-Some.ensures.says.bounds, rw (rest c.args.octets.now c.in-Some.r.tail) c.in-Some.ensures.says.following)

pub returns-in-Some : goal.returns-in-Some
returns-in-Some c =
    let long : length c.args.table.now ≡ 64 = search (rules, mapped-length) in
    λ m e f i. c.points_of.ensures m e (f ∙ (ap (λ (l : List Mailbox). take c.args.used l) (sym (take_all 64 c.args.table.now (omega arith))) ∙ sym c.in_use-rows.ensures.rows))
    ∙ (ap (λ (t : List ℕ). shown c.args.s.now (points m (record_by (kind_for c.in-Some.r.kind) c.in-Some.r.values t))) (rest c.args.octets.now c.in-Some.r.tail)
    ∙ ap (λ (x : Record). shown c.args.s.now (points m x)) (sym c.in-Some.ensures.says.says))
