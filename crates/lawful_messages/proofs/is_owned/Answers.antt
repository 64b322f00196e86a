-- `is_owned`: the mailbox is found by its id; UIDNEXT and counter are those of its columns. Assumes nothing.
use Rattle.std.proofs.Common.{arith, sym, ◌∙◌, length}
use Rattle.table_mailboxes.specs.Rows.{place_some, place_none}
use Rattle.lawful_messages.specs.Owning.{owner_unknown, owner_passed, owner-known}
use Rattle.lawful_messages.proofs.is_owned.Goals as goal

pub returns-in_default : goal.returns-in_default
returns-in_default c = λ l h w v. (let p = place_none _ l (sym c.in_default.is ∙ c.find.ensures.column l h w.id) in owner_unknown l c.args.e.now (length l) 0 (sym p.0) (omega arith))

pub returns-then-cols-k : goal.returns-then-cols-k
returns-then-cols-k c = λ l h w v. (let p = place_some _ l _ (sym c.in-Some.is ∙ c.find.ensures.column l h w.id) in owner_passed l c.args.e.now c.in-Some.k _ p.0 p.1 (w.next c.in-Some.k p.1) c.if-cols-k.true)

pub returns : goal.returns
returns c = λ l h w v. (let p = place_some _ l _ (sym c.in-Some.is ∙ c.find.ensures.column l h w.id) in owner-known l c.args.e.now c.in-Some.k _ p.0 _ p.1 (w.next c.in-Some.k p.1) c.if-cols-k.false (v c.in-Some.k p.1))
