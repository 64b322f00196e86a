-- `view_ok`: nothing selected, an unknown mailbox, or a view up to its UIDNEXT: the three cases. Assumes nothing.
use Rattle.std.proofs.Common.{refl, arith, sym, ◌∙◌, length}
use Rattle.model.specs.Memory.{place}
use Rattle.table_mailboxes.specs.Rows.{place_some, place_none}
use Rattle.lawful.specs.Lent.{view_none, view_unknown, view_known}
use Rattle.lawful.proofs.view_ok.Goals as goal

pub returns-then-view-eq0 : goal.returns-then-view-eq0
returns-then-view-eq0 c =
    λ l h w. view_none l c.args.view.selected c.args.view.told.0 (place c.args.view.selected l) 0 refl c.if-view-eq0.true

pub returns-in-Some : goal.returns-in-Some
returns-in-Some c = λ l h w. (let p = place_some _ l _ (sym c.in-Some.is ∙ c.find.ensures.column l h w.id) in view_known l c.args.view.selected c.args.view.told.0 c.in-Some.k _ p.0 c.if-view-eq0.false p.1 (w.next c.in-Some.k p.1))

pub returns-in-None : goal.returns-in-None
returns-in-None c = λ l h w. (let p = place_none _ l (sym c.in-None.is ∙ c.find.ensures.column l h w.id) in view_unknown l c.args.view.selected c.args.view.told.0 (length l) 0 (sym p.0) c.if-view-eq0.false (omega arith))
