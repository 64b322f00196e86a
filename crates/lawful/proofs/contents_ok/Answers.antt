-- One test that says no is enough; where session, view and fields are in order, the tables decide.
use Rattle.std.proofs.Common.{◌≡◌, sym, ◌∙◌, true}
use Rattle.model.specs.Lists.{every}
use Rattle.model.specs.Lawful.{contents_ok}
use Rattle.table_messages.specs.Words.{messages}
use Rattle.lawful_quick.specs.Passing.{tables_ok}
use Rattle.lawful_session.specs.Tests.{no_at}
use Rattle.lawful.specs.Lent.{owners, called, tables_decide, view_by}
use Rattle.lawful.proofs.contents_ok.Goals as goal

pub returns-else-session_ok : goal.returns-else-session_ok
returns-else-session_ok c = λ l w. c.if-session_ok.false ∙ no_at (contents_ok l (messages c.args.words.now) c.args.s.now) 2 (sym c.session_ok.ensures ∙ c.if-session_ok.false)

pub returns-else-view_ok : goal.returns-else-view_ok
returns-else-view_ok c =
    λ l w.
    let no = sym (c.view_ok.ensures l w.0 (owners w.1)) ∙ c.if-view_ok.false in
    c.if-view_ok.false ∙ no_at (contents_ok l (messages c.args.words.now) c.args.s.now) 6 (rw (← c.from.ensures, ← c.from-2.ensures) no)

pub returns-else-rows_ok : goal.returns-else-rows_ok
returns-else-rows_ok c = λ l w. c.if-rows_ok.false ∙ no_at (contents_ok l (messages c.args.words.now) c.args.s.now) 0 (sym (c.rows_ok.ensures l w) ∙ c.if-rows_ok.false)

pub returns-then-rows_ok : goal.returns-then-rows_ok
returns-then-rows_ok c =
    λ l w.
    let ok = sym (c.rows_ok.ensures l w) ∙ c.if-rows_ok.true in
    let view : view_by l c.args.s.now.selected c.args.s.now.told ≡ true = rw (← c.from.ensures, ← c.from-2.ensures) (sym (c.view_ok.ensures l w.0 (owners w.1)) ∙ c.if-view_ok.true) in
    let tables : c.tables_ok.result ≡ every (tables_ok l (messages c.args.words.now) c.args.s.now.selected c.args.s.now.told) =
    rw (← c.from.ensures, ← c.from-2.ensures) (c.tables_ok.ensures l w.0 (owners w.1) w.1.counter (called w.1) ok) in
    tables ∙ tables_decide l (messages c.args.words.now) c.args.s.now ok (sym c.session_ok.ensures ∙ c.if-session_ok.true) view
