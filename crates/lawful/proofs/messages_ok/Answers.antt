-- A yes of the quick test is right; else the exact tests decide.
use Rattle.std.proofs.Common.{◌≡◌, sym, ◌∙◌, true, false}
use Rattle.model.specs.Lists.{allb}
use Rattle.table_messages.specs.Words.{messages}
use Rattle.lawful_quick.specs.Passing.{entry_ok, good_decides}
use Rattle.lawful.proofs.messages_ok.Goals as goal

pub returns-then-all_fit : goal.returns-then-all_fit
returns-then-all_fit c =
    λ l h w v ok a. sym (good_decides l (messages c.args.words.now) c.args.view.selected c.args.view.told.0 (c.all_fit.ensures l h w v ok a c.if-all_fit.true))

pub returns-then-mail_ok : goal.returns-then-mail_ok
returns-then-mail_ok c =
    λ l h w v ok a.
    let yes : allb (entry_ok l c.args.view.selected c.args.view.told.0) (messages c.args.words.now) ≡ true = sym (c.mail_ok.ensures l h w v) ∙ c.if-mail_ok.true in rw yes c.mail_apart.ensures

pub returns-else-mail_ok : goal.returns-else-mail_ok
returns-else-mail_ok c =
    λ l h w v ok a.
    let no : allb (entry_ok l c.args.view.selected c.args.view.told.0) (messages c.args.words.now) ≡ false = sym (c.mail_ok.ensures l h w v) ∙ c.if-mail_ok.false in rw (no, c.if-mail_ok.false)
