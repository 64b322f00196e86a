-- What is owed of the parent when a mailbox appears or goes, in lawful memory (02, 2). Assumes nothing.
use Rattle.std.specs.Prelude.{◌≡◌, refl, [], Bool, true, false, cond, ◌&&◌, get_or}
use Rattle.std.proofs.Common.{◌∙◌, ap}
use Rattle.model.specs.Lists.{when}
use Rattle.model.specs.Laws.{and_false}
use Rattle.model.specs.Names.{Name, valid, has_parent}
use Rattle.model.specs.Memory.{Memory, boxes, name_of, both_rights, no_mailbox}
use Rattle.model.specs.Groups.{asked_of, asks_name}
use Rattle.model.specs.Lines.{ListMark, list, non_existent}
use Rattle.model.specs.Events.{list_mark, stand_in, listed_row, parent_row, parent_mark, parent_lines}
use Rattle.model.specs.Parents.{Above}
use Rattle.model.specs.declared.Mailbox.{Mailbox}
use Rattle.model.specs.declared.Session.{Session}
use Rattle.demands.specs.Lasting.NameLaws.{name-stored}
use Rattle.demands.specs.Lasting.Law.{Law}
use Rattle.demands.specs.Parents.Names.{parent_of_lem, has-parent, slash-parent}
use Rattle.demands.specs.Parents.Rows.{stand-asked, row_listed, row-unlisted}

-- ---- y stands for the parent of x
module _ (s : Session) (y x : Mailbox) where
  line_none : has_parent (name_of x) ≡ false → parent_lines s y x ≡ []
  line_none e = rw (e, and_false (both_rights x))

  line_of : (c : Bool) (k : ListMark) (p : Name) → has_parent (name_of x) ≡ true → asked_of s y asks_name ≡ c → parent_mark y ≡ k → name_of y ≡ p → parent_lines s y x ≡ when (both_rights x && c) (list k p)
  line_of c k p h a f n = λ j. when (both_rights x && (h j && a j)) (list (f j) (n j))

-- ---- its line
pub above-lines : (m : Memory) → Law m → (x : Mailbox) → valid (name_of x) ≡ true → Above m x (parent_lines m.session (parent_row (boxes m) x) x)
above-lines m l x v = record {
  none = λ e. line_none s (parent_row (boxes m) x) x (slash-parent (name_of x) v ∙ e);
  listed = λ p i k h e n.
      let y = get_or (boxes m) k no_mailbox in
      by_row (ap (λ (q : Name). listed_row q (boxes m)) (parent_of_lem p (name_of x) i v) ∙ row_listed p (boxes m) k l.apartness h e n)
      ∙ line_of s y x (asked_of s y asks_name) (list_mark y) p (has-parent p (name_of x) i v) refl (ap (λ (b : Bool). cond b (list_mark y) non_existent) e) n;
  unlisted = λ p i e.
      by_row (ap (λ (q : Name). listed_row q (boxes m)) (parent_of_lem p (name_of x) i v) ∙ row-unlisted p (boxes m) e)
      ∙ line_of s (stand_in p) x _ non_existent p (has-parent p (name_of x) i v) (stand-asked s p) refl (name-stored p);
}
  where
    s : Session
    s = m.session

    by_row : {y : Mailbox} → parent_row (boxes m) x ≡ y → parent_lines m.session (parent_row (boxes m) x) x ≡ parent_lines m.session y x
    by_row = ap (λ (z : Mailbox). parent_lines m.session z x)
