-- A row that stands for the parent: of the parent's name, with the attributes of the row that may be listed under that name; none, where no group stands.
-- Assumes nothing.
use Rattle.std.specs.Prelude.{◌≡◌, refl, List, [], ◌∷◌, Bool, true, false, cond, ◌&&◌, ℕ, length, take, get_or}
use Rattle.std.proofs.Common.{ap, sym, ◌∙◌}
use Rattle.model.specs.Lists.{keep, filterb, same, when}
use Rattle.model.specs.Laws.{and_r}
use Rattle.model.specs.Names.{Name, parent_of, has_parent}
use Rattle.model.specs.Text.{bit}
use Rattle.model.specs.Memory.{name_of, may_list, both_rights, stored}
use Rattle.model.specs.Groups.{asked, asks_name}
use Rattle.model.specs.Lines.{Line, list, plain, noselect, non_existent}
use Rattle.model.specs.Events.{stand_in, is_listed, listed_row}
use Rattle.model.specs.declared.Mailbox.{Mailbox}
use Rattle.model.specs.declared.Session.{Session}
use Rattle.demands.specs.Lasting.NameLaws.{same_true, name-stored}
use Rattle.match_parent.specs.Upper.{StandsFor, upper_lines}

-- a row that has a name and attributes, and nothing else
abbrev pub row_of : (len : ℕ) (octets : List ℕ) (a : ℕ) → Mailbox
row_of len octets a = record { id = 0; attributes = a; namelen = len; uidvalidity = 0; uidnext = 0; counterlow = 0; counterhigh = 0; name = octets }

-- the row that was looked for has the name
pub listed_name : (p : Name) (l : List Mailbox) → name_of (listed_row p l) ≡ p
listed_name p [] = name-stored p
listed_name p (x ∷ l) = go (is_listed p x) refl (listed_name p l)
  where
    go : (b : Bool) → is_listed p x ≡ b → name_of (listed_row p l) ≡ p → name_of (get_or (keep b x (filterb (is_listed p) l)) 0 (stand_in p)) ≡ p
    go true e rest = same_true (name_of x) p (and_r (may_list x) (same (name_of x) p) e)
    go false e rest = rest

-- the row of a name that is kept
pub named_row : (p : Name) (l : List Mailbox) → row_of (length p) (stored p) (listed_row (take (length p) (stored p)) l).attributes ≡ row_of (length p) (stored p) (listed_row p l).attributes
named_row p l = ap (λ (q : Name). row_of (length p) (stored p) (listed_row q l).attributes) (name-stored p)

-- what is told of a parent, by its name and attributes alone
abbrev line_of : Session → (rights there : Bool) → Name → ℕ → List Line
line_of s b e n a = when (b && (e && asked s n a asks_name)) (list (cond (bit 4 a) (cond (bit 0 a) plain noselect) non_existent) n)

module _ (s : Session) (l : List Mailbox) (n : Name) where
  pub stands-found : (y : Mailbox) → y ≡ row_of (length (parent_of n)) (stored (parent_of n)) (listed_row (parent_of n) l).attributes → StandsFor s l n y
  stands-found y e x h =
      ap (λ (z : Mailbox). upper_lines s z x) e
      ∙ (ap (λ (p : Name). line_of s (both_rights x) (has_parent n) p (listed_row (parent_of n) l).attributes) (name-stored (parent_of n) ∙ sym (listed_name (parent_of n) l))
      ∙ ap (λ (k : Name). line_of s (both_rights x) (has_parent k) (name_of (listed_row (parent_of k) l)) (listed_row (parent_of k) l).attributes) (sym h))
