-- The direct parent of a mailbox as far as lines need it, by a row that stands for it (02, 2). Assumes nothing.
use Rattle.std.specs.Prelude.{◌≡◌, List, Bool, not, ◌&&◌, eqb}
use Rattle.model.specs.Lists.{when}
use Rattle.model.specs.Names.{Name}
use Rattle.model.specs.Memory.{name_of, both_rights}
use Rattle.model.specs.Groups.{asked_of, asks_name}
use Rattle.model.specs.Lines.{Line, list}
use Rattle.model.specs.Events.{parent_row, parent_mark, parent_lines}
use Rattle.model.specs.declared.Mailbox.{Mailbox}
use Rattle.model.specs.declared.Session.{Session}

-- a group asks for it; a row with the empty name stands for no parent
abbrev pub upper_asked : Session → Mailbox → Bool
upper_asked s y = not (eqb y.namelen 0) && asked_of s y asks_name

-- what is told of y where x appears or goes
abbrev pub upper_lines : Session → Mailbox → Mailbox → List Line
upper_lines s y x = when (both_rights x && upper_asked s y) (list (parent_mark y) (name_of y))

-- y stands for the parent of every mailbox with the name n, among the rows l
abbrev pub StandsFor : Session → List Mailbox → Name → Mailbox → Type 0
StandsFor s l n y = (x : Mailbox) → name_of x ≡ n → upper_lines s y x ≡ parent_lines s (parent_row l x) x
