-- `DL`: what is heard of it. Assumes nothing.
use Rattle.std.specs.Prelude.{List, ℕ}
use Rattle.model.specs.Lines.{non_existent}
use Rattle.model.specs.declared.Mailbox.{Mailbox}
use Rattle.model.specs.declared.Session.{Session}
use Rattle.line_put.specs.Heard.{Heard}
use Rattle.event_mailbox.specs.Appearing.{both_heard}

-- who is told of a delete is told as of a create; y stands for the parent
abbrev pub delete_heard : List ℕ → Session → ℕ → Mailbox → Mailbox → ℕ → Heard
delete_heard q s at y x quiet = both_heard q s at y x quiet non_existent
