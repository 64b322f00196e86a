-- `MB`: what a new mailbox leaves. Assumes nothing.
use Rattle.std.specs.Prelude.{◌≡◌, refl, List, ℕ}
use Rattle.std.proofs.Common.{ap}
use Rattle.model.specs.Lines.{ListMark}
use Rattle.model.specs.Events.{list_mark}
use Rattle.model.specs.declared.Mailbox.{Mailbox}
use Rattle.model.specs.declared.Session.{Session}
use Rattle.line_put.specs.Heard.{After, Hears, Leaves, leaves}
use Rattle.event_mailbox.specs.Appearing.{both_heard}

-- what is left; y stands for the parent
abbrev pub create_after : List ℕ → Session → ℕ → Mailbox → Mailbox → ℕ → After
create_after q s at y x quiet = record { row = x; heard = both_heard q s at y x quiet (list_mark x) }

-- what the code leaves
pub create_leaves : (q : List ℕ) (s : Session) (at : ℕ) {q' : List ℕ} {s' : Session} {f : ℕ} (y x : Mailbox) (quiet : ℕ) {k : ListMark}
    → k ≡ list_mark x → Hears (both_heard q s at y x quiet k) q' s' f → Leaves (create_after q s at y x quiet) x q' s' f
create_leaves q s at y x quiet h w = leaves (create_after q s at y x quiet) refl (ap (both_heard q s at y x quiet) h) w
