-- An entry's owner, by the place of its mailbox. Assumes nothing.
use Rattle.std.specs.Prelude.{◌≡◌, false, List, ℕ, ◌<◌, ◌≤◌, leb, length, get_or}
use Rattle.std.proofs.Common.{lt-ltb, le-ltb}
use Rattle.model.specs.Memory.{place, uid_of, no_mailbox, counter_of}
use Rattle.model.specs.Lawful.{owned}
use Rattle.model.specs.declared.Mailbox.{Mailbox}
use Rattle.model.specs.declared.Message.{Message}
use Rattle.table_mailboxes.specs.Walks.{unknown_whole, known_whole}

module _ (l : List Mailbox) (d : Message) (k next : ℕ) (e : k ≡ place d.mailbox l) where
  pub owner_unknown : length l ≤ k → false ≡ owned l d
  owner_unknown g = rw (unknown_whole d.mailbox l k e g)

  pub owner_passed : k < length l → next ≡ (get_or l k no_mailbox).uidnext → next ≤ uid_of d → false ≡ owned l d
  owner_passed g q h = rw (known_whole d.mailbox l k e g, ← e, ← q, le-ltb (uid_of d) next h)

  pub owner-known : (highest : ℕ) → k < length l → next ≡ (get_or l k no_mailbox).uidnext → uid_of d < next → highest ≡ counter_of (get_or l k no_mailbox) → leb d.counter highest ≡ owned l d
  owner-known highest g q h r = rw (known_whole d.mailbox l k e g, ← e, ← q, lt-ltb (uid_of d) next h, r)
