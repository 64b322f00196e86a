-- Who is told of a mailbox finds the last 64 octets of the queue free, kind by kind. Assumes nothing.
use Rattle.std.specs.Prelude.{◌≡◌, refl, Bool, true, false, not, ◌||◌, ℕ, ◌-◌, ◌≤◌, eqb}
use Rattle.model.specs.Laws.{and_r}
use Rattle.model.specs.Memory.{name_of, both_rights}
use Rattle.model.specs.Groups.{asked_of, asks_name, asks_subscription}
use Rattle.model.specs.Events.{with_subscribed}
use Rattle.laws.specs.Room.{Room, asked_free}
use Rattle.model.specs.declared.Mailbox.{Mailbox}
use Rattle.model.specs.declared.Session.{Session}
use Rattle.event_mailbox.specs.Appearing.{may_hear, own_told, upper_told, either_told}
use Rattle.event_mailbox.specs.Subscriptions.{differs, subscribe_told}
use Rattle.event_mailbox.specs.Renaming.{rename_told}

module _ (q f : ℕ) (s : Session) (room : Room q f s) where
  pub both_free : (y x : Mailbox) (quiet : ℕ) → either_told s y x quiet ≡ true → f ≤ q - 64
  both_free y x quiet h = go (own_told s x quiet) refl h
    where
      go : (a : Bool) → own_told s x quiet ≡ a → (a || upper_told s y x quiet) ≡ true → f ≤ q - 64
      go true e z = asked_free q f s room (name_of x) x.attributes asks_name (and_r (may_hear x quiet) _ e)
      go false e z = asked_free q f s room (name_of y) y.attributes asks_name (and_r (not (eqb y.namelen 0)) _ (and_r (may_hear x quiet) _ z))

  pub subscribe_free : (x : Mailbox) (b quiet : ℕ) → subscribe_told s x b quiet ≡ true → f ≤ q - 64
  subscribe_free x b quiet h =
      asked_free q f s room (name_of x) (with_subscribed x.attributes 1) asks_subscription
      (and_r (both_rights x) _ (and_r (differs x.attributes b) _ (and_r (eqb quiet 0) _ h)))

  pub rename_free : (x y : Mailbox) (quiet : ℕ) → rename_told s x y quiet ≡ true → f ≤ q - 64
  rename_free x y quiet h = go (asked_of s x asks_name) refl (and_r (both_rights x) _ (and_r (eqb quiet 0) _ h))
    where
      go : (a : Bool) → asked_of s x asks_name ≡ a → (a || asked_of s y asks_name) ≡ true → f ≤ q - 64
      go true e z = asked_free q f s room (name_of x) x.attributes asks_name e
      go false e z = asked_free q f s room (name_of y) y.attributes asks_name z
