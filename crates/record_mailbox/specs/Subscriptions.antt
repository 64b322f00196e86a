-- `SB`: what the code leaves is what the rules say of it. Assumes nothing.
use Rattle.std.specs.Prelude.{◌≡◌, refl, not, List, ℕ, Option, Some, None, Ok, Err}
use Rattle.std.proofs.Common.{ap}
use Rattle.model.specs.Memory.{Memory}
use Rattle.model.specs.Records.{subscribe}
use Rattle.model.specs.Rules.{accepted}
use Rattle.model.specs.declared.Mailbox.{Mailbox}
use Rattle.model.specs.declared.Counts.{Counts}
use Rattle.model.specs.declared.Session.{Session}
use Rattle.model.specs.declared.Refusal.TheVariants.{WrongId}
use Rattle.model.specs.declared.Answer.TheVariants.{Done}
use Rattle.demands.specs.Lasting.Law.{Law}
use Rattle.line_put.specs.Heard.{Leaves}
use Rattle.event_mailbox.specs.Subscriptions.{subscribe_after}
use Rattle.event_mailbox.specs.Accepted.{subscribe-accepted}
use Rattle.record_outcome.specs.Coming.{Lends, Found, Comes, Came, putting, ladder}
use Rattle.record_outcome.specs.Laws.{comes-refused, not-known, is_known, is_placed, is_row}
use Rattle.record_outcome.specs.declared.Place.{Place}
use Rattle.record_mailbox.specs.Putting.{comes_put}

answered : (m : Memory) (i b g : ℕ) → (accepted m (subscribe i b g)).answer ≡ Done
unfolding accepted
answered m i b g = refl

module _ (m : Memory) (ws : List ℕ) (k : Counts) (s : Session) (q : List ℕ) (lent : Lends m ws k s q) (law : Law m) (i : ℕ) {o : Option Place} (w : Found m i o) (b g : ℕ) (r : Came) where
  pub subscribe_unknown : o ≡ None → r ≡ Err WrongId → Comes m (ladder m (subscribe i b g)) r ws ws q
  subscribe_unknown h e = comes-refused m ws k s q lent WrongId (ladder m (subscribe i b g)) r (rw (not-known m i w h)) e

  pub subscribe_comes : (p : Place) {row : Mailbox} {q' : List ℕ} {s' : Session} {f : ℕ} → o ≡ Some p → Leaves (subscribe_after q s k.filled p.row b g) row q' s' f
      → r ≡ Ok (putting p.at row (record { mailboxes = k.mailboxes; messages = k.messages; filled = f }) s') → Comes m (ladder m (subscribe i b g)) r ws ws q'
  subscribe_comes p h y e =
      let c = is_known m i w h in
      let n : m.counts.mailboxes ≡ k.mailboxes = ap (λ (j : Counts). j.mailboxes) lent.counts in
      comes_put m ws k s q lent (accepted m (subscribe i b g)) (ladder m (subscribe i b g)) p.at k.mailboxes (λ (l : List ℕ) (t : Session) (f : ℕ). subscribe_after l t f p.row b g) r
      (rw c) (answered m i b g) (rw (← n) (subscribe-accepted m law i p.at p.row (is_placed m i w h).at (is_row m i w h law) (ap not c) b g)) y e
