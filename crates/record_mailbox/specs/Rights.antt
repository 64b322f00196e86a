-- `RT`: what the code leaves is what the rules say of it. Assumes nothing.
use Rattle.std.specs.Prelude.{◌≡◌, refl, not, List, ℕ, Option, Some, None, Ok, Err}
use Rattle.std.proofs.Common.{ap}
use Rattle.model.specs.Memory.{Memory, boxes, name_of}
use Rattle.model.specs.Records.{grant}
use Rattle.model.specs.Rules.{accepted}
use Rattle.model.specs.declared.Mailbox.{Mailbox}
use Rattle.model.specs.declared.Counts.{Counts}
use Rattle.model.specs.declared.Session.{Session}
use Rattle.model.specs.declared.Refusal.TheVariants.{WrongId}
use Rattle.model.specs.declared.Answer.TheVariants.{Done}
use Rattle.demands.specs.Lasting.Law.{Law}
use Rattle.match_parent.specs.Upper.{StandsFor}
use Rattle.line_put.specs.Heard.{Leaves}
use Rattle.event_mailbox.specs.Rights.{grant_after}
use Rattle.event_mailbox.specs.Accepted.{grant-accepted}
use Rattle.record_outcome.specs.Coming.{Lends, Found, Comes, Came, putting, ladder}
use Rattle.record_outcome.specs.Laws.{comes-refused, not-known, is_known, is_placed, is_row}
use Rattle.record_outcome.specs.declared.Place.{Place}
use Rattle.record_mailbox.specs.Putting.{stands, comes_put}

answered : (m : Memory) (i g : ℕ) → (accepted m (grant i g)).answer ≡ Done
unfolding accepted
answered m i g = refl

module _ (m : Memory) (ws : List ℕ) (k : Counts) (s : Session) (q : List ℕ) (lent : Lends m ws k s q) (law : Law m) (i : ℕ) {o : Option Place} (w : Found m i o) (g : ℕ) (r : Came) where
  pub grant_unknown : o ≡ None → r ≡ Err WrongId → Comes m (ladder m (grant i g)) r ws ws q
  grant_unknown h e = comes-refused m ws k s q lent WrongId (ladder m (grant i g)) r (rw (not-known m i w h)) e

  pub grant_comes : (p : Place) {row : Mailbox} {q' : List ℕ} {s' : Session} {f : ℕ} (y : Mailbox) → StandsFor s (boxes m) (name_of p.row) y → o ≡ Some p → Leaves (grant_after q s k.filled y p.row g) row q' s' f
      → r ≡ Ok (putting p.at row (record { mailboxes = k.mailboxes; messages = k.messages; filled = f }) s') → Comes m (ladder m (grant i g)) r ws ws q'
  grant_comes p y st h z e =
      let b = is_known m i w h in
      let n : m.counts.mailboxes ≡ k.mailboxes = ap (λ (c : Counts). c.mailboxes) lent.counts in
      comes_put m ws k s q lent (accepted m (grant i g)) (ladder m (grant i g)) p.at k.mailboxes (λ (l : List ℕ) (t : Session) (f : ℕ). grant_after l t f y p.row g) r
      (rw b) (answered m i g) (rw (← n) (grant-accepted m law i p.at p.row (is_placed m i w h).at (is_row m i w h law) (ap not b) g y (stands m ws k s q lent y (name_of p.row) st))) z e
