-- `RN`: what the code leaves is what the rules say of it. Assumes nothing.
use Rattle.std.specs.Prelude.{◌≡◌, refl, true, false, not, List, ℕ, Option, Some, None, Ok, Err}
use Rattle.std.proofs.Common.{ap}
use Rattle.model.specs.Names.{Name, valid, fold, argument}
use Rattle.model.specs.Memory.{Memory}
use Rattle.model.specs.Refusals.{held_by_another}
use Rattle.model.specs.Records.{rename}
use Rattle.model.specs.Rules.{accepted}
use Rattle.model.specs.declared.Mailbox.{Mailbox}
use Rattle.model.specs.declared.Counts.{Counts}
use Rattle.model.specs.declared.Session.{Session}
use Rattle.model.specs.declared.Refusal.TheVariants.{WrongId, NameHeld}
use Rattle.model.specs.declared.Answer.TheVariants.{Done}
use Rattle.demands.specs.Lasting.Law.{Law}
use Rattle.line_put.specs.Heard.{Leaves}
use Rattle.event_mailbox.specs.Renaming.{rename_after}
use Rattle.event_mailbox.specs.Accepted.{rename-accepted}
use Rattle.record_outcome.specs.Coming.{Lends, Found, Comes, Came, putting, ladder}
use Rattle.record_outcome.specs.Laws.{comes-refused, not-known, is_known, is_placed, is_row}
use Rattle.record_outcome.specs.declared.Place.{Place}
use Rattle.record_mailbox.specs.Putting.{comes_put}

answered : (m : Memory) (i g : ℕ) (n : Name) → (accepted m (rename i g n)).answer ≡ Done
unfolding accepted
answered m i g n = refl

module _ (m : Memory) (ws : List ℕ) (k : Counts) (s : Session) (q : List ℕ) (lent : Lends m ws k s q) (law : Law m) (i : ℕ) {o : Option Place} (w : Found m i o) (g : ℕ) (n : Name) (r : Came) where
  pub rename_unknown : o ≡ None → r ≡ Err WrongId → Comes m (ladder m (rename i g (fold n))) r ws ws q
  rename_unknown h e = comes-refused m ws k s q lent WrongId (ladder m (rename i g (fold n))) r (rw (not-known m i w h)) e

  pub rename_held : (p : Place) → o ≡ Some p → held_by_another m i (fold n) ≡ true → r ≡ Err NameHeld → Comes m (ladder m (rename i g (fold n))) r ws ws q
  rename_held p h d e = comes-refused m ws k s q lent NameHeld (ladder m (rename i g (fold n))) r (rw (is_known m i w h, d)) e

  pub rename_comes : (p : Place) {row : Mailbox} {q' : List ℕ} {s' : Session} {f : ℕ} → o ≡ Some p → held_by_another m i (fold n) ≡ false → valid n ≡ true
      → Leaves (rename_after q s k.filled p.row (argument n) g) row q' s' f
      → r ≡ Ok (putting p.at row (record { mailboxes = k.mailboxes; messages = k.messages; filled = f }) s') → Comes m (ladder m (rename i g (fold n))) r ws ws q'
  rename_comes p h d v y e =
      let b = is_known m i w h in
      let c : m.counts.mailboxes ≡ k.mailboxes = ap (λ (j : Counts). j.mailboxes) lent.counts in
      comes_put m ws k s q lent (accepted m (rename i g (fold n))) (ladder m (rename i g (fold n))) p.at k.mailboxes (λ (l : List ℕ) (t : Session) (f : ℕ). rename_after l t f p.row (argument n) g) r
      (rw (b, d)) (answered m i g (fold n)) (rw (← c) (rename-accepted m law i p.at p.row (is_placed m i w h).at (is_row m i w h law) (ap not b) g n v)) y e
