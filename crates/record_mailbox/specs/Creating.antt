-- `MB`: what the code leaves is what the rules say of it. Assumes nothing.
use Rattle.std.specs.Prelude.{◌≡◌, refl, true, false, List, ℕ, ◌+◌, ◌<◌, ◌≤◌, leb, length, Option, Some, None, is_some, Ok, Err}
use Rattle.std.proofs.Common.{ap, ◌∙◌, arith, le-leb}
use Rattle.std.proofs.lemmas.Bool.{lt-leb}
use Rattle.model.specs.Names.{Name, valid, fold, argument}
use Rattle.model.specs.Memory.{Memory, boxes, known, name_of}
use Rattle.model.specs.Events.{new_box}
use Rattle.model.specs.Refusals.{held_by_another}
use Rattle.model.specs.Records.{create}
use Rattle.model.specs.Rules.{accepted}
use Rattle.model.specs.declared.Mailbox.{Mailbox}
use Rattle.model.specs.declared.Counts.{Counts}
use Rattle.model.specs.declared.Session.{Session}
use Rattle.model.specs.declared.Refusal.TheVariants.{WrongId, NameHeld, TableFull}
use Rattle.model.specs.declared.Answer.TheVariants.{Done}
use Rattle.demands.specs.Lasting.Law.{Law}
use Rattle.match_parent.specs.Upper.{StandsFor}
use Rattle.line_put.specs.Heard.{Leaves}
use Rattle.event_mailbox.specs.Creating.{create_after}
use Rattle.event_mailbox.specs.Accepted.{create-accepted}
use Rattle.record_outcome.specs.Coming.{Lends, Found, Comes, Came, putting, ladder}
use Rattle.record_outcome.specs.Laws.{comes-refused, not-known}
use Rattle.record_outcome.specs.declared.Outcome.{Outcome as Left}
use Rattle.record_outcome.specs.declared.Place.{Place}
use Rattle.record_mailbox.specs.Putting.{counted, stands, comes_put}

none_of : (o : Option Place) → is_some o ≡ false → o ≡ None
none_of None e = refl
none_of (Some p) e = absurd (let z : ⊥ = cc in z)

some_of : (m : Memory) (i : ℕ) (o : Option Place) → Found m i o → is_some o ≡ true → known i (boxes m) ≡ true
some_of m i (Some p) w e = w.0
some_of m i None w e = absurd (let z : ⊥ = cc in z)

-- row x is put behind the last, and what is heard of it; y stands for its parent
pub record Added (q : List ℕ) (k : Counts) (s : Session) (y x : Mailbox) (g : ℕ) (q' : List ℕ) (r : Left) : Type 0 where
  pub row : Mailbox
  pub leaves : Leaves (create_after q s k.filled y x g) row q' r.session r.counts.filled
  pub is : r ≡ putting k.mailboxes row (record { mailboxes = k.mailboxes + 1; messages = k.messages; filled = r.counts.filled }) r.session

pub added : (q : List ℕ) (k : Counts) (s : Session) (y x : Mailbox) (g : ℕ) {q' : List ℕ} {row : Mailbox} {s' : Session} {f : ℕ} (r : Left)
    → Leaves (create_after q s k.filled y x g) row q' s' f
    → r ≡ putting k.mailboxes row (record { mailboxes = k.mailboxes + 1; messages = k.messages; filled = f }) s' → Added q k s y x g q' r
added q k s y x g {row = row} r w e = rw e (record { row = row; leaves = w; is = refl })

answered : (m : Memory) (i a g v c : ℕ) (n : Name) → (accepted m (create i a g v c n)).answer ≡ Done
unfolding accepted
answered m i a g v c n = refl

module _ (m : Memory) (ws : List ℕ) (k : Counts) (s : Session) (q : List ℕ) (lent : Lends m ws k s q) (law : Law m) (i a g v c : ℕ) (n : Name) (r : Came) where
  abbrev comes : List ℕ → Type 0
  comes q' = Comes m (ladder m (create i a g v c (fold n))) r ws ws q'

  module _ (o : Option Place) (w' : Found m i o) where
    pub create-known : is_some o ≡ true → r ≡ Err WrongId → comes q
    create-known h e = comes-refused m ws k s q lent WrongId (ladder m (create i a g v c (fold n))) r (rw (some_of m i o w' h)) e

    pub create_held : is_some o ≡ false → held_by_another m i (fold n) ≡ true → r ≡ Err NameHeld → comes q
    create_held h d e = comes-refused m ws k s q lent NameHeld (ladder m (create i a g v c (fold n))) r (rw (not-known m i w' (none_of o h), d)) e

    module _ (rows : ℕ) (l : length m.rows ≡ rows) where
      pub create-full : is_some o ≡ false → held_by_another m i (fold n) ≡ false → rows ≤ k.mailboxes → r ≡ Err TableFull → comes q
      create-full h d y e =
          let u = counted m ws k s q lent law in
          comes-refused m ws k s q lent TableFull (ladder m (create i a g v c (fold n))) r
          (rw (not-known m i w' (none_of o h), d, le-leb (length m.rows) (length (boxes m)) (omega arith))) e

      pub create_comes : {q' : List ℕ} (z y : Mailbox) (out : Left) → z ≡ new_box i a v c (argument n) → StandsFor s (boxes m) (name_of z) y
          → is_some o ≡ false → held_by_another m i (fold n) ≡ false → k.mailboxes < rows → valid n ≡ true → Added q k s y z g q' out → r ≡ Ok out → comes q'
      create_comes z y out e st h d b ok w t =
          let u = counted m ws k s q lent law in
          let f : leb (length m.rows) (length (boxes m)) ≡ false = lt-leb (length m.rows) (length (boxes m)) (omega arith) in
          let many : m.counts.mailboxes ≡ k.mailboxes = ap (λ (j : Counts). j.mailboxes) lent.counts in
          comes_put m ws k s q lent (accepted m (create i a g v c (fold n))) (ladder m (create i a g v c (fold n))) k.mailboxes (k.mailboxes + 1)
          (λ (p : List ℕ) (t : Session) (f : ℕ). create_after p t f y z g) r
          (rw (not-known m i w' (none_of o h), d, f)) (answered m i a g v c (fold n))
          (rw (← many) (rw e (create-accepted m law i a g v c n y ok f (stands m ws k s q lent y (name_of (new_box i a v c (argument n))) (rw e at st))))) w.leaves (t ∙ ap (λ (j : Left). Ok j) w.is)
