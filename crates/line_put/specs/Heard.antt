-- Queue, session and F where a line is told, or none is. Assumes nothing.
use Rattle.std.specs.Prelude.{◌≡◌, Bool, true, false, List, ℕ, ◌+◌, length}
use Rattle.std.proofs.Math.Path.{refl, ap}
use Rattle.std.proofs.Common.{◌∙◌}
use Rattle.std.proofs.Math.Bool.{cond}
use Rattle.model.specs.Memory.{silenced}
use Rattle.model.specs.Queue.{written}
use Rattle.model.specs.declared.Mailbox.{Mailbox}
use Rattle.model.specs.declared.Session.{Session}
use Rattle.line_put.specs.Says.{has_room, spoken, Says}

-- queue, session and F after a record
pub record Heard : Type 0 where
  pub queue : List ℕ
  pub session : Session
  pub filled : ℕ

-- a text at the place `at`, if somebody is told: it is written, or the overflow line is and the groups are gone
unfoldable pub heard : List ℕ → Session → ℕ → Bool → List ℕ → Heard
heard q s at on t =
    cond on
    (record {
      queue = written q at (spoken q at t);
      session = cond (has_room q at t) s (silenced s);
      filled = at + length (spoken q at t);
    })
    (record { queue = q; session = s; filled = at })

-- what the code leaves is this
pub record Hears (h : Heard) (q : List ℕ) (s : Session) (f : ℕ) : Type 0 where
  pub queue : q ≡ h.queue
  pub session : s ≡ h.session
  pub filled : f ≡ h.filled

module _ (q : List ℕ) (s : Session) (at : ℕ) (on : Bool) (t : List ℕ) where
  pub hears_none : on ≡ false → Hears (heard q s at on t) q s at
  unfolding heard
  hears_none e = rw e (record { queue = refl; session = refl; filled = refl })

  pub hears-fits : (q' : List ℕ) (end : ℕ) → on ≡ true → Says q at t q' true end → Hears (heard q s at on t) q' s end
  unfolding heard
  hears-fits q' end e x = rw e (record { queue = x.is; session = ap (λ (b : Bool). cond b s (silenced s)) x.room; filled = x.ends })

  pub hears_over : (q' : List ℕ) (end : ℕ) → on ≡ true → Says q at t q' false end → Hears (heard q s at on t) q' (silenced s) end
  unfolding heard
  hears_over q' end e x = rw e (record { queue = x.is; session = ap (λ (b : Bool). cond b s (silenced s)) x.room; filled = x.ends })

-- a line and what it makes of the session
pub hears-said : (q : List ℕ) (s : Session) (at : ℕ) (t q' : List ℕ) (fits : Bool) (end f : ℕ) (s' : Session) → Says q at t q' fits end → s' ≡ cond fits s (silenced s) → f ≡ end → Hears (heard q s at true t) q' s' f
unfolding heard
hears-said q s at t q' fits end f s' x e g = record { queue = x.is; session = e ∙ ap (λ (b : Bool). cond b s (silenced s)) x.room; filled = g ∙ x.ends }

-- a row, and what was heard
pub record After : Type 0 where
  pub row : Mailbox
  pub heard : Heard

-- what the code leaves is this
pub record Leaves (x : After) (y : Mailbox) (q : List ℕ) (s : Session) (f : ℕ) : Type 0 where
  pub row : y ≡ x.row
  pub heard : Hears x.heard q s f

-- the row and what was heard, where the code has them by other words
pub leaves : (x : After) {row : Mailbox} {h : Heard} {q : List ℕ} {s : Session} {f : ℕ} → row ≡ x.row → h ≡ x.heard → Hears h q s f → Leaves x row q s f
leaves x e g w = record { row = e; heard = rw (← g) w }
