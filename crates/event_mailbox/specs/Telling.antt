-- A record that owes lines that end nothing: what it stores and what is heard of it. Assumes nothing.
use Rattle.std.specs.Prelude.{◌≡◌, Bool, ℕ, ◌+◌, ◌-◌, ◌≤◌, length}
use Rattle.std.proofs.Math.Path.{refl, ap}
use Rattle.std.proofs.Common.{◌∙◌}
use Rattle.std.proofs.Math.Bool.{true, false, cond}
use mathlib.Core.List.{List, [], ◌∷◌, append-nil}
use Rattle.std.proofs.Math.Dec.{leb}
use Rattle.model.specs.Lists.{when}
use Rattle.model.specs.Memory.{Memory, filled}
use Rattle.model.specs.Lines.{Line, overflow, render, render_all}
use Rattle.model.specs.Queue.{room, written, enqueue, effect, effects}
use Rattle.model.specs.Events.{Event, silence}
use Rattle.model.specs.Rules.{Outcome, event_outcome}
use Rattle.laws.specs.Room.{room_same}
use Rattle.laws.specs.Telling.{told_none}
use Rattle.laws.specs.Announcing.{told_many, told_past}
use Rattle.line_put.specs.Says.{has_room}
use Rattle.line_put.specs.Heard.{Heard, heard}

-- nothing was heard
abbrev pub unheard : Memory → Heard
unheard m = record { queue = m.queue; session = m.session; filled = filled m }

-- a text behind what is filled
abbrev pub further : Heard → List ℕ → Heard
further h t = record { queue = written h.queue h.filled t; session = h.session; filled = h.filled + length t }

-- `made` is the memory that the record stores, beside what is heard
module _ (m : Memory) (event : Memory → Event) (made : Heard → Memory)
    (stored : (event m).stored ≡ made (unheard m)) (silent : (event (silence m)).stored ≡ made (unheard (silence m)))
    (takes : (h : Heard) (t : List ℕ) → enqueue (made h) t ≡ made (further h t)) where
  -- lines that end nothing, owed together
  module _ (ls : List Line) (ends : (j : Memory) → effects j ls ≡ j) where
    abbrev hears : Bool → Heard
    hears on = heard m.queue m.session (filled m) on (render_all ls)

    pub told_list : (on : Bool) → (event m).lines ≡ cond on ls [] → (on ≡ true → filled m ≤ length m.queue - 64) → (event_outcome m event).after ≡ made (hears on)
    unfolding heard
    told_list false e free = ap (λ (o : Outcome). o.after) (told_none m event e) ∙ stored
    told_list true e free = go (leb (length (render_all ls)) (room m)) refl
      where
        fit : (r : Bool) → leb (length (render_all ls)) (room m) ≡ r → has_room m.queue (filled m) (render_all ls) ≡ r
        fit r q = room_same (filled m) (length (render_all ls)) (length m.queue - 64) (free refl) ∙ q

        go : (r : Bool) → leb (length (render_all ls)) (room m) ≡ r → (event_outcome m event).after ≡ made (hears true)
        go true q =
            told_many m event ls e q
            ∙ (ends (enqueue (event m).stored (render_all ls)) ∙ (ap (λ (j : Memory). enqueue j (render_all ls)) stored ∙ (takes (unheard m) (render_all ls) ∙ rw (fit true q))))
        go false q =
            told_past m event ls e q
            ∙ (ap (λ (j : Memory). enqueue j (render overflow)) silent ∙ (takes (unheard (silence m)) (render overflow) ∙ rw (fit false q)))

  -- one such line
  pub told_made : (l : Line) → ((j : Memory) → effect j l ≡ j) → (on : Bool) → (event m).lines ≡ when on l → (on ≡ true → filled m ≤ length m.queue - 64)
      → (event_outcome m event).after ≡ made (heard m.queue m.session (filled m) on (render l))
  unfolding effects render_all
  told_made l ends on e free =
      told_list (l ∷ []) ends on (e ∙ alone on) free
      ∙ ap (λ (t : List ℕ). made (heard m.queue m.session (filled m) on t)) (append-nil (render l))
    where
      alone : (b : Bool) → when b l ≡ cond b (l ∷ []) []
      alone true = refl
      alone false = refl
