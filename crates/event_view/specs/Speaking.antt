-- What a command's end says along the view, in three parts: EXPUNGE, EXISTS, FETCH. Assumes nothing.
use Rattle.std.specs.Prelude.{◌≡◌, Bool, List, ℕ, length}
use Rattle.std.proofs.Math.Path.{ap, ap₂}
use Rattle.std.proofs.Common.{◌∙◌}
use Rattle.std.proofs.Math.Dec.{eqb}
use Rattle.model.specs.Lists.{filterb}
use Rattle.model.specs.declared.Message.{Message}
use Rattle.order_messages.specs.Counts.{stays, fresh}
use Rattle.event_view.specs.Saying.{State, part, start, run_m, say_exists, first_part}
use Rattle.event_view.specs.Coded.{state_of}
use Rattle.event_view.specs.declared.Going.{Going}
use Rattle.event_view.specs.declared.Spoken.{Spoken}

-- the three parts, on the mailbox's entries by UID
module _ (told : ℕ) (c : Bool) (lim : ℕ) (all : List Message) (q : List ℕ) (at : ℕ) where
  unfoldable pub first : State
  first = first_part told c lim all (start q at)

  unfoldable pub second : State
  second = say_exists lim (length (filterb (stays told c) all)) (length (filterb (fresh told) all)) (part first)

  unfoldable pub third : State
  third = run_m told c lim all (part second)

  pub record Speaks (q' : List ℕ) (r : Spoken) : Type 0 where
    pub queue : q' ≡ third.queue
    pub end : r.end ≡ third.end
    pub rest : r.rest ≡ third.rest
    pub gone : r.gone.0 ≡ first.bound
    pub news : r.news ≡ eqb second.bound 1
    pub shown : r.shown.0 ≡ third.bound

  -- as the code goes
  pub speaks : (q₁ q₂ q₃ : List ℕ) (a a' b b' c' : Going) (k f : ℕ)
      → state_of q₁ a ≡ first_part told c lim all (start q at)
      → a' ≡ record { end = a.end; whole = a.whole; rest = a.rest; next = record { 0 = 1 }; bound = record { 0 = 0 } }
      → k ≡ length (filterb (stays told c) all) → f ≡ length (filterb (fresh told) all)
      → state_of q₂ b ≡ say_exists lim k f (state_of q₁ a')
      → b' ≡ record { end = b.end; whole = b.whole; rest = b.rest; next = record { 0 = 1 }; bound = record { 0 = 0 } }
      → state_of q₃ c' ≡ run_m told c lim all (state_of q₂ b')
      → Speaks q₃ (record { end = c'.end; rest = c'.rest; gone = a.bound; news = eqb b.bound.0 1; shown = c'.bound })
  unfolding first second third part
  speaks q₁ q₂ q₃ a a' b b' c' k f x x' n m y y' z =
      let p : state_of q₁ a' ≡ part first = ap (state_of q₁) x' ∙ ap part x in
      let y₁ : state_of q₂ b ≡ second = y ∙ (ap (λ (s : State). say_exists lim k f s) p ∙ ap₂ (λ (i j : ℕ). say_exists lim i j (part first)) n m) in
      let p₂ : state_of q₂ b' ≡ part second = ap (state_of q₂) y' ∙ ap part y₁ in
      let z₁ : state_of q₃ c' ≡ third = z ∙ ap (run_m told c lim all) p₂ in
      record {
        queue = ap (λ (s : State). s.queue) z₁;
        end = ap (λ (s : State). s.end) z₁;
        rest = ap (λ (s : State). s.rest) z₁;
        gone = ap (λ (s : State). s.bound) x;
        news = ap (λ (s : State). eqb s.bound 1) y₁;
        shown = ap (λ (s : State). s.bound) z₁;
      }
