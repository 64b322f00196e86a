-- What the code holds of a state, and its runs entry by entry. Assumes nothing.
use Rattle.std.specs.Prelude.{◌≡◌, Bool, ℕ, ◌-◌, ◌<◌, get_or}
use Rattle.std.proofs.Math.Path.{ap, sym}
use Rattle.std.proofs.Common.{◌∙◌}
use mathlib.Core.List.{List}
use Rattle.model.specs.Memory.{no_message}
use Rattle.model.specs.declared.Message.{Message}
use Rattle.order_messages.specs.Chosen.{chosen}
use Rattle.order_messages.specs.Counts.{chosen_top}
use Rattle.event_view.specs.Saying.{State, step_e, run_e, step_m, run_m}
use Rattle.event_view.specs.declared.Going.{Going}

abbrev pub state_of : List ℕ → Going → State
state_of q g = record { queue = q; end = g.end; whole = g.whole; rest = g.rest; next = g.next.0; bound = g.bound.0 }

-- ---- one entry after the other
module _ (es : List Message) (at : List ℕ) where
  module _ (told lim : ℕ) where
    pub run_e_next : (j : ℕ) (s s' t : State) → 0 < j → run_e told lim (chosen es at j) s ≡ t → s' ≡ step_e told lim (get_or es (get_or at (j - 1) 0) no_message) s → run_e told lim (chosen es at (j - 1)) s' ≡ t
    unfolding run_e
    run_e_next j s s' t h r e = ap (run_e told lim (chosen es at (j - 1))) e ∙ (sym (ap (λ (l : List Message). run_e told lim l s) (chosen_top es at j h)) ∙ r)

    pub run_e_end : (j : ℕ) (s t : State) → j ≡ 0 → run_e told lim (chosen es at j) s ≡ t → s ≡ t
    unfolding run_e chosen
    run_e_end j s t e r = sym (ap (λ (n : ℕ). run_e told lim (chosen es at n) s) e) ∙ r

    pub run_m_next : (skip : Bool) (j : ℕ) (s s' t : State) → 0 < j → run_m told skip lim (chosen es at j) s ≡ t → s' ≡ step_m told skip lim (get_or es (get_or at (j - 1) 0) no_message) s → run_m told skip lim (chosen es at (j - 1)) s' ≡ t
    unfolding run_m
    run_m_next skip j s s' t h r e = ap (run_m told skip lim (chosen es at (j - 1))) e ∙ (sym (ap (λ (l : List Message). run_m told skip lim l s) (chosen_top es at j h)) ∙ r)

    pub run_m_end : (skip : Bool) (j : ℕ) (s t : State) → j ≡ 0 → run_m told skip lim (chosen es at j) s ≡ t → s ≡ t
    unfolding run_m chosen
    run_m_end skip j s t e r = sym (ap (λ (n : ℕ). run_m told skip lim (chosen es at n) s) e) ∙ r
