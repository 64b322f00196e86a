-- What the end of a command leaves, on plain values. Assumes nothing.
use Rattle.std.specs.Prelude.{◌≡◌, Bool, false, List, ℕ, ◌-◌, ◌≤◌, eqb, take}
use Rattle.std.proofs.Math.Path.{refl, ap, ap₂}
use Rattle.std.proofs.Common.{◌∙◌}
use Rattle.std.proofs.Math.Bool.{true, cond}
use Rattle.std.proofs.Math.ListN.{length}
use Rattle.model.specs.Memory.{no_message, refill, messages_of, with_view}
use Rattle.model.specs.declared.Message.{Message}
use Rattle.model.specs.declared.Session.{Session}
use Rattle.table_messages.specs.Laid.{laid}
use Rattle.table_sweep.specs.Swept.{kept}
use Rattle.event_view.specs.declared.Spoken.{Spoken}
use Rattle.event_view.specs.Saying.{State}
use Rattle.event_view.specs.Speaking.{first, second, third, Speaks}
use Rattle.event_session.specs.After.{After, told_to}
use Rattle.event_session.specs.declared.Closed.{Closed}

module _ (es : List Message) (used : ℕ) (q : List ℕ) (s : Session) (at : ℕ) (c : Bool) where
  abbrev pub lim : ℕ
  lim = length q - 64

  abbrev pub all : List Message
  all = messages_of s.selected (take used es)

  abbrev pub one : State
  one = first s.told c lim all q at

  abbrev pub two : State
  two = second s.told c lim all q at

  abbrev pub three : State
  three = third s.told c lim all q at

  abbrev pub stay : List Message
  stay = kept (told_to s.selected one.bound three.bound) (take used es)

  abbrev pub spoken_after : ℕ → After
  spoken_after next = record {
    entries = refill no_message es used stay;
    used = length stay;
    queue = three.queue;
    session = cond (eqb two.bound 1) (with_view s s.selected next) s;
    filled = three.end;
  }

  -- with both rights, and without
  unfoldable pub end_after : Bool → ℕ → After
  end_after rights next = cond rights (spoken_after next) (record { entries = es; used = used; queue = q; session = s; filled = at })

  unfoldable pub end_rest : Bool → ℕ
  end_rest rights = cond rights three.rest 0

-- what is left behind is what should be
pub record Leaves (x : After) (n : ℕ) (ws ws' q : List ℕ) (r : Closed) : Type 0 where
  pub words : ws' ≡ laid ws x.entries
  pub used : r.used ≡ x.used
  pub queue : q ≡ x.queue
  pub session : r.session ≡ x.session
  pub filled : r.filled ≡ x.filled
  pub rest : r.rest ≡ n

module _ (es : List Message) (used : ℕ) (q : List ℕ) (s : Session) (at : ℕ) (c : Bool) (next : ℕ) where
  pub leaves_none : (ws : List ℕ) → ws ≡ laid ws es → Leaves (end_after es used q s at c false next) (end_rest es used q s at c false) ws ws q (record { session = s; used = used; filled = at; rest = 0 })
  unfolding end_after end_rest
  leaves_none ws o = record { words = o; used = refl; queue = refl; session = refl; filled = refl; rest = refl }

  pub leaves_some : (l : List Message) → l ≡ messages_of s.selected (take used es) → (q' : List ℕ) (t : Spoken) → Speaks s.told c (length q - 64) l q at q' t
      → (ws ws' : List ℕ) (n : ℕ) → (ws' ≡ laid ws (refill no_message es used (kept (told_to s.selected t.gone.0 t.shown.0) (take used es)))) × (n ≡ length (kept (told_to s.selected t.gone.0 t.shown.0) (take used es))) × (n ≤ used)
      → (s' : Session) → s' ≡ cond t.news (with_view s s.selected next) s
      → Leaves (end_after es used q s at c true next) (end_rest es used q s at c true) ws ws' q' (record { session = s'; used = n; filled = t.end; rest = t.rest })
  unfolding end_after end_rest
  leaves_some l e q' t x ws ws' n w s' v = go (rw e at x)
    where
      go : Speaks s.told c (length q - 64) (messages_of s.selected (take used es)) q at q' t → Leaves (end_after es used q s at c true next) (end_rest es used q s at c true) ws ws' q' (record { session = s'; used = n; filled = t.end; rest = t.rest })
      go y = record {
        words = w.0 ∙ ap₂ (λ (a b : ℕ). laid ws (refill no_message es used (kept (told_to s.selected a b) (take used es)))) y.gone y.shown;
        used = w.1 ∙ ap₂ (λ (a b : ℕ). length (kept (told_to s.selected a b) (take used es))) y.gone y.shown;
        queue = y.queue;
        session = v ∙ ap (λ (a : Bool). cond a (with_view s s.selected next) s) y.news;
        filled = y.end;
        rest = y.rest;
      }
