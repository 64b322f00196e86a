-- The entries of a message table, looked up by UID in one mailbox: what adding, dropping, changing and sorting do to the lookup. Assumes nothing.
use Rattle.std.specs.Prelude.{◌≡◌, Bool, ◌&&◌, ℕ, eqb}
use Rattle.std.proofs.Math.Path.{refl, ap, ap₂}
use Rattle.std.proofs.Common.{sym, ◌∙◌}
use mathlib.Core.List.{List, [], ◌∷◌, ◌++◌, map}
use Rattle.std.proofs.Math.Bool.{true, false, not, cond, ◌||◌}
use borrow.Author.Tests.{eqb-true, eq-eqb, not-true}
use Rattle.model.specs.Lists.{filterb, keep, anyb, allb, apart}
use Rattle.model.specs.Laws.{tf, and_l, and_r, or_l, or_r, cond_same, any_snoc}
use Rattle.model.specs.Memory.{uid_of, is_message, in_mailbox}
use Rattle.model.specs.Lawful.{twin}
use Rattle.model.specs.declared.Message.{Message}
use Rattle.demands.specs.Ledger.Each.{All, none, also, all_yes, all_with}

-- ---- a message of mailbox s by its UID: is it there, and its states (0 where it is not)
module _ (s : ℕ) where
  unfoldable pub present : ℕ → List Message → Bool
  present u es = anyb (is_message s u) es

  unfoldable pub state_of : ℕ → List Message → ℕ
  state_of u [] = 0
  state_of u (e ∷ es) = let rest = state_of u es in cond (is_message s u e) e.states rest

  -- another is added
  pub state-snoc : (u : ℕ) (es : List Message) (e : Message) → e.states ≡ 0 → state_of u (es ++ (e ∷ [])) ≡ state_of u es
  unfolding state_of
  state-snoc u [] e h = rw h (cond_same (is_message s u e) 0)
  state-snoc u (d ∷ es) e h = ap (λ (n : ℕ). cond (is_message s u d) d.states n) (state-snoc u es e h)

  -- some are dropped: not message u
  pub state-kept : (u : ℕ) (p : Message → Bool) → ((e : Message) → is_message s u e ≡ true → p e ≡ true) → (es : List Message) → state_of u (filterb p es) ≡ state_of u es
  unfolding state_of
  state-kept u p h [] = refl
  state-kept u p h (e ∷ es) = go (p e) refl (is_message s u e) refl (state-kept u p h es)
    where
      go : (b : Bool) → p e ≡ b → (c : Bool) → is_message s u e ≡ c → state_of u (filterb p es) ≡ state_of u es → state_of u (keep b e (filterb p es)) ≡ cond c e.states (state_of u es)
      go true f true g ih = rw g
      go true f false g ih = rw g ih
      go false f true g ih = tf (p e) (h e g) f
      go false f false g ih = ih

  pub present-kept : (u : ℕ) (p : Message → Bool) → ((e : Message) → is_message s u e ≡ true → p e ≡ true) → (es : List Message) → present u (filterb p es) ≡ present u es
  unfolding present
  present-kept u p h [] = refl
  present-kept u p h (e ∷ es) = go (p e) refl (is_message s u e) refl (present-kept u p h es)
    where
      go : (b : Bool) → p e ≡ b → (c : Bool) → is_message s u e ≡ c → anyb (is_message s u) (filterb p es) ≡ anyb (is_message s u) es
          → anyb (is_message s u) (keep b e (filterb p es)) ≡ c || anyb (is_message s u) es
      go true f c g ih = rw g (ap (λ (b : Bool). c || b) ih)
      go false f true g ih = tf (p e) (h e g) f
      go false f false g ih = ih

  -- or just message u
  pub state-gone : (u : ℕ) (p : Message → Bool) → ((e : Message) → is_message s u e ≡ true → p e ≡ false) → (es : List Message) → state_of u (filterb p es) ≡ 0
  unfolding state_of
  state-gone u p h [] = refl
  state-gone u p h (e ∷ es) = go (p e) refl (is_message s u e) refl (state-gone u p h es)
    where
      go : (b : Bool) → p e ≡ b → (c : Bool) → is_message s u e ≡ c → state_of u (filterb p es) ≡ 0 → state_of u (keep b e (filterb p es)) ≡ 0
      go true f true g ih = tf (p e) f (h e g)
      go true f false g ih = rw g ih
      go false f c g ih = ih

  pub present-gone : (u : ℕ) (p : Message → Bool) → ((e : Message) → is_message s u e ≡ true → p e ≡ false) → (es : List Message) → present u (filterb p es) ≡ false
  unfolding present
  present-gone u p h [] = refl
  present-gone u p h (e ∷ es) = go (p e) refl (is_message s u e) refl (present-gone u p h es)
    where
      go : (b : Bool) → p e ≡ b → (c : Bool) → is_message s u e ≡ c → anyb (is_message s u) (filterb p es) ≡ false → anyb (is_message s u) (keep b e (filterb p es)) ≡ false
      go true f true g ih = tf (p e) f (h e g)
      go true f false g ih = rw (g, ih)
      go false f c g ih = ih

  -- each is changed, its mailbox and UID kept
  pub present-map : (u : ℕ) (f : Message → Message) → ((e : Message) → is_message s u (f e) ≡ is_message s u e) → (es : List Message) → present u (map f es) ≡ present u es
  unfolding present
  present-map u f h [] = refl
  present-map u f h (e ∷ es) = ap₂ ◌||◌ (h e) (present-map u f h es)

  pub state-map : (u : ℕ) (f : Message → Message) → ((e : Message) → is_message s u (f e) ≡ is_message s u e) → ((e : Message) → is_message s u e ≡ true → (f e).states ≡ e.states)
      → (es : List Message) → state_of u (map f es) ≡ state_of u es
  unfolding state_of
  state-map u f h k [] = refl
  state-map u f h k (e ∷ es) = rw (h e) (go (is_message s u e) refl (state-map u f h k es))
    where
      go : (b : Bool) → is_message s u e ≡ b → state_of u (map f es) ≡ state_of u es → cond b (f e).states (state_of u (map f es)) ≡ cond b e.states (state_of u es)
      go true g ih = k e g
      go false g ih = ih

  -- to the same states, wherever it is message u
  pub state_put : (u n : ℕ) (f : Message → Message) → ((e : Message) → is_message s u (f e) ≡ is_message s u e) → ((e : Message) → is_message s u e ≡ true → (f e).states ≡ n)
      → (es : List Message) → state_of u (map f es) ≡ cond (present u es) n 0
  unfolding state_of present
  state_put u n f h k [] = refl
  state_put u n f h k (e ∷ es) = rw (h e) (go (is_message s u e) refl (state_put u n f h k es))
    where
      go : (b : Bool) → is_message s u e ≡ b → state_of u (map f es) ≡ cond (anyb (is_message s u) es) n 0 → cond b (f e).states (state_of u (map f es)) ≡ cond (b || anyb (is_message s u) es) n 0
      go true g ih = k e g
      go false g ih = ih

  -- ---- each message of a list without twins is found by its UID
  itself : (e : Message) → in_mailbox s e ≡ true → is_message s (uid_of e) e ≡ true
  itself e h = rw (h, eq-eqb (uid_of e) (uid_of e) refl)

  pub found : (es : List Message) → apart twin es ≡ true → All (λ (e : Message). in_mailbox s e ≡ true → (state_of (uid_of e) es ≡ e.states) × (present (uid_of e) es ≡ true)) es
  unfolding state_of present
  found [] h = none
  found (x ∷ es) h = also {x = x} (λ k. (rw (itself x k), rw (itself x k)))
      (all_with further (all_yes (λ (e : Message). not (twin x e)) es (apartly es (and_l (not (anyb (λ (e : Message). twin x e) es)) _ h)))
      (found es (and_r (not (anyb (λ (e : Message). twin x e) es)) _ h)))
    where
      apartly : (l : List Message) → not (anyb (λ (e : Message). twin x e) l) ≡ true → allb (λ (e : Message). not (twin x e)) l ≡ true
      apartly [] k = refl
      apartly (y ∷ l) k = let g = not-true (twin x y || anyb (λ (e : Message). twin x e) l) k in rw (or_l (twin x y) _ g) (apartly l (rw (or_r (twin x y) _ g)))

      other : (e : Message) → not (twin x e) ≡ true → in_mailbox s e ≡ true → is_message s (uid_of e) x ≡ false
      other e n k = go (eqb x.mailbox s) refl
        where
          go : (b : Bool) → eqb x.mailbox s ≡ b → (b && eqb (uid_of x) (uid_of e)) ≡ false
          go true g =
              let t = not-true (twin x e) n in
              rw (eq-eqb x.mailbox e.mailbox (eqb-true x.mailbox s g ∙ sym (eqb-true e.mailbox s k))) at t
          go false g = refl

      further : (e : Message) → not (twin x e) ≡ true → (in_mailbox s e ≡ true → (state_of (uid_of e) es ≡ e.states) × (present (uid_of e) es ≡ true))
          → in_mailbox s e ≡ true → (cond (is_message s (uid_of e) x) x.states (state_of (uid_of e) es) ≡ e.states) × ((is_message s (uid_of e) x || present (uid_of e) es) ≡ true)
      further e n ih k = rw (other e n k) (ih k)

pub present-snoc : (s v : ℕ) (es : List Message) (e : Message) → present s v (es ++ (e ∷ [])) ≡ (present s v es || is_message s v e)
unfolding present
present-snoc s v es e = any_snoc (is_message s v) es e
