-- New messages announced at once: several lines are told together, EXISTS announces all, and a FETCH of a new message ends nothing. Assumes nothing.
use Rattle.std.specs.Prelude.{◌≡◌, Bool, cond, ◌&&◌, ℕ, ◌+◌, ◌<◌, ◌≤◌, eqb, leb, length, drop}
use Rattle.std.proofs.Math.Path.{refl, ap}
use Rattle.std.proofs.Common.{ap₂, sym, ◌∙◌, arith, take-append-drop}
use Rattle.std.proofs.Math.Bool.{true, false, not}
use mathlib.Core.List.{List, [], ◌∷◌, ◌++◌, map}
use Rattle.std.proofs.Math.Dec.{ltb}
use borrow.Author.Tests.{eqb-true, le-ltb, ltb-false}
use Rattle.model.specs.Laws.{and_l, and_r, tf}
use Rattle.model.specs.Lists.{filterb, allb, sorted}
use Rattle.model.specs.Memory.{Memory, mails, no_message, uid_of, in_mailbox, is_message, by_uid, with_states, with_mails, change_mails}
use Rattle.model.specs.Lines.{Line, modseq, overflow, render, render_all}
use Rattle.model.specs.Queue.{room, enqueue, announce, shows_flags, unmark, effects, say}
use Rattle.model.specs.View.{exists_line, new_lines, shown_items}
use Rattle.model.specs.Events.{Event, silence, tellings, settled}
use Rattle.model.specs.Rules.{event_outcome}
use Rattle.model.specs.Lawful.{state_ok}
use Rattle.model.specs.declared.Message.{Message}
use Rattle.model.specs.declared.Session.{Session}
use Rattle.laws.specs.Telling.{say_one}
use Rattle.laws.specs.Changing.{refill_same}
use Rattle.laws.specs.Counting.{countb, filter-count, filter_both, count-sorted}

-- ---- several lines are told, or none of them
module _ (m : Memory) (event : Memory → Event) (ls : List Line) (e : (event m).lines ≡ ls) where
  pub told_many : leb (length (render_all ls)) (room m) ≡ true → (event_outcome m event).after ≡ say (event m).stored ls
  unfolding tellings settled
  told_many h = rw (e, h)

  pub told_past : leb (length (render_all ls)) (room m) ≡ false → (event_outcome m event).after ≡ enqueue (event (silence m)).stored (render overflow)
  unfolding tellings settled
  told_past h = rw (e, h) (say_one (event (silence m)).stored overflow)

-- ---- EXISTS
pub exists-effect : (m : Memory) (k : ℕ) (v : List Message) (ls : List Line) → 0 < length v → effects m (exists_line k v ++ ls) ≡ effects (announce m) ls
unfolding effects
exists-effect m k [] ls h = absurd (let z : ⊥ = omega arith in z)
exists-effect m k (e ∷ v) ls h = refl

-- ---- a FETCH of a message that does not wait
-- what is not announced waits for nothing
calm : (s : Session) (i u : ℕ) → s.told ≤ u → (l : List Message) → allb (state_ok s) l ≡ true → map (unmark i u) l ≡ l
calm s i u h [] a = refl
calm s i u h (e ∷ l) a = ap₂ ◌∷◌ (go (is_message i u e) refl) (calm s i u h l (and_r (state_ok s e) (allb (state_ok s) l) a))
  where
    rests : uid_of e ≡ u → e.states ≡ 0
    rests q = zero_of (eqb e.states 0) refl
      where
        zero_of : (b : Bool) → eqb e.states 0 ≡ b → e.states ≡ 0
        zero_of true z = eqb-true e.states 0 z
        zero_of false z = tf (in_mailbox s.selected e && ltb (uid_of e) s.told) (rw z at (and_l (state_ok s e) (allb (state_ok s) l) a)) (rw (le-ltb (uid_of e) s.told (omega arith)) (none (in_mailbox s.selected e)))
          where
            none : (b : Bool) → (b && false) ≡ false
            none true = refl
            none false = refl

    go : (b : Bool) → is_message i u e ≡ b → cond b (with_states e 0) e ≡ e
    go true q = ap (with_states e) (sym (rests (eqb-true (uid_of e) u (and_r (eqb e.mailbox i) (eqb (uid_of e) u) q))))
    go false q = refl

-- messages that become themselves
pub change_none : (m : Memory) (f : Message → Message) → length (mails m) ≡ m.counts.messages → map f (mails m) ≡ mails m → change_mails m f ≡ m
change_none m f n e =
    let r = refill_same no_message m.entries (length (mails m)) (mails m) refl in
    let w : mails m ++ drop (length (mails m)) m.entries ≡ m.entries = rw n (take-append-drop m.counts.messages m.entries) in
    ap (with_mails m) e
    ∙ ap₂ (λ (l : List Message) (c : ℕ). record { rows = m.rows; entries = l; counts = record { mailboxes = m.counts.mailboxes; messages = c; filled = m.counts.filled }; session = m.session; queue = m.queue }) (r ∙ w) n

-- FETCH lines of messages that are not announced by s: they end nothing
module _ (m : Memory) (s : Session) (n : length (mails m) ≡ m.counts.messages) (a : allb (state_ok s) (mails m) ≡ true) where
  pub new-effects : (t : Session) (k : ℕ) (l : List Message) → allb (λ (e : Message). not (ltb (uid_of e) s.told)) l ≡ true → effects m (new_lines t k l) ≡ m
  unfolding effects new_lines
  new-effects t k [] b = refl
  new-effects t k (e ∷ l) b =
      ap (λ (j : Memory). effects j (new_lines t (k + 1) l)) (go (shows_flags (shown_items t e ++ (modseq e.counter ∷ []))) (low (ltb (uid_of e) s.told) refl (and_l (not (ltb (uid_of e) s.told)) _ b)))
      ∙ new-effects t (k + 1) l (and_r (not (ltb (uid_of e) s.told)) _ b)
    where
      low : (c : Bool) → ltb (uid_of e) s.told ≡ c → not c ≡ true → s.told ≤ uid_of e
      low true q z = tf false z refl
      low false q z = ltb-false (uid_of e) s.told q

      go : (c : Bool) → s.told ≤ uid_of e → cond c (change_mails m (unmark m.session.selected (uid_of e))) m ≡ m
      go true h = change_none m (unmark m.session.selected (uid_of e)) n (calm s m.session.selected (uid_of e) h (mails m) a)
      go false h = refl

-- ---- one that comes is among those that are not announced
pub count_last : (p : Message → Bool) (l : List Message) (x : Message) → p x ≡ true → 0 < countb p (l ++ (x ∷ []))
count_last p [] x h = rw h (omega arith)
count_last p (y ∷ l) x h = let z = count_last p l x h in omega arith

pub among : (p q : Message → Bool) (l : List Message) (x : Message) → q x ≡ true → p x ≡ true → 0 < length (filterb p (sorted by_uid (filterb q (l ++ (x ∷ [])))))
among p q l x h k =
    let a = filter-count p (sorted by_uid (filterb q (l ++ (x ∷ [])))) in
    let b = count-sorted p by_uid (filterb q (l ++ (x ∷ []))) in
    let c = filter_both p q (l ++ (x ∷ [])) in
    let d = count_last (λ (y : Message). q y && p y) l x (rw (h, k)) in
    omega arith
