-- Alike memories owe the same lines, and stay alike when lines are written. Assumes nothing.
use Rattle.std.specs.Prelude.{◌≡◌, refl, List, [], ◌∷◌, Bool, true, false, cond, ℕ}
use Rattle.std.proofs.Common.{sym, ap, subst}
use Rattle.model.specs.Memory.{Memory, boxes, mails, the_mailbox, messages_of, is_message, with_states, drop_mails, change_mails}
use Rattle.model.specs.Lines.{Line, status, list, renamed, exists, expunge, fetch, found, overflow, answer, render_all}
use Rattle.model.specs.Queue.{room, fits, enqueue, unmark, shows_flags, effect, effects, say}
use Rattle.model.specs.View.{view, owed, announcing, new_at_once, expunge_at_once, flags_at_once, flags_wait}
use Rattle.model.specs.declared.Message.{Message}
use Rattle.model.specs.declared.Session.{Session}
use Rattle.demands.specs.Isolation.Alike.{Alike, same_box, same_messages, alike-session, alike-drop-mails, alike-change, alike-enqueue}

module _ (H : ℕ → Bool) (s t : Memory) (a : Alike H s t) where
  pub same_id : t.session.selected ≡ s.session.selected
  same_id = ap (λ (x : Session). x.selected) a.session

  same_own : the_mailbox s.session.selected (boxes t) ≡ the_mailbox s.session.selected (boxes s)
  same_own = same_box H s t a s.session.selected a.awake

  same_mail : messages_of s.session.selected (mails t) ≡ messages_of s.session.selected (mails s)
  same_mail = same_messages H s t a s.session.selected a.awake

  pub same_view : view t ≡ view s
  same_view = rw (a.session, same_mail)

  pub same-owed : (c : ℕ) → owed t c ≡ owed s c
  same-owed c = rw (a.session, same_own, same_mail)

  pub same-announcing : announcing t ≡ announcing s
  same-announcing = rw (a.session, same_mail)

  pub same-room : room t ≡ room s
  same-room = rw (a.wide, a.fill)

  pub same-fits : (ls : List Line) → fits t ls ≡ fits s ls
  same-fits ls = rw (a.wide, a.fill)

  pub same_new : new_at_once t ≡ new_at_once s
  same_new = rw (a.session, same_own)

  pub same-expunge : expunge_at_once t ≡ expunge_at_once s
  same-expunge = rw (a.session, same_own)

  pub same_flags : flags_at_once t ≡ flags_at_once s
  same_flags = rw (a.session, same_own)

  pub same_wait : flags_wait t ≡ flags_wait s
  same_wait = rw (a.session, same_own)

  -- ---- what a line ends
  unmark_mailbox : (i u : ℕ) (e : Message) → (unmark i u e).mailbox ≡ e.mailbox
  unmark_mailbox i u e = go (is_message i u e)
    where
      go : (b : Bool) → (cond b (with_states e 0) e).mailbox ≡ e.mailbox
      go true = refl
      go false = refl

  shown : (b : Bool) (u : ℕ) → Alike H (cond b (change_mails s (unmark s.session.selected u)) s) (cond b (change_mails t (unmark t.session.selected u)) t)
  shown true u = subst (λ (i : ℕ). Alike H (change_mails s (unmark s.session.selected u)) (change_mails t (unmark i u))) (sym same_id)
      (alike-change H s t a (unmark s.session.selected u) (unmark_mailbox s.session.selected u))
  shown false u = a

  pub alike-effect : (l : Line) → Alike H (effect s l) (effect t l)
  alike-effect (exists n) = alike-session H s t a _ _ (rw (a.session, same_own)) a.awake
  alike-effect (expunge n u) = subst (λ (i : ℕ). Alike H (effect s (expunge n u)) (drop_mails t (is_message i u.0))) (sym same_id)
      (alike-drop-mails H s t a (is_message s.session.selected u.0))
  alike-effect (fetch n u is) = shown (shows_flags is) u.0
  alike-effect (status n is) = a
  alike-effect (list k n) = a
  alike-effect (renamed k new old) = a
  alike-effect (found t n v rs) = a
  alike-effect overflow = a
  alike-effect (answer t v r) = a

pub alike-effects : (H : ℕ → Bool) (s t : Memory) → Alike H s t → (ls : List Line) → Alike H (effects s ls) (effects t ls)
unfolding effects
alike-effects H s t a [] = a
alike-effects H s t a (l ∷ ls) = alike-effects H (effect s l) (effect t l) (alike-effect H s t a l) ls

-- lines are written
pub alike-say : (H : ℕ → Bool) (s t : Memory) → Alike H s t → (ls : List Line) → Alike H (say s ls) (say t ls)
alike-say H s t a ls = alike-effects H (enqueue s (render_all ls)) (enqueue t (render_all ls)) (alike-enqueue H s t a (render_all ls)) ls
