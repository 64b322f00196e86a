-- What `FL` leaves: told at once, or kept, as a mark or told to nobody; elsewhere a STATUS tells of it. Assumes nothing.
use Rattle.std.specs.Prelude.{◌≡◌, refl, Bool, true, false, cond, List, ℕ, ◌+◌, ◌*◌, ◌≤◌, length, get_or, set}
use Rattle.std.proofs.Common.{ap, ◌∙◌}
use Rattle.model.specs.Memory.{no_message, uid_of, with_flags, with_states, silenced}
use Rattle.model.specs.declared.Mailbox.{Mailbox}
use Rattle.model.specs.declared.Message.{Message}
use Rattle.model.specs.declared.Session.{Session}
use Rattle.line_put.specs.Says.{has_room, Says}
use Rattle.table_messages.specs.Words.{messages, stored}
use Rattle.table_messages.specs.Laid.{laid}
use Rattle.line_fetch.specs.Fetch.{fetch_text}
use Rattle.line_put.specs.Heard.{Hears, heard, hears-said}
use Rattle.event_message.specs.After.{After, Leaves, change_text, put_one}

module _ (es : List Message) (used : ℕ) (q : List ℕ) (s : Session) (at : ℕ) where
  -- its line is written and ends a mark, or else the overflow line, and the change is told to nobody
  abbrev pub told_after : (k f c n : ℕ) → After
  told_after k f c n = record {
    entries = set es k (cond (has_room q at (fetch_text n (uid_of (get_or es k no_message)) f c)) (with_states (with_flags (get_or es k no_message) f c) 0) (with_flags (get_or es k no_message) f c));
    used = used;
    heard = heard q s at true (fetch_text n (uid_of (get_or es k no_message)) f c);
  }

  -- no FETCH tells of it, and its mailbox's STATUS is told or not
  abbrev pub kept_after : Mailbox → (k f c states : ℕ) → Bool → After
  kept_after x k f c states on = record { entries = set es k (with_states (with_flags (get_or es k no_message) f c) states); used = used; heard = heard q s at on (change_text x) }

  -- at once, or as a mark, or by a STATUS, or to nobody
  unfoldable pub flag_after : Mailbox → (k f c n : ℕ) → Bool → Bool → Bool → After
  flag_after x k f c n once waits on = cond once (told_after k f c n) (kept_after x k f c (cond waits 2 (get_or es k no_message).states) on)

flagged : (e : Message) (f c : ℕ) (b : Bool) → with_states (with_flags e f c) (cond b 0 e.states) ≡ cond b (with_states (with_flags e f c) 0) (with_flags e f c)
flagged e f c true = refl
flagged e f c false = refl

module _ (ws ws' : List ℕ) (used : ℕ) (q : List ℕ) (s : Session) (at k f c : ℕ) (e y : Message) (st : ℕ)
    (p : e ≡ get_or (messages ws) k no_message) (made : y ≡ with_states (with_flags e f c) st) (w : ws' ≡ stored ws k y) (h : (k + 1) * 6 ≤ length ws) where
  pub told_leaves : (n : ℕ) (q' : List ℕ) (fits : Bool) (end f' : ℕ) (s' : Session) → st ≡ cond fits 0 e.states → Says q at (fetch_text n (uid_of e) f c) q' fits end → s' ≡ cond fits s (silenced s) → f' ≡ end
      → Leaves (told_after (messages ws) used q s at k f c n) ws ws' used q' s' f'
  told_leaves n q' fits end f' s' z x g i = rw (← p) (record {
    words = put_one ws ws' k y w h ∙ ap (λ (v : Message). laid ws (set (messages ws) k v)) (made ∙ (ap (with_states (with_flags e f c)) z ∙ (flagged e f c fits ∙ ap (λ (b : Bool). cond b (with_states (with_flags e f c) 0) (with_flags e f c)) x.room)));
    used = refl;
    heard = hears-said q s at (fetch_text n (uid_of e) f c) q' fits end f' s' x g i;
  })

  pub kept_leaves : (x : Mailbox) (on : Bool) (q' : List ℕ) (s' : Session) (f' : ℕ) → Hears (heard q s at on (change_text x)) q' s' f' → Leaves (kept_after (messages ws) used q s at x k f c st on) ws ws' used q' s' f'
  kept_leaves x on q' s' f' l = rw (← p) (record { words = put_one ws ws' k y w h ∙ ap (λ (v : Message). laid ws (set (messages ws) k v)) made; used = refl; heard = l })
