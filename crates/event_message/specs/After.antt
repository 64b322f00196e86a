-- What `XP` and `ME` leave: entries, how many of them, queue, session and F; and the texts of a STATUS. Assumes nothing.
use Rattle.std.specs.Prelude.{◌≡◌, refl, Bool, true, false, cond, ℕ, ◌+◌, ◌*◌, ◌-◌, ◌≤◌, length, take, get_or, set}
use Rattle.std.proofs.Math.Path.{ap}
use Rattle.std.proofs.Common.{◌∙◌}
use mathlib.Core.List.{List}
use Rattle.model.specs.Queue.{written}
use Rattle.model.specs.Memory.{no_message, name_of, counter_of, existing, messages_of, with_flags, with_states, with_view, silenced}
use Rattle.model.specs.Lines.{status, mail_items, flag_items, render}
use Rattle.model.specs.declared.Mailbox.{Mailbox}
use Rattle.model.specs.declared.Message.{Message}
use Rattle.model.specs.declared.Session.{Session}
use Rattle.line_put.specs.Says.{has_room, spoken, Says}
use Rattle.table_messages.specs.Words.{messages, stored}
use Rattle.table_messages.specs.Laid.{laid, laid_own, laid-entries, laid_put}
use Rattle.table_messages.specs.Taken.{shut}
use Rattle.line_fetch.specs.declared.Shows.{Shows}
use Rattle.line_message.specs.Counts.{count_text, expunge_word}
use Rattle.line_message.specs.Whole.{news_text}
use Rattle.line_put.specs.Heard.{Heard, Hears, heard, hears-said}

pub record After : Type 0 where
  pub entries : List Message
  pub used : ℕ
  pub heard : Heard

-- what the code leaves is this: every word of the table too
pub record Leaves (x : After) (ws ws' : List ℕ) (n : ℕ) (q : List ℕ) (s : Session) (f : ℕ) : Type 0 where
  pub words : ws' ≡ laid ws x.entries
  pub used : n ≡ x.used
  pub heard : Hears x.heard q s f

-- the STATUS of a mailbox, counted in these entries
abbrev pub status_text : Mailbox → List Message → List ℕ
status_text x l = render (status (name_of x) (mail_items x.uidnext (length (existing x.id l)) (counter_of x)))

-- that of a change of flags
abbrev pub change_text : Mailbox → List ℕ
change_text x = render (status (name_of x) (flag_items x.uidvalidity (counter_of x)))

-- a text counts only where somebody is told
pub hears_told : (q : List ℕ) (s : Session) (at : ℕ) (on : Bool) (t u : List ℕ) {q' : List ℕ} {s' : Session} {f : ℕ} → (on ≡ true → t ≡ u) → Hears (heard q s at on t) q' s' f → Hears (heard q s at on u) q' s' f
unfolding heard
hears_told q s at true t u e h = rw (e refl) at h
hears_told q s at false t u e h = h

-- entry k gone where its line was written, and else it waits
abbrev pub rows_taken_out : List Message → ℕ → ℕ → Bool → List Message
rows_taken_out es used k gone = cond gone (shut k used es) (set es k (with_states (get_or es k no_message) 1))

-- an entry that was put
pub put_one : (ws ws' : List ℕ) (k : ℕ) (y : Message) → ws' ≡ stored ws k y → (k + 1) * 6 ≤ length ws → ws' ≡ laid ws (set (messages ws) k y)
put_one ws ws' k y e h = e ∙ laid_put ws ws (messages ws) k y (laid_own ws) h

pub taken-waits : (ws ws' : List ℕ) (used k : ℕ) (gone : Bool) (e y : Message) → gone ≡ false → ws' ≡ stored ws k y → (k + 1) * 6 ≤ length ws → e ≡ get_or (messages ws) k no_message → y ≡ with_states (with_flags e e.flags e.counter) 1
    → (ws' ≡ laid ws (rows_taken_out (messages ws) used k gone)) × (used ≡ cond gone (used - 1) used)
taken-waits ws ws' used k gone e y g c h p q = rw g (put_one ws ws' k y c h ∙ ap (λ (x : Message). laid ws (set (messages ws) k x)) (q ∙ ap (λ (x : Message). with_states x 1) p), refl)

module _ (es : List Message) (used : ℕ) (q : List ℕ) (s : Session) (at k : ℕ) where
  abbrev the : Message
  the = get_or es k no_message

  -- it is gone, and its mailbox's STATUS is told or not
  abbrev pub drop_after : Mailbox → Bool → After
  drop_after x on = record { entries = shut k used es; used = used - 1; heard = heard q s at on (status_text x (take (used - 1) (shut k used es))) }

  -- it waits
  abbrev pub wait_after : After
  wait_after = record { entries = set es k (with_states the 1); used = used; heard = record { queue = q; session = s; filled = at } }

  -- its line is written and it is gone, or else it waits
  abbrev pub once_after : ℕ → After
  once_after n = record {
    entries = cond (has_room q at (count_text n expunge_word)) (shut k used es) (set es k (with_states the 1));
    used = cond (has_room q at (count_text n expunge_word)) (used - 1) used;
    heard = heard q s at true (count_text n expunge_word);
  }

  -- in the view: at once or waiting; elsewhere: told or not
  unfoldable pub remove_after : Mailbox → ℕ → Bool → Bool → Bool → After
  remove_after x n seen once on = cond seen (cond once (once_after n) wait_after) (drop_after x on)

  pub once_leaves : (ws ws' : List ℕ) (n n' : ℕ) (fits : Bool) (q' : List ℕ) (end f : ℕ) (s' : Session) → ws' ≡ laid ws (rows_taken_out es used k fits) → n' ≡ cond fits (used - 1) used
      → Says q at (count_text n expunge_word) q' fits end → s' ≡ cond fits s (silenced s) → f ≡ end → Leaves (once_after n) ws ws' n' q' s' f
  once_leaves ws ws' n n' fits q' end f s' e u x h g = record {
    words = e ∙ ap (λ (b : Bool). laid ws (rows_taken_out es used k b)) x.room;
    used = u ∙ ap (λ (b : Bool). cond b (used - 1) used) x.room;
    heard = hears-said q s at (count_text n expunge_word) q' fits end f s' x h g;
  }

  pub drop_leaves : (x : Mailbox) (on : Bool) (ws ws' q' : List ℕ) (s' : Session) (f : ℕ) → ws' ≡ laid ws (shut k used es)
      → Hears (heard q s at on (status_text x (take (used - 1) (messages ws')))) q' s' f → Leaves (drop_after x on) ws ws' (used - 1) q' s' f
  drop_leaves x on ws ws' q' s' f e h = record { words = e; used = refl; heard = rw (laid-entries ws ws' (shut k used es) e) at h }

-- lines that announce all that is new, or else the overflow line
pub record Announces (q : List ℕ) (s : Session) (at next : ℕ) (t q' : List ℕ) (s' : Session) (f : ℕ) : Type 0 where
  pub queue : q' ≡ written q at (spoken q at t)
  pub session : s' ≡ cond (has_room q at t) (with_view s s.selected next) (silenced s)
  pub filled : f ≡ at + length (spoken q at t)

pub announces : (q : List ℕ) (s : Session) (at next : ℕ) (t u q' : List ℕ) (fits : Bool) (end : ℕ) (s' : Session) → t ≡ u → Says q at t q' fits end → s' ≡ cond fits (with_view s s.selected next) (silenced s) → Announces q s at next u q' s' end
announces q s at next t u q' fits end s' e x h = rw (← e) (record { queue = x.is; session = h ∙ ap (λ (b : Bool). cond b (with_view s s.selected next) (silenced s)) x.room; filled = x.ends })

-- ---- `ME`: the entry stands behind the last; y is its mailbox's row with the new UIDNEXT
module _ (es : List Message) (used : ℕ) (q : List ℕ) (s : Session) (at : ℕ) (y : Mailbox) (e : Message) where
  abbrev pub grown : List Message
  grown = set es used e

  -- elsewhere, or waiting: its mailbox's STATUS is told or not
  abbrev pub status_after : Bool → After
  status_after on = record { entries = grown; used = used + 1; heard = heard q s at on (status_text y (take (used + 1) grown)) }

  -- at once: all that is new is announced, or else the overflow line is written and it waits
  abbrev pub news_of : Shows → List ℕ
  news_of w = news_text s.told w (messages_of s.selected (take (used + 1) grown))

  abbrev pub news_after : Shows → After
  news_after w = record {
    entries = grown;
    used = used + 1;
    heard = record {
      queue = written q at (spoken q at (news_of w));
      session = cond (has_room q at (news_of w)) (with_view s s.selected y.uidnext) (silenced s);
      filled = at + length (spoken q at (news_of w));
    };
  }

  unfoldable pub arrive_after : Bool → Bool → Shows → After
  arrive_after soon on w = cond soon (news_after w) (status_after on)

  pub status_leaves : (y₀ : Mailbox) (soon on : Bool) (w : Shows) (ws ws' q' : List ℕ) (s' : Session) (f : ℕ) → soon ≡ false → y₀ ≡ y → ws' ≡ laid ws grown
      → Hears (heard q s at on (status_text y₀ (take (used + 1) (messages ws')))) q' s' f → Leaves (arrive_after soon on w) ws ws' (used + 1) q' s' f
  unfolding arrive_after
  status_leaves y₀ soon on w ws ws' q' s' f b r c h = rw (b, ← r) (record { words = c; used = refl; heard = rw (laid-entries ws ws' grown c) at h })

  pub news_leaves : (soon on : Bool) (w : Shows) (ws ws' q' : List ℕ) (s' : Session) (f : ℕ) → soon ≡ true → ws' ≡ laid ws grown
      → Announces q s at y.uidnext (news_text s.told w (messages_of s.selected (take (used + 1) (messages ws')))) q' s' f → Leaves (arrive_after soon on w) ws ws' (used + 1) q' s' f
  unfolding arrive_after
  news_leaves soon on w ws ws' q' s' f b c x =
      let z : news_text s.told w (messages_of s.selected (take (used + 1) (messages ws'))) ≡ news_of w = ap (λ (t : List Message). news_text s.told w (messages_of s.selected (take (used + 1) t))) (laid-entries ws ws' grown c) in
      let v : Announces q s at y.uidnext (news_of w) q' s' f = rw z at x in
      rw b (record { words = c; used = refl; heard = record { queue = v.queue; session = v.session; filled = v.filled } })
