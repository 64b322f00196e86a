-- The queue, and what the writing of a line ends (01, Store, 1, 3 and 4; Records, 18; Written, 13, 18, 20 and 22).
use Rattle.std.specs.Prelude.{List, [], ◌∷◌, ◌++◌, Bool, true, false, cond, ℕ, ◌+◌, ◌-◌, leb, length, take, drop}
use Rattle.model.specs.Lists.{anyb}
use Rattle.model.specs.Memory.{Memory, filled, selected_box, with_session, with_view, drop_mails, change_mails, is_message, with_states}
use Rattle.model.specs.Lines.{Line, status, list, renamed, exists, expunge, fetch, found, overflow, answer, Item, uid, flags, size, modseq, render, render_all}
use Rattle.model.specs.declared.Message.{Message}

-- what is left for lines: 64 octets are kept for the overflow line
abbrev pub room : Memory → ℕ
room m = length m.queue - 64 - filled m

abbrev pub fits : Memory → List Line → Bool
fits m ls = leb (length (render_all ls)) (room m)

-- the first lines, whole ones only, that the room holds (Written, 20)
unfoldable pub fitting : ℕ → List Line → List Line
fitting free [] = []
fitting free (l ∷ ls) =
    let rest = fitting (free - length (render l)) ls in
    cond (leb (length (render l)) free) (l ∷ rest) []

-- a text behind what the queue holds; what lies behind it stays
unfoldable pub written : List ℕ → ℕ → List ℕ → List ℕ
written q at t = take at q ++ (t ++ drop (at + length t) q)

abbrev pub enqueue : Memory → List ℕ → Memory
enqueue m t = record {
  rows = m.rows;
  entries = m.entries;
  counts = record { mailboxes = m.counts.mailboxes; messages = m.counts.messages; filled = m.counts.filled + length t };
  session = m.session;
  queue = written m.queue (filled m) t;
}

-- octets leave the queue's front; the others move up, and what lies behind them stays (Records, 18)
unfoldable pub shifted : List ℕ → ℕ → ℕ → List ℕ
shifted q f n = drop n (take f q) ++ drop (f - n) q

abbrev pub dequeue : Memory → ℕ → Memory
dequeue m n = record {
  rows = m.rows;
  entries = m.entries;
  counts = record { mailboxes = m.counts.mailboxes; messages = m.counts.messages; filled = m.counts.filled - n };
  session = m.session;
  queue = shifted m.queue (filled m) n;
}

-- ---- what a line ends
-- all of the selected mailbox's messages are announced: the view is all below its UIDNEXT (Written, 13)
abbrev pub announce : Memory → Memory
announce m = with_session m (with_view m.session m.session.selected (selected_box m).uidnext)

-- the flags are shown
abbrev pub is_flags_item : Item → Bool
is_flags_item (uid u) = false
is_flags_item (flags f) = true
is_flags_item (size z) = false
is_flags_item (modseq c) = false

abbrev pub shows_flags : List Item → Bool
shows_flags is = anyb is_flags_item is

-- message u of mailbox i is unmarked. This clears every state of the entry, and would forget an expunge too: it is right because no FETCH of flags
-- is written for an expunged message, which the account proves of all lines (Ledger.Effects, `Calm`). Request 7 of 02 gives each state a bit of its own
abbrev pub unmark : ℕ → ℕ → Message → Message
unmark i u e = cond (is_message i u e) (with_states e 0) e

-- EXISTS announces; EXPUNGE gives the entry free; a FETCH of the flags ends the mark (Store, 3; Written, 13 and 18). Other lines end nothing
abbrev pub effect : Memory → Line → Memory
effect m (exists n) = announce m
effect m (expunge n u) = drop_mails m (is_message m.session.selected u.0)
effect m (fetch n u is) = cond (shows_flags is) (change_mails m (unmark m.session.selected u.0)) m
effect m (status n is) = m
effect m (list k n) = m
effect m (renamed k new old) = m
effect m (found t n v rs) = m
effect m overflow = m
effect m (answer t v r) = m

unfoldable pub effects : Memory → List Line → Memory
effects m [] = m
effects m (l ∷ ls) = effects (effect m l) ls

-- lines are written: their octets go into the queue, and they end what they end
abbrev pub say : Memory → List Line → Memory
say m ls = effects (enqueue m (render_all ls)) ls
