-- How a command is answered: all that it writes, and the session after it (01, Commands, 12, 17, 18 and 20; Matches, 5; Records, 29).
use Rattle.std.specs.Prelude.{List, [], ◌∷◌, ◌++◌, Bool, true, false, not, cond, ◌&&◌, ℕ, ◌-◌, eqb, leb, length}
use Rattle.model.specs.Requests.{Command, notify_none, notify_set, search, Verb, notify, esearch, other_verb}
use Rattle.model.specs.Reading.{Parsed, bad, ok}
use Rattle.model.specs.Commands.{tag_of, command_of}
use Rattle.model.specs.Limits.{limits}
use Rattle.model.specs.Replies.{reply_of}
use Rattle.model.specs.Memory.{Memory, silenced, with_session}
use Rattle.model.specs.Lines.{Line, answer, render_all}
use Rattle.model.specs.Queue.{fits, say}
use Rattle.model.specs.View.{owed}
use Rattle.model.specs.Listing.{listing, watching}
use Rattle.model.specs.Searching.{found_lines}
use Rattle.model.specs.declared.Session.{Session}
use Rattle.model.specs.declared.Reply.{Reply}
use Rattle.model.specs.declared.Reply.TheVariants.{Bad, BadEvent, Unsupported, BadCharset, TooLarge, Accepted}

-- is a mailbox selected
abbrev pub some_selected : Memory → Bool
some_selected m = not (eqb m.session.selected 0)

-- whose answer it is
abbrev pub verb_of : Command → Verb
verb_of notify_none = notify
verb_of (notify_set wanted gs) = notify
verb_of (search q) = esearch

abbrev pub verb : Parsed Command → Verb
verb bad = other_verb
verb (ok p c) = verb_of c

-- what an accepted command writes before its tagged line. NOTIFY SET first writes all that a class 1 end owes, then its listing (Matches, 5 and 6)
abbrev pub work_lines : Memory → List ℕ → Command → List Line
work_lines m tag notify_none = []
work_lines m tag (notify_set wanted gs) = owed m 1 ++ listing m (watching m.session gs) wanted
work_lines m tag (search q) = found_lines m tag q

abbrev pub accepted_lines : Memory → List ℕ → Parsed Command → List Line
accepted_lines m tag bad = []
accepted_lines m tag (ok p c) = work_lines m tag c ++ (answer tag (verb_of c) Accepted ∷ [])

-- the first line that applies: an answer of more than Q - 64 octets is too large (Commands, 17)
abbrev pub is_accepted : Reply → Bool
is_accepted Bad = false
is_accepted BadEvent = false
is_accepted Unsupported = false
is_accepted BadCharset = false
is_accepted TooLarge = false
is_accepted Accepted = true

abbrev pub first_reply : Memory → List ℕ → Reply
first_reply m t = reply_of limits (some_selected m) (command_of t)

abbrev pub within_queue : Memory → List Line → Bool
within_queue m ls = leb (length (render_all ls)) (length m.queue - 64)

abbrev pub reply : Memory → List ℕ → Reply
reply m t = cond (is_accepted (first_reply m t) && not (within_queue m (accepted_lines m (tag_of t) (command_of t)))) TooLarge (first_reply m t)

-- all that the answer writes
unfoldable pub answer_lines : Memory → List ℕ → List Line
answer_lines m t = cond (is_accepted (reply m t)) (accepted_lines m (tag_of t) (command_of t)) (answer (tag_of t) (verb (command_of t)) (reply m t) ∷ [])

-- an accepted NOTIFY alone changes the session's groups (Commands, 20)
abbrev pub session_by : Parsed Command → Session → Session
session_by bad s = s
session_by (ok p notify_none) s = silenced s
session_by (ok p (notify_set wanted gs)) s = watching s gs
session_by (ok p (search q)) s = s

abbrev pub with_asked : Memory → Parsed Command → Memory
with_asked m c = with_session m (session_by c m.session)

unfoldable pub answered : Memory → List ℕ → Memory
answered m t = cond (is_accepted (reply m t)) (with_asked (say m (answer_lines m t)) (command_of t)) (say m (answer_lines m t))

-- 8: the answer does not fit in what is left (Records, 29)
abbrev pub no_room : Memory → List ℕ → Bool
no_room m t = not (fits m (answer_lines m t))
