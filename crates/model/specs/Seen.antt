-- A call as it is seen from outside: the record, whether it was taken, the lines that it wrote, and its setting, which is what memory says of mailboxes,
-- groups, selection and room; and how each setting follows from the one before it by what was seen. Assumes nothing.
use Rattle.std.specs.Prelude.{List, [], ◌∷◌, ◌++◌, Bool, not, cond, ℕ, ◌+◌, ◌-◌, eqb, length, set, drop}
use Rattle.model.specs.Lists.{filterb, anyb}
use Rattle.model.specs.Commands.{command_of}
use Rattle.model.specs.Records.{Record, create, delete, rename, subscribe, grant, arrive, expunge, reflag, select, ended, command, drained, record_of_none, record_of}
use Rattle.model.specs.Memory.{Memory, boxes, filled, with_attributes, with_next, with_name, with_counter, place, the_mailbox, with_mails, with_session, with_view, silenced}
use Rattle.model.specs.Lines.{Line, render_all}
use Rattle.model.specs.Events.{new_box, with_subscribed, with_rights}
use Rattle.model.specs.Answers.{number_of}
use Rattle.model.specs.Answering.{session_by}
use Rattle.model.specs.Call.{call}
use Rattle.model.specs.Hidden.{Octets}
use Rattle.model.specs.declared.Mailbox.{Mailbox}
use Rattle.model.specs.declared.Session.{Session}
use Rattle.model.specs.Fates.{change, selects, ends, asks, drains, no_act, act, drained_by, is_overflow, says_ok}

-- ---- a call
-- memory with neither messages nor marks nor the number `told`: the account sees no more of it, and so cannot lean on them
abbrev pub apparent : Memory → Memory
apparent m = with_session (with_mails m []) (with_view m.session m.session.selected 0)

-- the memory around it, the record, whether it was taken, its lines
pub record Seen : Type 0 where
  pub around : Memory
  pub said : Record
  pub taken : Bool
  pub lines : List Line

-- a call is taken if it is not refused
abbrev pub seen : Memory → Octets → Seen
seen m o = record { around = apparent m; said = record_of o; taken = eqb (number_of (call m o).answer) 0; lines = (call m o).lines }

-- the calls of a stream, each on the memory that the one before it left (Duties, 10), and the memory after the last
abbrev pub history : Memory → List Octets → List Seen
history m [] = []
history m (o ∷ os) = seen m o ∷ history (call m o).after os

abbrev pub final : Memory → List Octets → Memory
final m [] = m
final m (o ∷ os) = final (call m o).after os

-- ---- its setting
pub record Setting : Type 0 where
  pub boxes : List Mailbox
  pub session : Session
  pub filled : ℕ

-- the mailboxes, the session without the view's number, and F
abbrev pub setting_of : Memory → Setting
setting_of m = record { boxes = boxes m; session = with_view m.session m.session.selected 0; filled = filled m }

-- the row of mailbox i becomes another
abbrev pub put_row : List Mailbox → ℕ → Mailbox → List Mailbox
put_row l i x = set l (place i l) x

-- the mailboxes after a record (Records, 5 to 11): a new one stands last; a message lifts UIDNEXT (Written, 3); a message's record gives its counter (02, 1)
abbrev pub boxes_by : List Mailbox → Record → List Mailbox
boxes_by l (create i a q v c n) = l ++ (new_box i a v c n ∷ [])
boxes_by l (delete i q) = filterb (λ (x : Mailbox). not (eqb x.id i)) l
boxes_by l (rename i q n) = put_row l i (with_name (the_mailbox i l) n)
boxes_by l (subscribe i b q) = put_row l i (with_attributes (the_mailbox i l) (with_subscribed (the_mailbox i l).attributes b))
boxes_by l (grant i r) = put_row l i (with_rights (the_mailbox i l) r)
boxes_by l (arrive i u f z c) = put_row l i (with_next (with_counter (the_mailbox i l) c) (u + 1))
boxes_by l (expunge i u c) = put_row l i (with_counter (the_mailbox i l) c)
boxes_by l (reflag i u f c) = put_row l i (with_counter (the_mailbox i l) c)
boxes_by l (select i) = l
boxes_by l (ended c) = l
boxes_by l (command t) = l
boxes_by l (drained n) = l
boxes_by l record_of_none = l

-- an overflow line takes the groups away (Written, 22)
abbrev pub hushed_by : Session → List Line → Session
hushed_by s ls = cond (anyb is_overflow ls) (silenced s) s

-- the session after a call: a change that overflows ends the groups, `SE` selects (Records, 15), an accepted NOTIFY sets the groups (Commands, 20)
abbrev pub session_after : Session → Record → List Line → Session
session_after s r ls = elim (act r) [
  | change x ↦ hushed_by s ls
  | selects i ↦ with_view s i 0
  | ends c ↦ s
  | asks t ↦ cond (anyb says_ok ls) (session_by (command_of t) s) s
  | drains n ↦ s
  | no_act ↦ s
]

-- F after a call: what is drained is taken off, the octets of the lines are added
abbrev pub filled_by : ℕ → Record → List Line → ℕ
filled_by f r ls = f - drained_by r + length (render_all ls)

-- a refused call leaves its setting as it was (Records, 31)
abbrev pub setting_by : Setting → Seen → Setting
setting_by x s = cond s.taken
    (record {
      boxes = boxes_by x.boxes s.said;
      session = session_after x.session s.said s.lines;
      filled = filled_by x.filled s.said s.lines;
    })
    x

-- what the queue holds after a call: drained octets leave the front, the octets of the lines come behind the others (Records, 18)
abbrev pub held_by : List ℕ → Record → List Line → List ℕ
held_by h r ls = drop (drained_by r) h ++ render_all ls
