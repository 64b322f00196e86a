-- The words of the account: what can wait, why nothing is owed, what can become of a change; what a line and a record say to it. Assumes nothing.
-- Places of 01 are named by a short word for the section and the number of the sentence there: (Written, 16).
use Rattle.std.specs.Prelude.{List, Bool, true, false, not, ◌&&◌, ℕ, eqb}
use Rattle.model.specs.Lists.{anyb}
use Rattle.model.specs.Requests.{Command, notify_none, notify_set, search}
use Rattle.model.specs.Reading.{Parsed, bad, ok}
use Rattle.model.specs.Records.{Record, create, delete, rename, subscribe, grant, arrive, expunge, reflag, select, ended, command, drained, record_of_none}
use Rattle.model.specs.Memory.{Memory, is_selected}
use Rattle.model.specs.Lines.{Line, StatusItem, messages, next, validity, highest, status, list, renamed, exists, expunge as expunge_line, fetch, found, overflow, answer, ListMark, plain, noselect, non_existent, no_access, subscribed}
use Rattle.model.specs.Queue.{shows_flags}
use Rattle.model.specs.Events.{message}
use Rattle.model.specs.Answering.{is_accepted}
use Rattle.model.specs.declared.Message.{Message}

-- ---- what can become of a change
-- what waits, by the UID of its message, which is one of the selected mailbox: a new message, an expunge, changed flags (Written, 16 to 19)
pub data Debt : Type 0 where
  arrival removal marking : ℕ → Debt

-- the lowest class of command end that can release it: an EXPUNGE waits for class 1 (Written, 20)
abbrev pub lowest_class : Debt → ℕ
lowest_class (arrival u) = 0
lowest_class (removal u) = 1
lowest_class (marking u) = 0

-- the rules by which nothing is owed; of several the first in this order is named
--   quiet: the host asks for no notice (Records, 4)
--   no_event: no mailbox, message, subscription or right l changes (Written, 6 and 9)
--   right_missing: l or r is not held (Written, 1 and 19)
--   unmet, unasked: no group meets the mailbox; one does, and none that does asks for the event (Matches, 3 and 4; Written, 17)
--   not_announced: the client was not told of the message (Written, 10 and 14)
pub data Why : Type 0 where
  quiet no_event right_missing unmet unasked not_announced : Why

-- the rules by which what waits is dropped: `SE` (Written, 12); the message was expunged first (Written, 14 and 18)
pub data Ending : Type 0 where
  reselected expunged_first : Ending

-- the fate of a call's change; n is the place in the stream, from 1, of the call that told or dropped it. A refused call changes nothing (Records, 31).
-- What is owed at once and finds no room is lost, unless it then waits (Written, 22). `silent` must never be: owed, not written, no overflow line
pub data Fate : Type 0 where
  refused : Fate
  unowed : Why → Fate
  reported : (n : ℕ) → Fate
  waits : Debt → Fate
  dropped : Ending → (n : ℕ) → Fate
  lost : Fate
  silent : Fate

-- ---- tests of fates
-- two debts are the same: of one kind, and of one message
abbrev pub same_debt : Debt → Debt → Bool
same_debt (arrival u) d = elim d [ arrival v ↦ eqb u v | removal v ↦ false | marking v ↦ false ]
same_debt (removal u) d = elim d [ arrival v ↦ false | removal v ↦ eqb u v | marking v ↦ false ]
same_debt (marking u) d = elim d [ arrival v ↦ false | removal v ↦ false | marking v ↦ eqb u v ]

-- by the debt of a fate that waits, or else: all other fates are final
module _ {A : Type 0} where
  abbrev pub if_waits : (Debt → A) → A → Fate → A
  if_waits f else refused = else
  if_waits f else (unowed y) = else
  if_waits f else (reported n) = else
  if_waits f else (waits d) = f d
  if_waits f else (dropped y n) = else
  if_waits f else lost = else
  if_waits f else silent = else

-- it waits for this debt; it waits
abbrev pub waits_for : Debt → Fate → Bool
waits_for d f = if_waits (same_debt d) false f

abbrev pub waits_still : Fate → Bool
waits_still f = if_waits (λ (d : Debt). true) false f

-- it was passed over; it was lost
abbrev pub is_silent : Fate → Bool
is_silent f = elim f [ silent ↦ true | refused ↦ false | unowed y ↦ false | reported n ↦ false | waits d ↦ false | dropped y n ↦ false | lost ↦ false ]

abbrev pub is_lost : Fate → Bool
is_lost f = elim f [ lost ↦ true | refused ↦ false | unowed y ↦ false | reported n ↦ false | waits d ↦ false | dropped y n ↦ false | silent ↦ false ]

-- ---- what a line says
-- to the account: EXISTS announces; EXPUNGE removes message u; FETCH is of message u, with its flags or without; the overflow line stops all notices;
-- a tagged line says OK or not; another is a notice or not
pub data Saying : Type 0 where
  announces : Saying
  removes : (u : ℕ) → Saying
  fetches : (u : ℕ) (with_flags : Bool) → Saying
  stops : Saying
  answers : (says_ok : Bool) → Saying
  other : (is_notice : Bool) → Saying

-- only the listing of a NOTIFY SET has \NoAccess (Matches, 6)
abbrev pub lists_access : ListMark → Bool
lists_access k = elim k [ plain ↦ true | noselect ↦ true | non_existent ↦ true | no_access ↦ false | subscribed ↦ true ]

-- of the lists of a STATUS that of NOTIFY SET alone has both MESSAGES and UIDVALIDITY (Matches, 6)
abbrev pub is_messages : StatusItem → Bool
is_messages i = elim i [ messages k ↦ true | next u ↦ false | validity v ↦ false | highest h ↦ false ]

abbrev pub is_validity : StatusItem → Bool
is_validity i = elim i [ messages k ↦ false | next u ↦ false | validity v ↦ true | highest h ↦ false ]

abbrev pub lists_all : List StatusItem → Bool
lists_all is = anyb is_messages is && anyb is_validity is

-- no notices of changes are the listing of NOTIFY SET (Matches, 6), search results (Matches, 10) and tagged lines (Commands, 12)
abbrev pub saying : Line → Saying
saying (status n is) = other (not (lists_all is))
saying (list k n) = other (lists_access k)
saying (renamed k new old) = other true
saying (exists n) = announces
saying (expunge_line n u) = removes u.0
saying (fetch n u is) = fetches u.0 (shows_flags is)
saying (found t n v rs) = other false
saying overflow = stops
saying (answer t v r) = answers (is_accepted r)

-- it is an EXISTS; the EXPUNGE of message v; a FETCH of the flags of message v; the overflow line
abbrev pub is_exists : Line → Bool
is_exists l = elim (saying l) [ announces ↦ true | removes u ↦ false | fetches u b ↦ false | stops ↦ false | answers b ↦ false | other b ↦ false ]

abbrev pub is_removal : ℕ → Line → Bool
is_removal v l = elim (saying l) [ announces ↦ false | removes u ↦ eqb v u | fetches u b ↦ false | stops ↦ false | answers b ↦ false | other b ↦ false ]

abbrev pub is_marking : ℕ → Line → Bool
is_marking v l = elim (saying l) [ announces ↦ false | removes u ↦ false | fetches u b ↦ eqb v u && b | stops ↦ false | answers b ↦ false | other b ↦ false ]

abbrev pub is_overflow : Line → Bool
is_overflow l = elim (saying l) [ announces ↦ false | removes u ↦ false | fetches u b ↦ false | stops ↦ true | answers b ↦ false | other b ↦ false ]

-- a tagged OK; a notice
abbrev pub says_ok : Line → Bool
says_ok l = elim (saying l) [ announces ↦ false | removes u ↦ false | fetches u b ↦ false | stops ↦ false | answers b ↦ b | other b ↦ false ]

abbrev pub is_notice : Line → Bool
is_notice l = elim (saying l) [ announces ↦ true | removes u ↦ true | fetches u b ↦ true | stops ↦ true | answers b ↦ false | other b ↦ b ]

-- lines tell what waits: an EXISTS every arrival (Written, 13), an EXPUNGE the removal of its message, a FETCH of its flags the marking (Written, 18)
abbrev pub tells : List Line → Debt → Bool
tells ls (arrival u) = anyb is_exists ls
tells ls (removal u) = anyb (is_removal u) ls
tells ls (marking u) = anyb (is_marking u) ls

-- ---- what a record does
-- to messages, where it changes a mailbox or a message: nothing; it takes a mailbox's away, adds one, expunges one, sets the flags of one
pub data Change : Type 0 where
  of_mailbox : Change
  deletes : (i : ℕ) → Change
  adds : Message → Change
  expunges : (i u : ℕ) → Change
  reflags : (i u f c : ℕ) → Change

-- to the account: a change; a mailbox is selected; a command of class c ended; a command; octets are drained; no record, which is never taken
pub data Act : Type 0 where
  change : Change → Act
  selects : (i : ℕ) → Act
  ends : (c : ℕ) → Act
  asks : List ℕ → Act
  drains : (n : ℕ) → Act
  no_act : Act

-- the twelve kinds (Records, 5 to 18)
abbrev pub act : Record → Act
act (create i b q v c n) = change of_mailbox
act (delete i q) = change (deletes i)
act (rename i q n) = change of_mailbox
act (subscribe i b q) = change of_mailbox
act (grant i r) = change of_mailbox
act (arrive i u f z c) = change (adds (message i u f z c))
act (expunge i u c) = change (expunges i u)
act (reflag i u f c) = change (reflags i u f c)
act (select i) = selects i
act (ended c) = ends c
act (command t) = asks t
act (drained n) = drains n
act record_of_none = no_act

-- `SE` drops all that waits (Written, 12)
abbrev pub reselects : Record → Bool
reselects r = elim (act r) [ change x ↦ false | selects i ↦ true | ends c ↦ false | asks t ↦ false | drains n ↦ false | no_act ↦ false ]

-- how many octets leave the queue's front (Records, 18)
abbrev pub drained_by : Record → ℕ
drained_by r = elim (act r) [ change x ↦ 0 | selects i ↦ 0 | ends c ↦ 0 | asks t ↦ 0 | drains n ↦ n | no_act ↦ 0 ]

-- the expunge of message u drops its arrival (Written, 14) and its marking (Written, 18)
abbrev pub goes_with : (u : ℕ) → Debt → Bool
goes_with u d = elim d [ arrival v ↦ eqb u v | removal v ↦ false | marking v ↦ eqb u v ]

-- so does `XP` of a message of the selected mailbox
abbrev pub expunges_one : Memory → Change → Debt → Bool
expunges_one w x d = elim x [ of_mailbox ↦ false | deletes i ↦ false | adds e ↦ false | expunges i u ↦ is_selected w i && goes_with u d | reflags i u f c ↦ false ]

abbrev pub expunges_first : Memory → Record → Debt → Bool
expunges_first w r d = elim (act r) [ change x ↦ expunges_one w x d | selects i ↦ false | ends c ↦ false | asks t ↦ false | drains n ↦ false | no_act ↦ false ]

-- a NOTIFY SET, if it is accepted (Commands, 5 and 20)
abbrev pub sets_groups : Parsed Command → Bool
sets_groups bad = false
sets_groups (ok p notify_none) = false
sets_groups (ok p (notify_set b gs)) = true
sets_groups (ok p (search q)) = false
