-- What the host lends, and how it is read and altered (01, Store, 1 to 4).
use Rattle.std.specs.Prelude.{List, [], ◌∷◌, ◌++◌, map, Bool, not, cond, ◌&&◌, ℕ, suc, ◌+◌, ◌*◌, ◌-◌, ◌/◌, ◌%◌, max, eqb, leb, ltb, length, get_or, set, drop, take, replicate}
use Rattle.model.specs.Lists.{filterb, sorted}
use Rattle.model.specs.Names.{Name}
use Rattle.model.specs.Text.{bit}
use Rattle.model.specs.declared.Mailbox.{Mailbox}
use Rattle.model.specs.declared.Message.{Message}
use Rattle.model.specs.declared.Counts.{Counts}
use Rattle.model.specs.declared.LentGroup.{LentGroup}
use Rattle.model.specs.declared.LentName.{LentName}
use Rattle.model.specs.declared.Session.{Session}

-- all that is lent (Store, 1 and 2): the two tables in their whole length, how much of each is used, the session, all Q octets of the queue
pub record Memory : Type 0 where
  pub rows : List Mailbox
  pub entries : List Message
  pub counts : Counts
  pub session : Session
  pub queue : List ℕ

-- the mailboxes, and the messages: the rows and the entries in use, in the order in which they came
abbrev pub boxes : Memory → List Mailbox
boxes m = take m.counts.mailboxes m.rows

abbrev pub mails : Memory → List Message
mails m = take m.counts.messages m.entries

-- F, and what the queue holds
abbrev pub filled : Memory → ℕ
filled m = m.counts.filled

abbrev pub held : Memory → List ℕ
held m = take (filled m) m.queue

-- a row and an entry that were freed hold nothing but zeros
abbrev pub no_mailbox : Mailbox
no_mailbox = record { id = 0; attributes = 0; namelen = 0; uidvalidity = 0; uidnext = 0; counterlow = 0; counterhigh = 0; name = replicate 64 0 }

abbrev pub no_message : Message
no_message = record { mailbox = 0; uid = record { 0 = 0 }; flags = 0; size = 0; states = 0; counter = 0 }

-- ---- a mailbox
abbrev pub name_of : Mailbox → Name
name_of x = take x.namelen x.name

-- the bits of its attributes (Records, 6), of the octet and of the mailbox
abbrev pub selectable_bit : ℕ → Bool
selectable_bit a = bit 0 a

abbrev pub personal_bit : ℕ → Bool
personal_bit a = bit 1 a

abbrev pub delivery_bit : ℕ → Bool
delivery_bit a = bit 2 a

abbrev pub subscribed_bit : ℕ → Bool
subscribed_bit a = bit 3 a

abbrev pub selectable : Mailbox → Bool
selectable x = selectable_bit x.attributes

abbrev pub subscribed : Mailbox → Bool
subscribed x = subscribed_bit x.attributes

abbrev pub may_list : Mailbox → Bool
may_list x = bit 4 x.attributes

abbrev pub may_read : Mailbox → Bool
may_read x = bit 5 x.attributes

-- both rights, which every notice needs (Written, 1): a parent's needs them on the mailbox beneath it (02, 2)
abbrev pub both_rights : Mailbox → Bool
both_rights x = may_list x && may_read x

abbrev pub with_attributes : Mailbox → ℕ → Mailbox
with_attributes x a = record { id = x.id; attributes = a; namelen = x.namelen; uidvalidity = x.uidvalidity; uidnext = x.uidnext; counterlow = x.counterlow; counterhigh = x.counterhigh; name = x.name }

abbrev pub with_next : Mailbox → ℕ → Mailbox
with_next x u = record { id = x.id; attributes = x.attributes; namelen = x.namelen; uidvalidity = x.uidvalidity; uidnext = u; counterlow = x.counterlow; counterhigh = x.counterhigh; name = x.name }

-- its change counter, which the row has in two halves of 32 bits (02, 1)
abbrev pub counter_of : Mailbox → ℕ
counter_of x = x.counterlow + 4294967296 * x.counterhigh

abbrev pub with_counter : Mailbox → ℕ → Mailbox
with_counter x c = record { id = x.id; attributes = x.attributes; namelen = x.namelen; uidvalidity = x.uidvalidity; uidnext = x.uidnext; counterlow = c % 4294967296; counterhigh = c / 4294967296; name = x.name }

-- a name fills the front of its 64 octets; the rest is zero
abbrev pub stored : Name → List ℕ
stored n = n ++ replicate (64 - length n) 0

abbrev pub with_name : Mailbox → Name → Mailbox
with_name x n = record { id = x.id; attributes = x.attributes; namelen = length n; uidvalidity = x.uidvalidity; uidnext = x.uidnext; counterlow = x.counterlow; counterhigh = x.counterhigh; name = stored n }

-- ---- finding a mailbox: the place of the first with id i, or as many as there are
unfoldable pub place : ℕ → List Mailbox → ℕ
place i [] = 0
place i (x ∷ l) = let rest = place i l in cond (eqb x.id i) 0 (suc rest)

abbrev pub known : ℕ → List Mailbox → Bool
known i l = ltb (place i l) (length l)

abbrev pub the_mailbox : ℕ → List Mailbox → Mailbox
the_mailbox i l = get_or l (place i l) no_mailbox

-- the selected mailbox; none has id 0, and no rights
abbrev pub selected_box : Memory → Mailbox
selected_box m = the_mailbox m.session.selected (boxes m)

abbrev pub is_selected : Memory → ℕ → Bool
is_selected m i = not (eqb i 0) && eqb i m.session.selected

-- ---- a message: two bits of states
abbrev pub uid_of : Message → ℕ
uid_of e = e.uid.0

-- expunged, and kept because the client's view holds it (Store, 3)
abbrev pub expunged : Message → Bool
expunged e = bit 0 e.states

-- marked: its flags changed and wait (Written, 18)
abbrev pub marked : Message → Bool
marked e = bit 1 e.states

-- other flags, by a change with the counter c, which is the message's own from then on (02, 1)
abbrev pub with_flags : Message → ℕ → ℕ → Message
with_flags e f c = record { mailbox = e.mailbox; uid = e.uid; flags = f; size = e.size; states = e.states; counter = c }

abbrev pub with_states : Message → ℕ → Message
with_states e s = record { mailbox = e.mailbox; uid = e.uid; flags = e.flags; size = e.size; states = s; counter = e.counter }

-- is it message u of mailbox i
abbrev pub is_message : ℕ → ℕ → Message → Bool
is_message i u e = eqb e.mailbox i && eqb (uid_of e) u

-- the entries of mailbox i, by UID
abbrev pub in_mailbox : ℕ → Message → Bool
in_mailbox i e = eqb e.mailbox i

abbrev pub by_uid : Message → Message → Bool
by_uid d e = leb (uid_of d) (uid_of e)

abbrev pub messages_of : ℕ → List Message → List Message
messages_of i l = sorted by_uid (filterb (in_mailbox i) l)

-- those of them that exist: an expunged one is there for the client's view alone
abbrev pub existing : ℕ → List Message → List Message
existing i l = filterb (λ (e : Message). not (expunged e)) (messages_of i l)

-- ---- altering. A table's used part becomes l: what was freed is zero, and what lies behind stays (Store, 4)
module _ {A : Type 0} where
  abbrev pub refill : A → List A → ℕ → List A → List A
  refill zeros table used l = l ++ (replicate (used - length l) zeros ++ drop (max used (length l)) table)

abbrev pub with_boxes : Memory → List Mailbox → Memory
with_boxes m l = record {
  rows = refill no_mailbox m.rows (length (boxes m)) l;
  entries = m.entries;
  counts = record { mailboxes = length l; messages = m.counts.messages; filled = m.counts.filled };
  session = m.session;
  queue = m.queue;
}

abbrev pub with_mails : Memory → List Message → Memory
with_mails m l = record {
  rows = m.rows;
  entries = refill no_message m.entries (length (mails m)) l;
  counts = record { mailboxes = m.counts.mailboxes; messages = length l; filled = m.counts.filled };
  session = m.session;
  queue = m.queue;
}

abbrev pub with_session : Memory → Session → Memory
with_session m s = record { rows = m.rows; entries = m.entries; counts = m.counts; session = s; queue = m.queue }

-- the six writes of the tables
abbrev pub put_box : Memory → ℕ → Mailbox → Memory
put_box m i x = with_boxes m (set (boxes m) (place i (boxes m)) x)

abbrev pub add_box : Memory → Mailbox → Memory
add_box m x = with_boxes m (boxes m ++ (x ∷ []))

abbrev pub drop_box : Memory → ℕ → Memory
drop_box m i = with_boxes m (filterb (λ (x : Mailbox). not (eqb x.id i)) (boxes m))

abbrev pub add_mail : Memory → Message → Memory
add_mail m e = with_mails m (mails m ++ (e ∷ []))

abbrev pub drop_mails : Memory → (Message → Bool) → Memory
drop_mails m gone = with_mails m (filterb (λ (e : Message). not (gone e)) (mails m))

abbrev pub change_mails : Memory → (Message → Message) → Memory
change_mails m f = with_mails m (map f (mails m))

-- ---- the session
abbrev pub no_group : LentGroup
no_group = record { selector = 0; first = 0; count = 0; events = 0; attributes = 0 }

abbrev pub no_name : LentName
no_name = record { len = 0; octets = replicate 64 0 }

-- as after NOTIFY NONE: a NOTIFY was given, and no group stands (Commands, 20; Written, 22)
abbrev pub silenced : Session → Session
silenced s = record { selected = s.selected; notified = 1; groupcount = 0; told = s.told; groups = replicate 8 no_group; names = replicate 16 no_name }

abbrev pub with_view : Session → ℕ → ℕ → Session
with_view s i u = record { selected = i; notified = s.notified; groupcount = s.groupcount; told = u; groups = s.groups; names = s.names }
