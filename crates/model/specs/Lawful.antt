-- Refusal 1: which memory is lawful (01, Records, 22; 02, 1). What lies behind a count is never judged.
-- The upper end of a field that is as wide in memory as in a record needs no test.
use Rattle.std.specs.Prelude.{List, [], ◌∷◌, Bool, true, not, cond, ◌&&◌, ◌||◌, ℕ, ◌+◌, ◌-◌, eqb, leb, ltb, length, take, drop}
use Rattle.model.specs.Lists.{allb, apart, every, same}
use Rattle.model.specs.Names.{valid, fold}
use Rattle.model.specs.Memory.{Memory, boxes, mails, filled, name_of, known, the_mailbox, counter_of, uid_of, in_mailbox}
use Rattle.model.specs.Groups.{group_of, groups_of, lent_name, is_selecting, asks_new, asks_expunge, asks_flags, asks_name, asks_subscription}
use Rattle.model.specs.declared.Mailbox.{Mailbox}
use Rattle.model.specs.declared.Message.{Message}
use Rattle.model.specs.declared.Group.{Group}
use Rattle.model.specs.declared.LentGroup.{LentGroup}
use Rattle.model.specs.declared.LentName.{LentName}
use Rattle.model.specs.declared.Session.{Session}

-- ---- the queue has 1,024 to 65,536 octets; no more of them are filled than there are, and with a group standing 64 are left
abbrev pub queue_ok : ℕ → Bool
queue_ok q = leb 1024 q && leb q 65536

abbrev pub filled_ok : ℕ → ℕ → Session → Bool
filled_ok q f s = leb f q && (eqb s.groupcount 0 || leb f (q - 64))

-- ---- a change counter is 1 to 2^63 - 1 (02, 1)
abbrev pub counter_ok : ℕ → Bool
counter_ok c = leb 1 c && leb c 9223372036854775807

-- ---- a mailbox's fields. Its name is valid and folded, and the octets behind it are zero
abbrev pub zeros : List ℕ → Bool
zeros l = allb (eqb 0) l

abbrev pub mailbox_ok : Mailbox → Bool
mailbox_ok x = every (
    leb 1 x.id
    ∷ leb x.attributes 63
    ∷ leb 1 x.uidvalidity
    ∷ leb 1 x.uidnext
    ∷ counter_ok (counter_of x)
    ∷ leb x.namelen 64
    ∷ valid (name_of x)
    ∷ same (fold (name_of x)) (name_of x)
    ∷ zeros (drop x.namelen x.name)
    ∷ []
    )

-- two mailboxes share an id or a name
abbrev pub clash : Mailbox → Mailbox → Bool
clash x y = eqb x.id y.id || same (name_of x) (name_of y)

-- ---- a message's fields; it is expunged or marked, or neither
abbrev pub message_ok : Message → Bool
message_ok e = every (
    leb 1 (uid_of e)
    ∷ leb e.flags 31
    ∷ leb e.size 4294967295
    ∷ leb e.states 2
    ∷ counter_ok e.counter
    ∷ []
    )

-- two messages share a mailbox and a UID
abbrev pub twin : Message → Message → Bool
twin d e = eqb d.mailbox e.mailbox && eqb (uid_of d) (uid_of e)

-- its mailbox is known, its UID below the mailbox's UIDNEXT, its counter not above the mailbox's
abbrev pub owned : List Mailbox → Message → Bool
owned l e =
    let x = the_mailbox e.mailbox l in
    known e.mailbox l && (ltb (uid_of e) x.uidnext && leb e.counter (counter_of x))

-- ---- the view: nothing where none is selected, else at most all; what is expunged or marked lies in it
abbrev pub view_ok : List Mailbox → Session → Bool
view_ok l s = cond (eqb s.selected 0) (eqb s.told 0) (known s.selected l && leb s.told (the_mailbox s.selected l).uidnext)

abbrev pub state_ok : Session → Message → Bool
state_ok s e = eqb e.states 0 || (in_mailbox s.selected e && ltb (uid_of e) s.told)

-- ---- a group that an accepted NOTIFY could have made
-- MessageNew and MessageExpunge come together, FlagChange with both; a selected group asks for nothing else
abbrev pub events_ok : Group → Bool
events_ok g = every (
    leb g.events 31
    ∷ cond (asks_new g) (asks_expunge g) (not (asks_expunge g))
    ∷ (not (asks_flags g) || asks_new g)
    ∷ (not (is_selecting g.selector) || (not (asks_name g) && not (asks_subscription g)))
    ∷ []
    )

-- attributes stand with MessageNew in a selected group alone
abbrev pub attributes_ok : Group → Bool
attributes_ok g = leb g.attributes 7 && (eqb g.attributes 0 || (is_selecting g.selector && asks_new g))

-- its names, one or more, follow those of the groups before it; without names the range is zero
abbrev pub range_ok : ℕ → LentGroup → Bool
range_ok first g =
    cond (ltb g.selector 5)
    (eqb g.first 0 && eqb g.count 0)
    (eqb g.first first && leb 1 g.count)

abbrev pub group_ok : ℕ → LentGroup → Bool
group_ok first g = leb g.selector 6 && (range_ok first g && (events_ok (group_of g) && attributes_ok (group_of g)))

abbrev pub groups_ok : ℕ → List LentGroup → Bool
groups_ok first [] = true
groups_ok first (g ∷ gs) = group_ok first g && groups_ok (first + g.count) gs

-- how many names the groups have
abbrev pub lent_name_count : List LentGroup → ℕ
lent_name_count [] = 0
lent_name_count (g ∷ gs) = g.count + lent_name_count gs

-- a name that a command gave: valid and folded, or empty; the octets behind it are zero
abbrev pub lent_name_ok : LentName → Bool
lent_name_ok n = leb n.len 64 && ((eqb n.len 0 || (valid (lent_name n) && same (fold (lent_name n)) (lent_name n))) && zeros (drop n.len n.octets))

-- groups and names that are not in use are zero
abbrev pub blank_group : LentGroup → Bool
blank_group g = every (eqb g.selector 0 ∷ eqb g.first 0 ∷ eqb g.count 0 ∷ eqb g.events 0 ∷ eqb g.attributes 0 ∷ [])

abbrev pub blank_name : LentName → Bool
blank_name n = eqb n.len 0 && zeros n.octets

-- at most one group is a selected one
abbrev pub both_selecting : Group → Group → Bool
both_selecting g h = is_selecting g.selector && is_selecting h.selector

abbrev pub used_groups : Session → List LentGroup
used_groups s = take s.groupcount s.groups

abbrev pub session_ok : Session → Bool
session_ok s = every (
    leb s.notified 1
    ∷ leb s.groupcount 8
    ∷ (eqb s.groupcount 0 || eqb s.notified 1)
    ∷ groups_ok 0 (used_groups s)
    ∷ apart both_selecting (groups_of s)
    ∷ leb (lent_name_count (used_groups s)) 16
    ∷ allb lent_name_ok (take (lent_name_count (used_groups s)) s.names)
    ∷ allb blank_group (drop s.groupcount s.groups)
    ∷ allb blank_name (drop (lent_name_count (used_groups s)) s.names)
    ∷ []
    )

-- ---- all of it, in the order of the table's row
abbrev pub sizes_ok : Memory → List Bool
sizes_ok m =
    queue_ok (length m.queue)
    ∷ filled_ok (length m.queue) (filled m) m.session
    ∷ leb (length m.rows) 64
    ∷ leb m.counts.mailboxes (length m.rows)
    ∷ leb (length m.entries) 1024
    ∷ leb m.counts.messages (length m.entries)
    ∷ []

abbrev pub contents_ok : List Mailbox → List Message → Session → List Bool
contents_ok l es s =
    allb mailbox_ok l
    ∷ allb message_ok es
    ∷ session_ok s
    ∷ apart clash l
    ∷ apart twin es
    ∷ allb (owned l) es
    ∷ view_ok l s
    ∷ allb (state_ok s) es
    ∷ []

unfoldable pub lawful : Memory → Bool
lawful m = every (sizes_ok m) && every (contents_ok (boxes m) (mails m) m.session)
