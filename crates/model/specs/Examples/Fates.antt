-- A change of each fate and by each rule, by computation (01, What is written, 1 to 22).
use Rattle.std.specs.Prelude.{◌≡◌, refl, List, [], ◌∷◌, ◌++◌, Bool, true, cond, ◌&&◌, replicate}
use Rattle.model.specs.Lists.{same}
use Rattle.model.specs.Lines.{render_all}
use Rattle.model.specs.Hidden.{Octets}
use Rattle.model.specs.Pushrun.{start}
use Rattle.model.specs.Examples.Stream.{mb, dl, rn, sb, rt, me, xp, fl, se, ce, cm, dr, computed}
use Rattle.model.specs.Fates.{arrival, removal, marking, quiet, no_event, right_missing, unmet, unasked, not_announced, reselected, expunged_first, Fate, refused, unowed, reported, waits, dropped, lost}
use Rattle.model.specs.Tally.{tally, tallied}
use Rattle.model.specs.Seen.{Seen, history}
use Rattle.model.specs.Due.{Account, opened, waiting, due, removal_lines, marking_lines}
use Rattle.model.specs.Account.{owed_now, notices, entered, account_of}

-- all that the account computes with
unfoldable pub accounted : Unit {0}
unfolding computed waiting due removal_lines marking_lines owed_now entered
accounted = tt

-- mailbox 1 with messages 1 and 2, selected; Q is 1,024
abbrev pub opening : List Octets
opening = mb 1 0x33 1 7 1 "INBOX" ∷ me 1 1 0 10 2 ∷ me 1 2 8 20 3 ∷ se 1 ∷ []

abbrev pub opening_fates : List Fate
opening_fates = unowed quiet ∷ unowed unmet ∷ unowed unmet ∷ unowed no_event ∷ []

-- what became of each call after these, the first of them being the fifth of the stream
abbrev pub Became : List Octets → List Fate → Type 0
Became os fs = (account_of (start 1024 4 8) (opening ++ os)).fates ≡ opening_fates ++ fs

-- each call of a stream wrote, in octets, the notices that the account owed before it
abbrev pub exactly : Account → Seen → Bool
exactly a s = same (render_all (notices s.lines)) (render_all (cond s.taken (owed_now s.around a s.said s.lines) []))

abbrev pub all_exact : Account → List Seen → Bool
all_exact a [] = true
all_exact a (s ∷ ss) = exactly a s && all_exact (entered a s) ss

abbrev pub Written : List Octets → Type 0
Written os = all_exact opened (history (start 1024 4 8) (opening ++ os)) ≡ true

-- ---- nothing is owed
pub refusing : Became (dl 9 0 ∷ xp 1 9 4 ∷ []) (refused ∷ refused ∷ [])
unfolding accounted
refusing = refl

-- the host asks for no notice
pub quietly : Became
    (cm "n NOTIFY SET (personal (MailboxName SubscriptionChange))" ∷ mb 2 0x33 1 1 1 "b" ∷ sb 2 1 1 ∷ rn 2 1 "c" ∷ dl 2 1 ∷ [])
    (unowed no_event ∷ unowed quiet ∷ unowed quiet ∷ unowed quiet ∷ unowed quiet ∷ [])
unfolding accounted
quietly = refl

-- a subscription and a right l that stay as they were; `CE`, `DR` and `SE`
pub without-event : Became
    (sb 1 0 0 ∷ rt 1 0x10 ∷ rt 1 0x30 ∷ ce 1 ∷ dr 0 ∷ se 1 ∷ [])
    (replicate 6 (unowed no_event))
unfolding accounted
without-event = refl

-- a create, a delete and a rename of what may not be listed; flags without r
pub without-right : Became
    (cm "n NOTIFY SET (selected (MessageNew MessageExpunge FlagChange)) (personal (MailboxName))"
    ∷ mb 2 0x23 0 1 1 "b" ∷ rn 2 0 "c" ∷ dl 2 0 ∷ rt 1 0x10 ∷ fl 1 1 1 4 ∷ [])
    (unowed no_event ∷ unowed right_missing ∷ unowed right_missing ∷ unowed right_missing ∷ unowed no_event ∷ unowed right_missing ∷ [])
unfolding accounted
without-right = refl

-- the only group is about another mailbox; of messages in the selected one only a selected group may ask
pub without-group : Became
    (cm "n NOTIFY SET (mailboxes (a INBOX) (MessageNew MessageExpunge FlagChange MailboxName))" ∷ mb 2 0x33 0 1 1 "b" ∷ me 2 1 0 0 2 ∷ fl 1 1 1 4 ∷ [])
    (unowed no_event ∷ unowed unmet ∷ unowed unmet ∷ unowed unmet ∷ [])
unfolding accounted
without-group = refl

-- a group is about the mailbox, and asks for other events
pub without_asking : Became
    (cm "n NOTIFY SET (selected (MessageNew MessageExpunge)) (personal (MessageNew MessageExpunge))" ∷ sb 1 1 0 ∷ mb 2 0x33 0 1 1 "b" ∷ fl 1 1 1 4 ∷ [])
    (unowed no_event ∷ unowed unasked ∷ unowed unasked ∷ unowed unasked ∷ [])
unfolding accounted
without_asking = refl

-- message 3 came while l was missing: its new flags and its expunge are not told
pub before_announcement : Became
    (rt 1 0x20 ∷ cm "n NOTIFY SET (selected (MessageNew MessageExpunge FlagChange))" ∷ me 1 3 0 0 4 ∷ rt 1 0x30 ∷ fl 1 3 1 5 ∷ xp 1 3 6 ∷ [])
    (unowed unmet ∷ unowed no_event ∷ dropped expunged_first 10 ∷ unowed unasked ∷ unowed not_announced ∷ unowed not_announced ∷ [])
unfolding accounted
before_announcement = refl

-- flags of another mailbox
pub flags-elsewhere : Became
    (cm "n NOTIFY SET (personal (MessageNew MessageExpunge FlagChange))" ∷ mb 2 0x33 1 1 1 "b" ∷ me 2 1 0 0 2 ∷ fl 2 1 1 3 ∷ [])
    (unowed no_event ∷ unowed quiet ∷ reported 7 ∷ reported 8 ∷ [])
unfolding accounted
flags-elsewhere = refl

-- ---- told at once
-- of mailboxes, and of messages in one that is not selected
pub at-once-elsewhere : Became
    (cm "n NOTIFY SET (personal (MessageNew MessageExpunge MailboxName SubscriptionChange))"
    ∷ mb 2 0x33 0 1 1 "b" ∷ me 2 1 0 0 2 ∷ xp 2 1 3 ∷ rn 2 0 "c" ∷ sb 2 1 0 ∷ rt 2 0x20 ∷ rt 2 0x30 ∷ dl 2 0 ∷ [])
    (unowed no_event ∷ reported 6 ∷ reported 7 ∷ reported 8 ∷ reported 9 ∷ reported 10 ∷ reported 11 ∷ reported 12 ∷ reported 13 ∷ [])
unfolding accounted
at-once-elsewhere = refl

-- of a mailbox and its parent, or of the parent alone (02, 2)
pub at-once-above : Became
    (cm "n NOTIFY SET (subtree a (MailboxName)) (mailboxes c (MailboxName))" ∷ mb 2 0x33 0 1 1 "a/b" ∷ mb 3 0x33 0 1 1 "c/d" ∷ dl 3 0 ∷ mb 3 0x33 0 1 1 "d/e" ∷ [])
    (unowed no_event ∷ reported 6 ∷ reported 7 ∷ reported 8 ∷ unowed unmet ∷ [])
unfolding accounted
at-once-above = refl

pub at-once-above-exact : Written
    (cm "n NOTIFY SET (subtree a (MailboxName)) (mailboxes c (MailboxName))" ∷ mb 2 0x33 0 1 1 "a/b" ∷ mb 3 0x33 0 1 1 "c/d" ∷ dl 3 0 ∷ [])
unfolding accounted
at-once-above-exact = refl

-- of messages in the selected one; a delayed group lets the expunge wait
pub at-once : Became
    (cm "n NOTIFY SET (selected (MessageNew MessageExpunge FlagChange))" ∷ me 1 3 0 0 4 ∷ fl 1 3 1 5 ∷ xp 1 1 6 ∷ [])
    (unowed no_event ∷ reported 6 ∷ reported 7 ∷ reported 8 ∷ [])
unfolding accounted
at-once = refl

pub delayed : Became
    (cm "n NOTIFY SET (selected-delayed (MessageNew MessageExpunge FlagChange))" ∷ me 1 3 0 0 4 ∷ fl 1 3 1 5 ∷ xp 1 1 6 ∷ [])
    (unowed no_event ∷ reported 6 ∷ reported 7 ∷ waits (removal 1) ∷ [])
unfolding accounted
delayed = refl

-- ---- waiting
-- before the first NOTIFY all three; through a NOTIFY NONE, and a command end without r
pub still-waiting : Became
    (fl 1 1 1 4 ∷ xp 1 2 5 ∷ me 1 3 0 0 6 ∷ cm "n NOTIFY NONE" ∷ rt 1 0x10 ∷ ce 1 ∷ [])
    (waits (marking 1) ∷ waits (removal 2) ∷ waits (arrival 3) ∷ unowed no_event ∷ unowed no_event ∷ unowed no_event ∷ [])
unfolding accounted
still-waiting = refl

-- what the group does not ask, flags apart; what it asks, while a right is missing
pub waiting-unasked : Became
    (cm "n NOTIFY SET (selected NONE)" ∷ me 1 3 0 0 4 ∷ xp 1 1 5 ∷ fl 1 2 1 6 ∷ [])
    (unowed no_event ∷ waits (arrival 3) ∷ waits (removal 1) ∷ unowed unasked ∷ [])
unfolding accounted
waiting-unasked = refl

pub waiting_for-right : Became
    (cm "n NOTIFY SET (selected (MessageNew MessageExpunge FlagChange))" ∷ rt 1 0x10 ∷ me 1 3 0 0 4 ∷ xp 1 1 5 ∷ fl 1 2 1 6 ∷ [])
    (unowed no_event ∷ unowed no_event ∷ waits (arrival 3) ∷ waits (removal 1) ∷ unowed right_missing ∷ [])
unfolding accounted
waiting_for-right = refl

-- an expunge waits while r is lost, and a mark through NOTIFY NONE; both are told when that is over
pub through_loss : Became
    (xp 1 1 4 ∷ rt 1 0x10 ∷ rt 1 0x30 ∷ ce 1 ∷ [])
    (reported 8 ∷ unowed no_event ∷ unowed no_event ∷ unowed no_event ∷ [])
unfolding accounted
through_loss = refl

pub through_none : Became
    (fl 1 1 1 4 ∷ cm "n NOTIFY NONE" ∷ ce 0 ∷ [])
    (reported 7 ∷ unowed no_event ∷ unowed no_event ∷ [])
unfolding accounted
through_none = refl

-- flags that change while r is missing are not told later either
pub not_through_loss : Became
    (rt 1 0x10 ∷ fl 1 1 1 4 ∷ rt 1 0x30 ∷ ce 1 ∷ [])
    (unowed no_event ∷ unowed right_missing ∷ unowed no_event ∷ unowed no_event ∷ [])
unfolding accounted
not_through_loss = refl

pub not_through_loss-exact : Written (rt 1 0x10 ∷ fl 1 1 1 4 ∷ rt 1 0x30 ∷ ce 1 ∷ [])
unfolding accounted
not_through_loss-exact = refl

-- ---- told later
-- by an EXISTS and by a FETCH that another change owes at once
pub by-exists : Became
    (me 1 3 0 0 4 ∷ rt 1 0x20 ∷ cm "n NOTIFY SET (selected (MessageNew MessageExpunge FlagChange))" ∷ rt 1 0x30 ∷ me 1 4 0 0 5 ∷ [])
    (reported 9 ∷ unowed unmet ∷ unowed no_event ∷ unowed unasked ∷ reported 9 ∷ [])
unfolding accounted
by-exists = refl

pub by-fetch : Became
    (fl 1 1 1 4 ∷ rt 1 0x20 ∷ cm "n NOTIFY SET (selected (MessageNew MessageExpunge FlagChange))" ∷ rt 1 0x30 ∷ fl 1 1 2 5 ∷ [])
    (reported 9 ∷ unowed unmet ∷ unowed no_event ∷ unowed unasked ∷ reported 9 ∷ [])
unfolding accounted
by-fetch = refl

-- by a command end: class 0 leaves the expunge to class 1
pub by-command_end : Became
    (fl 1 1 1 4 ∷ xp 1 2 5 ∷ me 1 3 0 0 6 ∷ ce 0 ∷ ce 1 ∷ [])
    (reported 8 ∷ reported 9 ∷ reported 8 ∷ unowed no_event ∷ unowed no_event ∷ [])
unfolding accounted
by-command_end = refl

pub by-command_end-exact : Written (fl 1 1 1 4 ∷ xp 1 2 5 ∷ me 1 3 0 0 6 ∷ ce 0 ∷ ce 1 ∷ [])
unfolding accounted
by-command_end-exact = refl

-- by an accepted NOTIFY SET: all that waits; by one that is not accepted nothing
pub by-set : Became
    (fl 1 1 1 4 ∷ fl 1 1 3 5 ∷ xp 1 2 6 ∷ me 1 3 0 0 7 ∷ cm "n NOTIFY SET (personal (MessageNew))" ∷ cm "n NOTIFY SET (personal NONE)" ∷ [])
    (replicate 4 (reported 10) ++ (unowed no_event ∷ unowed no_event ∷ []))
unfolding accounted
by-set = refl

-- ---- dropped
-- by `SE`; by the message's own expunge, its mark too
pub by-select : Became
    (fl 1 1 1 4 ∷ xp 1 2 5 ∷ me 1 3 0 0 6 ∷ se 0 ∷ [])
    (replicate 3 (dropped reselected 8) ++ (unowed no_event ∷ []))
unfolding accounted
by-select = refl

pub by-expunge : Became
    (fl 1 1 1 4 ∷ me 1 3 0 0 5 ∷ xp 1 1 6 ∷ xp 1 3 7 ∷ [])
    (dropped expunged_first 7 ∷ dropped expunged_first 8 ∷ waits (removal 1) ∷ unowed unmet ∷ [])
unfolding accounted
by-expunge = refl

-- ---- where there is no room
-- answers of 46 and of 28 octets, 930 in all: with the 18 of an accepted NOTIFY 12 of the 960 are left, without them 30
abbrev pub filling : List Octets
filling = replicate 19 (cm "tttttttttttttttttttttttttttttttt X") ++ replicate 2 (cm "tttttttttttttt X")

-- after an overflow a flag change is lost; an arrival and an expunge wait, and are told by the next command end that has room
pub lost_to-overflow : Became
    (cm "n NOTIFY SET (selected (MessageNew MessageExpunge FlagChange))" ∷ filling ++ (fl 1 1 1 4 ∷ []))
    (replicate 22 (unowed no_event) ++ (lost ∷ []))
unfolding accounted
lost_to-overflow = refl

pub waits-after-overflow : Became
    (cm "n NOTIFY SET (selected (MessageNew (UID) MessageExpunge FlagChange))" ∷ filling ++ (me 1 3 0 0 4 ∷ xp 1 1 5 ∷ dr 600 ∷ ce 0 ∷ []))
    (replicate 22 (unowed no_event) ++ (reported 30 ∷ waits (removal 1) ∷ unowed no_event ∷ unowed no_event ∷ []))
unfolding accounted
waits-after-overflow = refl

-- a STATUS that overflows is lost: it never waits
pub lost-elsewhere : Became
    (mb 2 0x33 1 1 1 "b" ∷ cm "n NOTIFY SET (personal (MessageNew MessageExpunge))" ∷ filling ++ (me 2 1 0 0 2 ∷ me 2 2 0 0 3 ∷ []))
    (unowed quiet ∷ replicate 22 (unowed no_event) ++ (lost ∷ unowed unmet ∷ []))
unfolding accounted
lost-elsewhere = refl

-- a mailbox and its parent are told together or not at all: there is room for the 21 octets of its own line, and not for the parent's too
pub lost-above : Became
    (cm "n NOTIFY SET (subtree a (MailboxName))" ∷ filling ++ (dr 20 ∷ mb 2 0x33 0 1 1 "a/b" ∷ mb 3 0x33 0 1 1 "a/c" ∷ []))
    (replicate 23 (unowed no_event) ++ (lost ∷ unowed unmet ∷ []))
unfolding accounted
lost-above = refl

-- a command end with room for EXPUNGE and EXISTS (13 and 12 octets), and not for the FETCH, which the next one tells
pub told_in-part : Became
    (fl 1 2 1 4 ∷ xp 1 1 5 ∷ me 1 3 0 0 6 ∷ filling ++ (ce 1 ∷ []))
    (waits (marking 2) ∷ reported 29 ∷ reported 29 ∷ replicate 22 (unowed no_event))
unfolding accounted
told_in-part = refl

pub told_in-full : Became
    (fl 1 2 1 4 ∷ xp 1 1 5 ∷ me 1 3 0 0 6 ∷ filling ++ (ce 1 ∷ dr 600 ∷ ce 0 ∷ []))
    (reported 31 ∷ reported 29 ∷ reported 29 ∷ replicate 24 (unowed no_event))
unfolding accounted
told_in-full = refl

-- ---- in numbers: one told at once, one later, one that waits, one dropped
pub in-numbers :
    tally (account_of (start 1024 4 8) (opening ++ (fl 1 1 1 4 ∷ cm "n NOTIFY SET (selected-delayed (MessageNew MessageExpunge))" ∷ me 1 3 0 0 5 ∷ xp 1 1 6 ∷ rt 1 0x20 ∷ me 1 4 0 0 7 ∷ xp 1 4 8 ∷ []))).fates
    ≡ record { called = 4; at_once = 1; later = 1; still = 1; dropped = 1; lost = 0 }
unfolding accounted tallied
in-numbers = refl
