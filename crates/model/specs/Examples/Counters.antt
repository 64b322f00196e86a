-- Change counters, by computation: both STATUS lists, a flag change elsewhere that changes no bit, the top of the range, and a pair for
-- demand 3 whose hidden mailbox has a counter of its own (02, 1).
use Rattle.std.specs.Prelude.{◌≡◌, refl, List, [], ◌∷◌, ◌++◌, replicate}
use Rattle.model.specs.Hidden.{Octets}
use Rattle.model.specs.Examples.Stream.{mb, dl, rt, me, xp, fl, se, ce, cm, frame, two, four, Prints, computed}
use Rattle.model.specs.Examples.Pair.{Pair, silent, says, Alike, by-ids}
use Rattle.model.specs.Text.{octets}
use Rattle.model.specs.Memory.{Memory, boxes, the_mailbox, counter_of}
use Rattle.model.specs.Pushrun.{start}
use Rattle.model.specs.Fates.{quiet, no_event, unmet, unowed, lost}
use Rattle.model.specs.Seen.{final}
use Rattle.model.specs.Account.{account_of}
use Rattle.model.specs.Examples.Fates.{opening, opening_fates, filling, accounted}

-- ---- the two lists of 01, and that of flags elsewhere: it is written even if no bit differs
pub status_lists : Prints
    (mb 1 0x33 1 7 1 "a" ∷ me 1 1 1 0 2
    ∷ cm "t NOTIFY SET STATUS (personal (MessageNew MessageExpunge FlagChange))"
    ∷ fl 1 1 1 3 ∷ me 1 2 0 0 6 ∷ xp 1 1 8 ∷ [])
    ("* STATUS \"a\" (MESSAGES 1 UIDNEXT 2 UIDVALIDITY 7 HIGHESTMODSEQ 2)"
    ∷ "t OK NOTIFY done"
    ∷ "* STATUS \"a\" (UIDVALIDITY 7 HIGHESTMODSEQ 3)"
    ∷ "* STATUS \"a\" (UIDNEXT 3 MESSAGES 2 HIGHESTMODSEQ 6)"
    ∷ "* STATUS \"a\" (UIDNEXT 3 MESSAGES 1 HIGHESTMODSEQ 8)"
    ∷ [])
unfolding computed
status_lists = refl

-- a FETCH has the message's own counter when it is written, not the mailbox's
pub own_counter : Prints
    (mb 1 0x33 1 7 1 "INBOX" ∷ me 1 1 0 10 2 ∷ me 1 2 8 20 3 ∷ se 1 ∷ fl 1 1 1 4 ∷ fl 1 2 0 9 ∷ fl 1 1 2 10 ∷ ce 0 ∷ [])
    ("* 1 FETCH (UID 1 FLAGS (\\Flagged) MODSEQ (10))" ∷ "* 2 FETCH (UID 2 FLAGS () MODSEQ (9))" ∷ [])
unfolding computed
own_counter = refl

-- ---- the range: 0 and 2^63 are out of it, and at its top every later counter is not above
pub top_of_range : Prints
    (mb 1 0x33 1 7 0 "a" ∷ mb 1 0x33 1 7 9223372036854775808 "a" ∷ mb 1 0x33 1 7 9223372036854775806 "a"
    ∷ me 1 1 0 0 18446744073709551615 ∷ me 1 1 0 0 9223372036854775807 ∷ xp 1 1 9223372036854775807 ∷ fl 1 1 0 9223372036854775808
    ∷ cm "t NOTIFY SET STATUS (personal (MessageNew MessageExpunge))" ∷ [])
    ("! 2" ∷ "! 2" ∷ "! 2" ∷ "! 5" ∷ "! 2"
    ∷ "* STATUS \"a\" (MESSAGES 1 UIDNEXT 2 UIDVALIDITY 7 HIGHESTMODSEQ 9223372036854775807)"
    ∷ "t OK NOTIFY done"
    ∷ [])
unfolding computed
top_of_range = refl

-- equal and below: 5, by the mailbox's counter; a mailbox made anew may start below the one before it
pub not_above : Prints
    (mb 1 0x33 1 7 5 "a" ∷ me 1 1 0 0 5 ∷ me 1 1 0 0 6 ∷ me 1 2 0 0 9 ∷ fl 1 1 1 8 ∷ fl 1 1 1 9 ∷ xp 1 1 9 ∷ xp 1 1 10
    ∷ dl 1 1 ∷ mb 1 0x33 1 7 2 "a" ∷ me 1 1 0 0 3 ∷ [])
    ("! 5" ∷ "! 5" ∷ "! 5" ∷ "! 5" ∷ [])
unfolding computed
not_above = refl

-- a create in the old layout with a name of nine octets is lawful, and makes a mailbox of its last one
pub old_layout : Prints
    (frame "MB" (two 1 ++ (0x33 ∷ 1 ∷ four 7 ++ octets "Ops/Mains"))
    ∷ frame "MB" (two 2 ++ (0x33 ∷ 1 ∷ four 7 ++ octets "INBOX"))
    ∷ cm "t NOTIFY SET STATUS (personal (MessageNew MessageExpunge))" ∷ [])
    ("! 2" ∷ "* STATUS \"s\" (MESSAGES 0 UIDNEXT 1 UIDVALIDITY 7 HIGHESTMODSEQ 7955997200863162447)" ∷ "t OK NOTIFY done" ∷ [])
unfolding computed
old_layout = refl

abbrev pub full : Memory
full = start 1024 4 8

abbrev pub overflowing : List Octets
overflowing = opening ++ (mb 2 0x33 1 1 1 "b" ∷ me 2 1 0 0 2 ∷ cm "n NOTIFY SET (personal (MessageNew MessageExpunge FlagChange))" ∷ filling ++ (fl 2 1 1 3 ∷ []))

-- what is not noticed raises a counter too
pub raised_unnoticed : Prints
    (mb 1 0x03 1 7 1 "a" ∷ me 1 1 0 0 8 ∷ fl 1 1 1 9 ∷ xp 1 1 20 ∷ rt 1 0x30
    ∷ cm "t NOTIFY SET STATUS (personal (MessageNew MessageExpunge))" ∷ [])
    ("* STATUS \"a\" (MESSAGES 0 UIDNEXT 2 UIDVALIDITY 7 HIGHESTMODSEQ 20)" ∷ "t OK NOTIFY done" ∷ [])
unfolding computed
raised_unnoticed = refl

-- so does a change whose line overflows: 12 octets are left for it
pub raised_by_overflow :
    ((account_of full overflowing).fates ≡ opening_fates ++ (unowed quiet ∷ unowed unmet ∷ replicate 22 (unowed no_event) ++ (lost ∷ [])))
    × (counter_of (the_mailbox 2 (boxes (final full overflowing))) ≡ 3)
unfolding accounted
raised_by_overflow = (refl, refl)

-- ---- counters belong to one mailbox: a hidden one runs to 9,000 while the visible lines show 101, 4 and 102
abbrev pub own : Pair
own = record {
  queue = 1024;
  rows = 4;
  entries = 6;
  left =
      mb 1 0x33 1 7 100 "a" ∷ mb 2 0x33 1 7 3 "b" ∷ mb 3 0x03 1 7 50 "hidden"
      ∷ cm "t NOTIFY SET (personal (MessageNew MessageExpunge))"
      ∷ me 1 1 0 0 101 ∷ me 3 1 0 0 5000 ∷ me 2 1 0 0 4 ∷ me 3 2 0 0 9000 ∷ me 1 2 0 0 102 ∷ [];
  right =
      mb 1 0x33 1 7 100 "a" ∷ mb 2 0x33 1 7 3 "b"
      ∷ cm "t NOTIFY SET (personal (MessageNew MessageExpunge))"
      ∷ me 1 1 0 0 101 ∷ me 2 1 0 0 4 ∷ me 1 2 0 0 102 ∷ [];
  gone = 3 ∷ [];
  kept = 0 ∷ 1 ∷ 2 ∷ [];
}

pub own_alike : Alike own (
    silent ∷ silent
    ∷ says ("t OK NOTIFY done" ∷ [])
    ∷ says ("* STATUS \"a\" (UIDNEXT 2 MESSAGES 1 HIGHESTMODSEQ 101)" ∷ [])
    ∷ says ("* STATUS \"b\" (UIDNEXT 2 MESSAGES 1 HIGHESTMODSEQ 4)" ∷ [])
    ∷ says ("* STATUS \"a\" (UIDNEXT 3 MESSAGES 2 HIGHESTMODSEQ 102)" ∷ [])
    ∷ []
    )
unfolding computed
own_alike = by-ids own
    (record { gone = refl; kept = refl; left = refl; right = refl })
    (record { hides = refl; rest = refl; excepts = refl; unexcepts = refl; left = refl; right = refl })
