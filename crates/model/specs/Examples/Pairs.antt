-- Demand 3 is not empty: pairs of streams that differ in hidden records alone, each with what both show (01, Duties, 7 to 13).
-- Mailbox 1 is the visible `Ops`; `Vault` is hidden: it is personal and selectable, and nobody may list or read it.
use Rattle.std.specs.Prelude.{refl, List, [], ◌∷◌, ◌++◌, replicate}
use Rattle.model.specs.Hidden.{Octets}
use Rattle.model.specs.Examples.Stream.{mb, dl, rn, sb, me, xp, fl, se, ce, cm, dr, computed}
use Rattle.model.specs.Examples.Pair.{Pair, Said, silent, says, refused, counted, drained, Alike, Excluded, by-ids}

abbrev pub ops : Octets
ops = mb 1 0x33 1 7 1 "Ops"

abbrev pub vault : Octets
vault = mb 2 0x03 0 9 1 "Vault"

-- ---- NOTIFY SET's listing: a hidden mailbox is not in it, and its renaming, subscription, mail and end are told to nobody
abbrev pub listing : Pair
listing = record {
  queue = 1024;
  rows = 4;
  entries = 6;
  left = ops ∷ vault ∷ me 2 1 0 100 2
      ∷ cm "a NOTIFY SET STATUS (personal (MessageNew MessageExpunge MailboxName SubscriptionChange))"
      ∷ rn 2 0 "Ops/Vault" ∷ sb 2 1 0 ∷ me 2 2 0 100 3 ∷ xp 2 1 4 ∷ dl 2 0
      ∷ me 1 1 0 100 2 ∷ [];
  right = ops
      ∷ cm "a NOTIFY SET STATUS (personal (MessageNew MessageExpunge MailboxName SubscriptionChange))"
      ∷ me 1 1 0 100 2 ∷ [];
  gone = 2 ∷ [];
  kept = 0 ∷ 1 ∷ [];
}

pub listing_alike : Alike listing (
    silent
    ∷ says ("* STATUS \"Ops\" (MESSAGES 0 UIDNEXT 1 UIDVALIDITY 7 HIGHESTMODSEQ 1)" ∷ "a OK NOTIFY done" ∷ [])
    ∷ says ("* STATUS \"Ops\" (UIDNEXT 2 MESSAGES 1 HIGHESTMODSEQ 2)" ∷ [])
    ∷ []
    )
unfolding computed
listing_alike = by-ids listing
    (record { gone = refl; kept = refl; left = refl; right = refl })
    (record { hides = refl; rest = refl; excepts = refl; unexcepts = refl; left = refl; right = refl })

-- ---- commands that name a hidden mailbox: the same as if there were none of that name
abbrev pub naming : Pair
naming = record {
  queue = 1024;
  rows = 4;
  entries = 6;
  left =
      ops ∷ me 1 4 0 100 2 ∷ vault ∷ me 2 4 0 100 2
      ∷ cm "a ESEARCH IN (mailboxes (Vault Ops)) ALL"
      ∷ cm "b ESEARCH IN (mailboxes Vault) ALL"
      ∷ cm "c NOTIFY SET STATUS (mailboxes Vault (MessageNew MessageExpunge))"
      ∷ [];
  right =
      ops ∷ me 1 4 0 100 2
      ∷ cm "a ESEARCH IN (mailboxes (Vault Ops)) ALL"
      ∷ cm "b ESEARCH IN (mailboxes Vault) ALL"
      ∷ cm "c NOTIFY SET STATUS (mailboxes Vault (MessageNew MessageExpunge))"
      ∷ [];
  gone = 2 ∷ [];
  kept = 0 ∷ 1 ∷ [];
}

pub naming_alike : Alike naming (
    silent
    ∷ silent
    ∷ says ("* ESEARCH (TAG \"a\" MAILBOX \"Ops\" UIDVALIDITY 7) UID ALL 4" ∷ "a OK ESEARCH done" ∷ [])
    ∷ says ("b OK ESEARCH done" ∷ [])
    ∷ says ("c OK NOTIFY done" ∷ [])
    ∷ []
    )
unfolding computed
naming_alike = by-ids naming
    (record { gone = refl; kept = refl; left = refl; right = refl })
    (record { hides = refl; rest = refl; excepts = refl; unexcepts = refl; left = refl; right = refl })

-- ---- parents that are hidden, and a hidden child: `Ops` is met by its name as if it were absent, `Vault` by nobody though it is personal (02, 2)
abbrev pub parent : Pair
parent = record {
  queue = 1024;
  rows = 6;
  entries = 6;
  left =
      mb 9 0x0F 1 7 1 "Ops" ∷ mb 7 0x0F 1 7 1 "Vault"
      ∷ cm "t NOTIFY SET (subtree Ops (MailboxName)) (personal (MailboxName))"
      ∷ mb 8 0x0F 0 7 1 "Ops/h" ∷ mb 1 0x31 0 7 1 "Ops/a" ∷ mb 3 0x31 0 7 1 "Vault/b" ∷ dl 8 0 ∷ dl 9 0 ∷ dl 1 0
      ∷ [];
  right =
      cm "t NOTIFY SET (subtree Ops (MailboxName)) (personal (MailboxName))"
      ∷ mb 1 0x31 0 7 1 "Ops/a" ∷ mb 3 0x31 0 7 1 "Vault/b" ∷ dl 1 0
      ∷ [];
  gone = 7 ∷ 8 ∷ 9 ∷ [];
  kept = 0 ∷ 1 ∷ 3 ∷ [];
}

pub parent_alike : Alike parent (
    says ("t OK NOTIFY done" ∷ [])
    ∷ says ("* LIST () \"/\" \"Ops/a\"" ∷ "* LIST (\\NonExistent) \"/\" \"Ops\"" ∷ [])
    ∷ silent
    ∷ says ("* LIST (\\NonExistent) \"/\" \"Ops/a\"" ∷ "* LIST (\\NonExistent) \"/\" \"Ops\"" ∷ [])
    ∷ []
    )
unfolding computed
parent_alike = by-ids parent
    (record { gone = refl; kept = refl; left = refl; right = refl })
    (record { hides = refl; rest = refl; excepts = refl; unexcepts = refl; left = refl; right = refl })

-- ---- the limit of Q - 64 octets on an answer: two lines of ESEARCH are within it; with those of three hidden mailboxes it would be passed
abbrev pub limit : Pair
limit = record {
  queue = 1024;
  rows = 6;
  entries = 6;
  left =
      mb 3 0x03 1 4294967295 1 "Ops/Mains/Valves/North/Inspections/Reports/Signed/Archived/March" ∷ me 3 4294967294 0 100 2
      ∷ mb 4 0x03 1 4294967295 1 "Ops/Mains/Valves/North/Inspections/Reports/Signed/Archived/April" ∷ me 4 4294967294 0 100 2
      ∷ mb 5 0x03 1 4294967295 1 "Ops/Mains/Valves/North/Inspections/Reports/Signed/Archived/June" ∷ me 5 4294967294 0 100 2
      ∷ mb 1 0x33 1 4294967295 1 "Ops/Mains/Valves/North/Inspections/Reports/Signed/Archived/July" ∷ me 1 4294967294 0 100 2
      ∷ mb 2 0x33 1 4294967295 1 "Ops/Mains/Valves/North/Inspections/Reports/Signed/Archived/May" ∷ me 2 4294967294 0 100 2
      ∷ cm "tag-of-thirty-two-octets-exactly ESEARCH IN (personal) RETURN (MIN MAX ALL COUNT) ALL"
      ∷ [];
  right =
      mb 1 0x33 1 4294967295 1 "Ops/Mains/Valves/North/Inspections/Reports/Signed/Archived/July" ∷ me 1 4294967294 0 100 2
      ∷ mb 2 0x33 1 4294967295 1 "Ops/Mains/Valves/North/Inspections/Reports/Signed/Archived/May" ∷ me 2 4294967294 0 100 2
      ∷ cm "tag-of-thirty-two-octets-exactly ESEARCH IN (personal) RETURN (MIN MAX ALL COUNT) ALL"
      ∷ [];
  gone = 3 ∷ 4 ∷ 5 ∷ [];
  kept = 0 ∷ 1 ∷ 2 ∷ [];
}

pub limit_alike : Alike limit (
    silent ∷ silent ∷ silent ∷ silent
    ∷ says (
    "* ESEARCH (TAG \"tag-of-thirty-two-octets-exactly\" MAILBOX \"Ops/Mains/Valves/North/Inspections/Reports/Signed/Archived/July\" UIDVALIDITY 4294967295) UID MIN 4294967294 MAX 4294967294 ALL 4294967294 COUNT 1"
    ∷ "* ESEARCH (TAG \"tag-of-thirty-two-octets-exactly\" MAILBOX \"Ops/Mains/Valves/North/Inspections/Reports/Signed/Archived/May\" UIDVALIDITY 4294967295) UID MIN 4294967294 MAX 4294967294 ALL 4294967294 COUNT 1"
    ∷ "tag-of-thirty-two-octets-exactly OK ESEARCH done"
    ∷ []
    )
    ∷ []
    )
unfolding computed
limit_alike = by-ids limit
    (record { gone = refl; kept = refl; left = refl; right = refl })
    (record { hides = refl; rest = refl; excepts = refl; unexcepts = refl; left = refl; right = refl })

-- ---- the number of a STATUS: hidden mailboxes hold three rows of four and five entries of six on the left, one row on the right
abbrev pub status : Pair
status = record {
  queue = 1024;
  rows = 4;
  entries = 6;
  left =
      vault ∷ mb 3 0x03 1 9 1 "Attic" ∷ mb 4 0 1 9 1 "Cellar"
      ∷ me 2 1 0 100 2 ∷ me 2 2 0 100 3 ∷ me 3 1 0 100 2 ∷ me 3 7 0 100 3 ∷ me 4 9 0 100 2
      ∷ ops ∷ cm "a NOTIFY SET (personal (MessageNew MessageExpunge))"
      ∷ me 1 5 0 100 2 ∷ xp 1 5 3 ∷ [];
  right =
      ops ∷ cm "a NOTIFY SET (personal (MessageNew MessageExpunge))"
      ∷ vault ∷ me 2 4 0 100 2 ∷ xp 2 4 3
      ∷ me 1 5 0 100 2 ∷ xp 1 5 3 ∷ [];
  gone = 2 ∷ 3 ∷ 4 ∷ [];
  kept = 0 ∷ 1 ∷ [];
}

pub status_alike : Alike status (
    silent
    ∷ says ("a OK NOTIFY done" ∷ [])
    ∷ says ("* STATUS \"Ops\" (UIDNEXT 6 MESSAGES 1 HIGHESTMODSEQ 2)" ∷ [])
    ∷ says ("* STATUS \"Ops\" (UIDNEXT 6 MESSAGES 0 HIGHESTMODSEQ 3)" ∷ [])
    ∷ []
    )
unfolding computed
status_alike = by-ids status
    (record { gone = refl; kept = refl; left = refl; right = refl })
    (record { hides = refl; rest = refl; excepts = refl; unexcepts = refl; left = refl; right = refl })

-- ---- a queue that is nearly full: seven answers of 130 octets leave 50 of the 960 for lines
abbrev pub filling : List Octets
filling = replicate 7 (cm "tag-of-thirty-two-octets-exactly NOTIFY SET (personal (MailboxMetadataChange))")

abbrev pub filled : List Said
filled = replicate 7 (says ("tag-of-thirty-two-octets-exactly NO [BADEVENT (MessageNew MessageExpunge FlagChange MailboxName SubscriptionChange)] unsupported" ∷ []))

-- the count of `CE`: EXPUNGE and EXISTS are written, and a FETCH is still owed until there is room, whatever a hidden mailbox holds
abbrev pub ending : Pair
ending = record {
  queue = 1024;
  rows = 4;
  entries = 6;
  left =
      vault ∷ me 2 1 0 100 2 ∷ me 2 2 0 100 3 ∷ me 2 3 0 100 4
      ∷ ops ∷ me 1 1 0 100 2 ∷ me 1 2 0 100 3 ∷ se 1 ∷ filling
      ++ (xp 1 1 4 ∷ me 1 3 0 100 5 ∷ fl 1 2 31 6 ∷ fl 2 2 31 5 ∷ ce 1 ∷ dr 130 ∷ xp 2 2 6 ∷ ce 0 ∷ []);
  right =
      ops ∷ me 1 1 0 100 2 ∷ me 1 2 0 100 3 ∷ se 1 ∷ filling
      ++ (xp 1 1 4 ∷ me 1 3 0 100 5 ∷ fl 1 2 31 6 ∷ ce 1 ∷ dr 130 ∷ ce 0 ∷ []);
  gone = 2 ∷ [];
  kept = 0 ∷ 1 ∷ [];
}

pub ending_alike : Alike ending (
    silent ∷ silent ∷ silent ∷ silent ∷ filled
    ++ (silent ∷ silent ∷ silent ∷ counted 1 ("* 1 EXPUNGE" ∷ "* 2 EXISTS" ∷ []) ∷ drained 130
    ∷ counted 0 ("* 1 FETCH (UID 2 FLAGS (\\Answered \\Flagged \\Deleted \\Seen \\Draft) MODSEQ (6))" ∷ []) ∷ [])
    )
unfolding computed
ending_alike = by-ids ending
    (record { gone = refl; kept = refl; left = refl; right = refl })
    (record { hides = refl; rest = refl; excepts = refl; unexcepts = refl; left = refl; right = refl })

-- an overflow, and a command that finds no room: the lines of a hidden mailbox would have come sooner
abbrev pub overflow : Pair
overflow = record {
  queue = 1024;
  rows = 4;
  entries = 6;
  left =
      vault ∷ ops ∷ cm "a NOTIFY SET (personal (MessageNew MessageExpunge MailboxName))" ∷ filling
      ++ (me 2 1 0 100 2 ∷ rn 2 0 "Ops/Vault" ∷ ce 1 ∷ me 1 1 0 100 2 ∷ dl 2 0 ∷ me 1 2 0 100 3 ∷ cm "b NOTIFY NONE" ∷ []);
  right =
      ops ∷ cm "a NOTIFY SET (personal (MessageNew MessageExpunge MailboxName))" ∷ filling
      ++ (ce 1 ∷ me 1 1 0 100 2 ∷ me 1 2 0 100 3 ∷ cm "b NOTIFY NONE" ∷ []);
  gone = 2 ∷ [];
  kept = 0 ∷ 1 ∷ [];
}

pub overflow_alike : Alike overflow (
    silent ∷ says ("a OK NOTIFY done" ∷ []) ∷ filled
    ++ (counted 0 [] ∷ says ("* OK [NOTIFICATIONOVERFLOW] stopped" ∷ []) ∷ silent ∷ refused 8 ∷ [])
    )
unfolding computed
overflow_alike = by-ids overflow
    (record { gone = refl; kept = refl; left = refl; right = refl })
    (record { hides = refl; rest = refl; excepts = refl; unexcepts = refl; left = refl; right = refl })

-- ---- what the premise on 4 and 7 shuts out: hidden messages fill the table of two, and a visible message finds no place
abbrev pub full_table : Pair
full_table = record {
  queue = 1024;
  rows = 4;
  entries = 2;
  left =
      vault ∷ me 2 1 0 100 2 ∷ me 2 2 0 100 3 ∷ ops ∷ me 1 1 0 100 2 ∷ [];
  right =
      ops ∷ me 1 1 0 100 2 ∷ [];
  gone = 2 ∷ [];
  kept = 0 ∷ 1 ∷ [];
}

pub full_table_excluded : Excluded full_table (silent ∷ refused 7 ∷ []) (silent ∷ silent ∷ [])
unfolding computed
full_table_excluded = by-ids full_table
    (record { gone = refl; kept = refl; left = refl; right = refl })
    (record { hides = refl; rest = refl; excepts = refl; unexcepts = refl; left = refl; right = refl })

-- a hidden mailbox has the name that a visible one asks for
abbrev pub held_name : Pair
held_name = record {
  queue = 1024;
  rows = 4;
  entries = 2;
  left =
      vault ∷ mb 1 0x33 1 7 1 "Vault" ∷ [];
  right =
      mb 1 0x33 1 7 1 "Vault" ∷ [];
  gone = 2 ∷ [];
  kept = 0 ∷ 1 ∷ [];
}

pub held_name_excluded : Excluded held_name (refused 4 ∷ []) (silent ∷ [])
unfolding computed
held_name_excluded = by-ids held_name
    (record { gone = refl; kept = refl; left = refl; right = refl })
    (record { hides = refl; rest = refl; excepts = refl; unexcepts = refl; left = refl; right = refl })
