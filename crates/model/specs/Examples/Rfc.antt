-- Examples of RFC 5465 and RFC 6237 in house form: the records that lead to them, and what pushrun prints (01, Build, 1 and 3; Duties, 6).
-- Counts are small, names quoted, lines end as 01 has them. Where an example breaks the grammar, its inner parentheses are put in.
use Rattle.std.specs.Prelude.{refl, [], ◌∷◌}
use Rattle.model.specs.Examples.Stream.{mb, dl, rn, sb, rt, me, xp, fl, se, cm, Prints, computed}

-- ---- RFC 5465, section 3.1
-- the first NOTIFY with its parentheses: the state of the mailboxes under Lists, then mail there, then mail in the selected mailbox
pub watch_lists : Prints
    (mb 1 0x37 1 3 1 "INBOX" ∷ mb 2 0x31 1 4 1 "Lists/Lemonade" ∷ mb 3 0x31 1 901 1 "Lists/Im2000" ∷ me 2 9998 0 100 2
    ∷ cm "b notify set status (selected (MessageNew (uid) MessageExpunge)) (subtree Lists (MessageNew MessageExpunge))"
    ∷ se 1 ∷ me 2 9999 0 100 3 ∷ me 1 127001 0 100 2 ∷ [])
    ("* STATUS \"Lists/Im2000\" (MESSAGES 0 UIDNEXT 1 UIDVALIDITY 901 HIGHESTMODSEQ 1)"
    ∷ "* STATUS \"Lists/Lemonade\" (MESSAGES 1 UIDNEXT 9999 UIDVALIDITY 4 HIGHESTMODSEQ 2)"
    ∷ "b OK NOTIFY done"
    ∷ "* STATUS \"Lists/Lemonade\" (UIDNEXT 10000 MESSAGES 2 HIGHESTMODSEQ 3)"
    ∷ "* 1 EXISTS"
    ∷ "* 1 FETCH (UID 127001 MODSEQ (2))"
    ∷ [])
unfolding computed
watch_lists = refl

-- the same as it is printed there, without inner parentheses, fits no rule; with them, the header fields that it asks for are not supported
pub watch_lists_as_printed : Prints
    (cm "b notify set status (selected MessageNew (uid body.peek[header.fields (from to subject)]) MessageExpunge) (subtree Lists MessageNew)"
    ∷ cm "b notify set status (selected (MessageNew (uid body.peek[header.fields (from to subject)]) MessageExpunge)) (subtree Lists (MessageNew MessageExpunge))"
    ∷ [])
    ("b BAD refused" ∷ "b NO unsupported" ∷ [])
unfolding computed
watch_lists_as_printed = refl

-- one more mailbox is watched, and nothing is listed, since STATUS is not asked
pub watch_misc : Prints
    (mb 1 0x31 1 4 1 "Lists/Lemonade" ∷ mb 2 0x31 1 1 1 "misc"
    ∷ cm "e notify set (selected (MessageNew (uid) MessageExpunge)) (subtree Lists (MessageNew MessageExpunge)) (mailboxes misc (MessageNew MessageExpunge))"
    ∷ me 2 998 0 100 2 ∷ [])
    ("e OK NOTIFY done" ∷ "* STATUS \"misc\" (UIDNEXT 999 MESSAGES 1 HIGHESTMODSEQ 2)" ∷ [])
unfolding computed
watch_misc = refl

-- ---- RFC 5465, section 5
-- 5.1: flags change in the selected mailbox, and in another
pub flag_change : Prints
    (mb 1 0x37 1 3 1 "INBOX" ∷ mb 2 0x33 1 101 1 "Lists/Lemonade" ∷ me 1 9999 0 100 2 ∷ me 2 5 0 100 2 ∷ se 1
    ∷ cm "a notify set (selected (MessageNew MessageExpunge FlagChange)) (personal (MessageNew MessageExpunge FlagChange))"
    ∷ fl 1 9999 2 3 ∷ fl 2 5 2 3 ∷ [])
    ("a OK NOTIFY done" ∷ "* 1 FETCH (UID 9999 FLAGS (\\Flagged) MODSEQ (3))" ∷ "* STATUS \"Lists/Lemonade\" (UIDVALIDITY 101 HIGHESTMODSEQ 3)" ∷ [])
unfolding computed
flag_change = refl

-- 5.2: a new message in the selected mailbox, and one in another
pub message_new : Prints
    (mb 1 0x37 1 3 1 "INBOX" ∷ mb 2 0x33 1 4 1 "Lists/Lemonade" ∷ me 1 9998 0 100 2 ∷ me 2 10000 0 100 2 ∷ se 1
    ∷ cm "a notify set (selected (MessageNew (uid) MessageExpunge)) (personal (MessageNew MessageExpunge))"
    ∷ me 1 9999 0 100 3 ∷ me 2 10001 0 100 3 ∷ [])
    ("a OK NOTIFY done" ∷ "* 2 EXISTS" ∷ "* 2 FETCH (UID 9999 MODSEQ (3))" ∷ "* STATUS \"Lists/Lemonade\" (UIDNEXT 10002 MESSAGES 2 HIGHESTMODSEQ 3)" ∷ [])
unfolding computed
message_new = refl

-- 5.3: a message goes from the selected mailbox, and one from another
pub message_expunge : Prints
    (mb 1 0x37 1 3 1 "INBOX" ∷ mb 2 0x33 1 1 1 "misc" ∷ me 1 5443 0 100 2 ∷ me 1 5444 0 100 3 ∷ me 2 997 0 100 2 ∷ me 2 998 0 100 3 ∷ se 1
    ∷ cm "a notify set (selected (MessageNew MessageExpunge)) (personal (MessageNew MessageExpunge))"
    ∷ xp 1 5444 4 ∷ xp 2 997 4 ∷ [])
    ("a OK NOTIFY done" ∷ "* 2 EXPUNGE" ∷ "* STATUS \"misc\" (UIDNEXT 999 MESSAGES 1 HIGHESTMODSEQ 4)" ∷ [])
unfolding computed
message_expunge = refl

-- 5.4: a mailbox is made and deleted; to be granted l and to lose it tells the same
pub mailbox_name : Prints
    (cm "a notify set (personal (MailboxName))"
    ∷ mb 1 0x33 0 3 1 "NewMailbox" ∷ dl 1 0
    ∷ mb 2 0x23 0 4 1 "NewMailbox" ∷ rt 2 0x30 ∷ rt 2 0x20 ∷ [])
    ("a OK NOTIFY done"
    ∷ "* LIST () \"/\" \"NewMailbox\"" ∷ "* LIST (\\NonExistent) \"/\" \"NewMailbox\""
    ∷ "* LIST () \"/\" \"NewMailbox\"" ∷ "* LIST (\\NonExistent) \"/\" \"NewMailbox\""
    ∷ [])
unfolding computed
mailbox_name = refl

-- 5.4: a mailbox is renamed
pub mailbox_renamed : Prints
    (mb 1 0x33 0 3 1 "OldMailbox" ∷ cm "a notify set (personal (MailboxName))" ∷ rn 1 0 "NewMailbox" ∷ [])
    ("a OK NOTIFY done" ∷ "* LIST () \"/\" \"NewMailbox\" (\"OLDNAME\" (\"OldMailbox\"))" ∷ [])
unfolding computed
mailbox_renamed = refl

-- 5.5: a mailbox is subscribed to, and no longer
pub subscription_change : Prints
    (mb 1 0x33 0 3 1 "SubscribedMailbox" ∷ cm "a notify set (personal (SubscriptionChange))" ∷ sb 1 1 0 ∷ sb 1 0 0 ∷ [])
    ("a OK NOTIFY done" ∷ "* LIST (\\Subscribed) \"/\" \"SubscribedMailbox\"" ∷ "* LIST () \"/\" \"SubscribedMailbox\"" ∷ [])
unfolding computed
subscription_change = refl

-- ---- RFC 5465, section 6
-- two groups apply to INBOX: message events by the first, its subscription by the second
pub groups_add_up : Prints
    (mb 1 0x37 1 3 1 "INBOX" ∷ cm "a notify set (mailboxes INBOX (Messagenew messageExpunge)) (personal (SubscriptionChange))" ∷ me 1 1 0 100 2 ∷ sb 1 1 0 ∷ [])
    ("a OK NOTIFY done" ∷ "* STATUS \"INBOX\" (UIDNEXT 2 MESSAGES 1 HIGHESTMODSEQ 2)" ∷ "* LIST (\\Subscribed) \"/\" \"INBOX\"" ∷ [])
unfolding computed
groups_add_up = refl

-- the selected group alone says what is told of the selected mailbox: its flags are not asked there, though the second group asks for them
pub selected_alone : Prints
    (mb 1 0x37 1 3 1 "INBOX" ∷ mb 2 0x33 1 4 1 "misc" ∷ se 1
    ∷ cm "a notify set (selected (Messagenew (uid flags) messageExpunge)) (personal (MessageNew FlagChange MessageExpunge))"
    ∷ me 1 1 8 100 2 ∷ fl 1 1 0 3 ∷ me 2 1 0 100 2 ∷ [])
    ("a OK NOTIFY done" ∷ "* 1 EXISTS" ∷ "* 1 FETCH (UID 1 FLAGS (\\Seen) MODSEQ (2))" ∷ "* STATUS \"misc\" (UIDNEXT 2 MESSAGES 1 HIGHESTMODSEQ 2)" ∷ [])
unfolding computed
selected_alone = refl

-- ---- RFC 6237, section 3
-- two searches, one after the other; the second stays one level below folder2, and its key is a flag: a subject is not searched for
pub several_mailboxes : Prints
    (mb 1 0x31 1 1 1 "folder1" ∷ mb 2 0x31 1 503 1 "folder2/banana" ∷ mb 3 0x31 1 3 1 "folder2/peach/stone" ∷ mb 4 0x31 1 1111111 1 "folder2/salmon"
    ∷ me 1 4001 0 100 2 ∷ me 1 4003 0 100 3 ∷ me 2 3002 0 100 2 ∷ me 2 4004 0 100 3 ∷ me 3 921691 0 100 2 ∷ me 4 50003 8 100 2 ∷ me 4 50004 8 100 3
    ∷ cm "tag1 ESEARCH IN (mailboxes \"folder1\" subtree \"folder2\") unseen"
    ∷ cm "tag2 ESEARCH IN (mailboxes \"folder1\" subtree-one \"folder2\") subject \"chad\""
    ∷ cm "tag2 ESEARCH IN (mailboxes \"folder1\" subtree-one \"folder2\") undeleted"
    ∷ [])
    ("* ESEARCH (TAG \"tag1\" MAILBOX \"folder1\" UIDVALIDITY 1) UID ALL 4001,4003"
    ∷ "* ESEARCH (TAG \"tag1\" MAILBOX \"folder2/banana\" UIDVALIDITY 503) UID ALL 3002,4004"
    ∷ "* ESEARCH (TAG \"tag1\" MAILBOX \"folder2/peach/stone\" UIDVALIDITY 3) UID ALL 921691"
    ∷ "tag1 OK ESEARCH done"
    ∷ "tag2 NO unsupported"
    ∷ "* ESEARCH (TAG \"tag2\" MAILBOX \"folder1\" UIDVALIDITY 1) UID ALL 4001,4003"
    ∷ "* ESEARCH (TAG \"tag2\" MAILBOX \"folder2/banana\" UIDVALIDITY 503) UID ALL 3002,4004"
    ∷ "* ESEARCH (TAG \"tag2\" MAILBOX \"folder2/salmon\" UIDVALIDITY 1111111) UID ALL 50003:50004"
    ∷ "tag2 OK ESEARCH done"
    ∷ [])
unfolding computed
several_mailboxes = refl
