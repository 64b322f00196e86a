-- The parent of a mailbox that appears or goes, by computation (02, 2).
use Rattle.std.specs.Prelude.{refl, [], ◌∷◌}
use Rattle.model.specs.Examples.Stream.{mb, dl, rt, cm, Prints, computed}

-- `mailboxes` asks for the parent alone, `subtree` for both: the mailbox's own line stands first
pub alone : Prints
    (cm "t NOTIFY SET (mailboxes Ops (MailboxName))" ∷ mb 1 0x31 0 7 1 "Ops/Mains" ∷ dl 1 0 ∷ [])
    ("t OK NOTIFY done" ∷ "* LIST (\\NonExistent) \"/\" \"Ops\"" ∷ "* LIST (\\NonExistent) \"/\" \"Ops\"" ∷ [])
unfolding computed
alone = refl

pub together : Prints
    (cm "t NOTIFY SET (subtree Ops (MailboxName))" ∷ mb 1 0x31 0 7 1 "Ops/Mains" ∷ [])
    ("t OK NOTIFY done" ∷ "* LIST () \"/\" \"Ops/Mains\"" ∷ "* LIST (\\NonExistent) \"/\" \"Ops\"" ∷ [])
unfolding computed
together = refl

-- a parent that may be listed shows whether it is selectable, without its r and after a loss of l beneath it too
pub listed : Prints
    (mb 9 0x11 1 7 1 "Ops" ∷ cm "t NOTIFY SET (mailboxes (Ops Field) (MessageNew MessageExpunge MailboxName))" ∷ mb 1 0x31 0 7 1 "Ops/Mains" ∷ rt 1 0x20 ∷ [])
    ("* LIST (\\NoAccess) \"/\" \"Ops\"" ∷ "t OK NOTIFY done" ∷ "* LIST () \"/\" \"Ops\"" ∷ "* LIST () \"/\" \"Ops\"" ∷ [])
unfolding computed
listed = refl

pub unselectable : Prints
    (mb 9 0x30 1 7 1 "Ops" ∷ cm "t NOTIFY SET (mailboxes Ops (MailboxName))" ∷ mb 1 0x31 0 7 1 "Ops/Mains" ∷ [])
    ("t OK NOTIFY done" ∷ "* LIST (\\Noselect) \"/\" \"Ops\"" ∷ [])
unfolding computed
unselectable = refl

-- a whole name equal to INBOX is INBOX, as a parent too; a part of a longer name keeps its octets
pub folded : Prints
    (cm "t NOTIFY SET (mailboxes (inbox \"iNbox/x\") (MailboxName))" ∷ mb 1 0x31 0 7 1 "iNbox/x" ∷ mb 2 0x31 0 7 1 "iNbox/x/y" ∷ [])
    ("t OK NOTIFY done" ∷ "* LIST () \"/\" \"iNbox/x\"" ∷ "* LIST (\\NonExistent) \"/\" \"INBOX\"" ∷ "* LIST () \"/\" \"iNbox/x\"" ∷ [])
unfolding computed
folded = refl

-- a name without `/` has no parent, and an argument that is no name does not meet it
pub no-parent : Prints
    (cm "t NOTIFY SET (mailboxes (\"\" \"a//b\") (MailboxName)) (subtree \"\" (MailboxName))" ∷ mb 1 0x33 0 7 1 "Ops" ∷ [])
    ("t OK NOTIFY done" ∷ [])
unfolding computed
no-parent = refl
