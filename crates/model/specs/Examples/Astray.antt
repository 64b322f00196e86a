-- The three easy mistakes, each as two streams for which pushrun prints the same lines (01, Astray, 1 to 3).
use Rattle.std.specs.Prelude.{refl, List, [], ◌∷◌}
use Prim.Native.String.{String}
use Rattle.model.specs.Hidden.{Octets}
use Rattle.model.specs.Examples.Stream.{mb, rn, rt, me, xp, se, cm, Prints, computed}

-- both streams print these lines
abbrev pub Both : List Octets → List Octets → List String → Type 0
Both a b ts = Prints a ts × Prints b ts

-- 1: message 1 is expunged while l is missing, and waits; or it is not expunged. The client has two messages either way
pub expunge_by_view : Both
    (mb 1 0x33 1 7 1 "Ops" ∷ me 1 1 0 100 2 ∷ me 1 2 0 100 3 ∷ se 1 ∷ cm "a NOTIFY SET (selected (MessageNew MessageExpunge))"
    ∷ rt 1 0x20 ∷ xp 1 1 4 ∷ rt 1 0x30 ∷ xp 1 2 5 ∷ [])
    (mb 1 0x33 1 7 1 "Ops" ∷ me 1 1 0 100 2 ∷ me 1 2 0 100 3 ∷ se 1 ∷ cm "a NOTIFY SET (selected (MessageNew MessageExpunge))"
    ∷ rt 1 0x20 ∷ rt 1 0x30 ∷ xp 1 2 4 ∷ [])
    ("a OK NOTIFY done" ∷ "* 2 EXPUNGE" ∷ [])
unfolding computed
expunge_by_view = (refl, refl)

-- 2: a folder with a message that may be neither listed nor read; or no folder
pub hidden_as_absent : Both
    (mb 1 0x03 1 7 1 "Vault" ∷ me 1 1 0 100 2 ∷ cm "a ESEARCH IN (mailboxes Vault) ALL" ∷ [])
    (cm "a ESEARCH IN (mailboxes Vault) ALL" ∷ [])
    ("a OK ESEARCH done" ∷ [])
unfolding computed
hidden_as_absent = (refl, refl)

-- 3: the group knows the old name alone; or the new one alone
pub renamed_by_either : Both
    (mb 1 0x33 1 7 1 "Ops" ∷ cm "a NOTIFY SET (mailboxes Ops (MailboxName))" ∷ rn 1 0 "Works" ∷ [])
    (mb 1 0x33 1 7 1 "Ops" ∷ cm "a NOTIFY SET (mailboxes Works (MailboxName))" ∷ rn 1 0 "Works" ∷ [])
    ("a OK NOTIFY done" ∷ "* LIST () \"/\" \"Works\" (\"OLDNAME\" (\"Ops\"))" ∷ [])
unfolding computed
renamed_by_either = (refl, refl)
