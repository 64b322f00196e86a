-- The session printed in 01 with change counters, by computation (01, Examples, 10 to 12; 02, 1).
use Rattle.std.specs.Prelude.{refl, List, [], ◌∷◌, ◌++◌}
use Prim.Native.String.{String}
use Rattle.model.specs.Hidden.{Octets}
use Rattle.model.specs.Examples.Stream.{mb, me, xp, se, cm, Prints, computed}

abbrev pub records : List Octets
records =
    mb 1 0x37 1 7 1 "INBOX"
    ∷ mb 2 0x31 1 4 1 "Ops/Mains"
    ∷ cm "a NOTIFY SET STATUS (selected (MessageNew (UID) MessageExpunge)) (subtree Ops (MessageNew MessageExpunge))"
    ∷ me 2 5 0 100 2
    ∷ se 1
    ∷ me 1 3 0 100 2
    ∷ cm "b ESEARCH IN (personal subtree Ops) RETURN (MIN COUNT) UNSEEN"
    ∷ xp 1 3 3
    ∷ []

-- the nine lines
abbrev pub printed_lines : List String
printed_lines =
    "* STATUS \"Ops/Mains\" (MESSAGES 0 UIDNEXT 1 UIDVALIDITY 4 HIGHESTMODSEQ 1)"
    ∷ "a OK NOTIFY done"
    ∷ "* STATUS \"Ops/Mains\" (UIDNEXT 6 MESSAGES 1 HIGHESTMODSEQ 2)"
    ∷ "* 1 EXISTS"
    ∷ "* 1 FETCH (UID 3 MODSEQ (2))"
    ∷ "* ESEARCH (TAG \"b\" MAILBOX \"INBOX\" UIDVALIDITY 7) UID MIN 3 COUNT 1"
    ∷ "* ESEARCH (TAG \"b\" MAILBOX \"Ops/Mains\" UIDVALIDITY 4) UID MIN 5 COUNT 1"
    ∷ "b OK ESEARCH done"
    ∷ "* 1 EXPUNGE"
    ∷ []

pub session : Prints records printed_lines
unfolding computed
session = refl

-- what is torn at the end is one record more, and refused
pub torn : Prints (records ++ ((67 ∷ 69 ∷ 1 ∷ []) ∷ [])) (printed_lines ++ ("! 2" ∷ []))
unfolding computed
torn = refl
