-- The cases P1 to P10, as one table under one statement (01, Examples, 1 to 8; Duties, 5).
use Rattle.std.specs.Prelude.{◌≡◌, refl, List, [], ◌∷◌, map}
use Prim.Native.String.{String}
use Rattle.model.specs.Hidden.{Octets}
use Rattle.model.specs.Lists.{concat_map}
use Rattle.model.specs.Pushrun.{pushrun}
use Rattle.model.specs.Examples.Stream.{mb, me, cm, lines, computed}

-- a case: a stream of records, and the lines that pushrun prints for it
pub record Case : Type 0 where
  pub given : List Octets
  pub prints : List String

-- a command that needs no records before it, and its answer
abbrev pub answers : String → String → Case
answers command reply = record { given = cm command ∷ []; prints = reply ∷ [] }

abbrev pub table : List Case
table =
    -- P1: both events in their own parentheses
    answers "a NOTIFY SET (selected (MessageNew MessageExpunge))" "a OK NOTIFY done"
    -- P2: the same without them, as RFC 5465 writes it in section 3.1
    ∷ answers "a NOTIFY SET (selected MessageNew MessageExpunge)" "a BAD refused"
    -- P3: MessageNew needs MessageExpunge
    ∷ answers "a NOTIFY SET (selected (MessageNew))" "a BAD refused"
    -- P4: FlagChange needs both
    ∷ answers "a NOTIFY SET (selected (FlagChange))" "a BAD refused"
    -- P5: with both AnnotationChange is well asked, and not supported
    ∷ answers "a NOTIFY SET (selected (MessageNew MessageExpunge AnnotationChange))" "a NO [BADEVENT (MessageNew MessageExpunge FlagChange MailboxName SubscriptionChange)] unsupported"
    -- P6: eight lists, each inside another
    ∷ answers "a ESEARCH IN (personal) ((((((((ALL))))))))" "a OK ESEARCH done"
    -- P7: nine
    ∷ answers "a ESEARCH IN (personal) (((((((((ALL)))))))))" "a NO [LIMIT] too large"
    -- P8: 3 and 4 are joined, 9 stands apart
    ∷ record {
      given = mb 1 0x33 1 7 1 "Ops" ∷ me 1 3 0 100 2 ∷ me 1 4 0 100 3 ∷ me 1 9 0 100 4 ∷ cm "a ESEARCH IN (personal) ALL" ∷ [];
      prints = "* ESEARCH (TAG \"a\" MAILBOX \"Ops\" UIDVALIDITY 7) UID ALL 3:4,9" ∷ "a OK ESEARCH done" ∷ [];
    }
    -- P9: Opsroom begins with Ops, and does not lie beneath it
    ∷ record {
      given = mb 1 0x33 1 7 1 "Ops" ∷ mb 2 0x33 1 8 1 "Opsroom" ∷ mb 3 0x33 1 9 1 "Ops/Mains" ∷ cm "a NOTIFY SET STATUS (subtree Ops (MessageNew MessageExpunge))" ∷ [];
      prints = "* STATUS \"Ops\" (MESSAGES 0 UIDNEXT 1 UIDVALIDITY 7 HIGHESTMODSEQ 1)" ∷ "* STATUS \"Ops/Mains\" (MESSAGES 0 UIDNEXT 1 UIDVALIDITY 9 HIGHESTMODSEQ 1)" ∷ "a OK NOTIFY done" ∷ [];
    }
    -- P10: INBOX in any case of its letters
    ∷ record {
      given = mb 1 0x37 1 7 1 "INBOX" ∷ cm "a NOTIFY SET STATUS (mailboxes inbox (MessageNew MessageExpunge))" ∷ [];
      prints = "* STATUS \"INBOX\" (MESSAGES 0 UIDNEXT 1 UIDVALIDITY 7 HIGHESTMODSEQ 1)" ∷ "a OK NOTIFY done" ∷ [];
    }
    ∷ []

-- each stream prints its lines
pub cases : map (λ (c : Case). pushrun (concat_map (λ (o : Octets). o) c.given)) table ≡ map (λ (c : Case). lines c.prints) table
unfolding computed
cases = refl
