-- Demand 3 where records are refused: a pair whose hidden records are refused in each way that such a record can be, and whose other records are
-- refused alike in both streams (01, Records, 21 to 31; Duties, 7 to 13).
use Rattle.std.specs.Prelude.{◌≡◌, refl, List, [], ◌∷◌, ◌++◌}
use Rattle.std.proofs.Common.{◌∙◌}
use Rattle.model.specs.Hidden.{Octets}
use Rattle.model.specs.Examples.Stream.{mb, dl, rn, me, xp, fl, se, ce, cm, dr, computed}
use Rattle.model.specs.Examples.Pair.{Pair, Ids, Said, silent, says, refused, is_hidden, dropped, dropped_same, Alike, by-ids}

-- the visible mailbox, with a long name
abbrev pub july : Octets
july = mb 1 0x33 1 4294967295 1 "Ops/Mains/Valves/North/Inspections/Reports/Signed/Archived/July"

-- a search whose answer has 256 octets
abbrev pub look : Octets
look = cm "tag-of-thirty-two-octets-exactly ESEARCH IN (personal) RETURN (MIN MAX ALL COUNT) ALL"

abbrev pub seen : Said
seen = says (
    "* ESEARCH (TAG \"tag-of-thirty-two-octets-exactly\" MAILBOX \"Ops/Mains/Valves/North/Inspections/Reports/Signed/Archived/July\" UIDVALIDITY 4294967295) UID MIN 4294967294 MAX 4294967294 ALL 4294967294 COUNT 1"
    ∷ "tag-of-thirty-two-octets-exactly OK ESEARCH done"
    ∷ []
    )

-- ---- visible records that are refused: mailbox 1 is unknown at first, and then in use
abbrev pub early : List Octets
early = me 1 1 0 100 1 ∷ july ∷ mb 1 0x33 1 7 1 "Works" ∷ []

-- a UID is used again, another is not there (though a hidden mailbox has it), the selected mailbox is deleted, more is drained
-- than there is, a class is out of range, and at last an answer finds no room
abbrev pub late : List Octets
late = me 1 4294967294 0 100 2 ∷ me 1 4294967294 0 100 3 ∷ xp 1 2 4 ∷ se 1 ∷ dl 1 0 ∷ dr 1 ∷ ce 2 ∷ look ∷ look ∷ look ∷ look ∷ []

-- ---- hidden records: of mailbox 2, which takes the second of two rows and for a while both entries, and of id 3, which is never made.
-- Refusal 8 is for commands, which are about no id
abbrev pub secret : List Octets
secret =
    mb 2 0x03 0 9 1 "Vault" ∷ mb 2 0x03 0 9 1 "Attic" ∷ mb 3 0x43 0 9 1 "Attic"
    ∷ rn 2 0 "Ops/Mains/Valves/North/Inspections/Reports/Signed/Archived/July" ∷ xp 3 1 2
    ∷ me 2 2 0 100 2 ∷ me 2 2 0 100 3 ∷ fl 2 7 0 4 ∷ se 2
    ∷ mb 3 0x03 0 9 1 "Attic" ∷ me 2 3 0 100 5 ∷ me 2 4 0 100 6 ∷ xp 2 3 7
    ∷ []

abbrev pub refusing : Pair
refusing = record {
  queue = 1024;
  rows = 2;
  entries = 2;
  left = early ++ (secret ++ late);
  right = early ++ late;
  gone = 2 ∷ 3 ∷ [];
  kept = 0 ∷ 1 ∷ [];
}

ids : Ids refusing
unfolding computed
ids = record { gone = refl; kept = refl; left = refl; right = refl }

pub refusing_alike : Alike refusing (
    refused 3 ∷ silent ∷ refused 3
    ∷ silent ∷ refused 5 ∷ refused 5 ∷ silent ∷ refused 6 ∷ refused 6 ∷ refused 2 ∷ seen ∷ seen ∷ seen ∷ refused 8
    ∷ []
    )
unfolding computed
refusing_alike = by-ids refusing ids (record { hides = refl; rest = refl; excepts = refl; unexcepts = refl; left = refl; right = refl })

-- what the hidden records get: each of 2 to 7 once at least
pub refusing-dropped : dropped refusing (is_hidden refusing) ≡ 0 ∷ 3 ∷ 2 ∷ 4 ∷ 3 ∷ 0 ∷ 5 ∷ 5 ∷ 6 ∷ 7 ∷ 0 ∷ 7 ∷ 0 ∷ []
unfolding computed
refusing-dropped = dropped_same refusing ids ∙ refl
