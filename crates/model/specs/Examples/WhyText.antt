-- What the tool prints, by computation: each of the eleven answers, and places as they are typed.
use Rattle.std.specs.Prelude.{◌≡◌, refl, List, [], ◌∷◌, ◌++◌, ℕ, replicate}
use Rattle.model.specs.Lists.{concat_map}
use Rattle.model.specs.Text.{octets}
use Rattle.model.specs.Reading.{value_from}
use Rattle.model.specs.Hidden.{Octets}
use Rattle.model.specs.Pushrun.{start}
use Rattle.model.specs.Reasons.{reason_at, why_text, place_of}
use Rattle.model.specs.Examples.Stream.{mb, sb, rt, me, xp, fl, se, cm, lines}
use Rattle.model.specs.Examples.Why.{reasoned}
use Rattle.model.specs.declared.Reason.{Reason}
use Rattle.model.specs.declared.Reason.TheVariants.{Waiting, Overflow}

-- a mailbox whose messages are asked for, at once
abbrev stream : List Octets
stream =
    mb 1 0x33 1 7 1 "INBOX"
    ∷ me 1 1 0 10 2
    ∷ se 1
    ∷ me 1 2 0 0 9
    ∷ cm "n NOTIFY SET (personal (MailboxName)) (selected (MessageNew MessageExpunge FlagChange))"
    ∷ fl 1 1 1 10
    ∷ sb 1 1 0
    ∷ rt 1 0x10
    ∷ me 1 3 0 0 11
    ∷ rt 1 0x30
    ∷ fl 1 3 1 12
    ∷ xp 1 9 13
    ∷ []

abbrev Prints : ℕ → List ℕ → Type 0
Prints k t = why_text (concat_map (λ (o : Octets). o) stream) k ≡ t

pub no_record : Prints 0 (lines ("no record" ∷ []))
unfolding reasoned
no_record = refl

pub behind_the_last : Prints 13 (lines ("no record" ∷ []))
unfolding reasoned
behind_the_last = refl

pub refused : Prints 12 (lines ("refused 5" ∷ []))
unfolding reasoned
refused = refl

pub quiet : Prints 1 (lines ("quiet" ∷ []))
unfolding reasoned
quiet = refl

pub no-event : Prints 3 (lines ("no event" ∷ []))
unfolding reasoned
no-event = refl

pub right_missing : Prints 9 (lines ("right missing" ∷ []))
unfolding reasoned
right_missing = refl

pub unmet : Prints 2 (lines ("no group matches" ∷ []))
unfolding reasoned
unmet = refl

pub unasked : Prints 7 (lines ("group matches but event not asked" ∷ []))
unfolding reasoned
unasked = refl

pub unannounced : Prints 11 (lines ("unannounced message" ∷ []))
unfolding reasoned
unannounced = refl

pub waiting : Prints 4 (lines ("waiting 0" ∷ []))
unfolding reasoned
waiting = refl

pub written : Prints 6 (lines ("written 2" ∷ []))
unfolding reasoned
written = refl

-- answers fill a queue of 1,024 octets: the next notice overflows, and by the groups then the one behind it waits
abbrev filling : List Octets
filling =
    mb 1 0x33 1 7 1 "INBOX"
    ∷ se 1
    ∷ cm "n NOTIFY SET (selected (MessageNew MessageExpunge FlagChange))"
    ∷ replicate 7 (cm "tttttttttttttttttttttttttttttttt NOTIFY SET (personal (X))")
    ++ (cm "x" ∷ cm "x" ∷ cm "x" ∷ me 1 1 0 0 9 ∷ me 1 2 0 0 10 ∷ [])

abbrev Fills : ℕ → Reason → Type 0
Fills k y = reason_at (start 1024 64 1024) filling k ≡ y

pub overflow : Fills 14 Overflow
unfolding reasoned
overflow = refl

pub then-waiting : Fills 15 (Waiting 0)
unfolding reasoned
then-waiting = refl

-- places: zeros may stand in front; a sign, a letter and nothing at all are no place
pub seven : place_of (octets "007") ≡ 7
unfolding value_from
seven = refl

pub signed : place_of (octets "+1") ≡ 0
signed = refl

pub empty : place_of [] ≡ 0
empty = refl
