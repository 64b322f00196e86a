-- What waits through NOTIFY NONE and through a right that is missing for a while, and what is dropped (01, Written, 17 to 20).
use Rattle.std.specs.Prelude.{refl, [], ◌∷◌}
use Rattle.model.specs.Examples.Stream.{mb, rt, me, xp, fl, se, ce, cm, Prints, computed}

-- message 1 goes before r is lost, message 3 comes after it; nothing is written until r is back
pub kept_without_read : Prints
    (mb 1 0x33 1 7 1 "Ops" ∷ me 1 1 0 100 2 ∷ me 1 2 0 100 3 ∷ se 1 ∷ xp 1 1 4
    ∷ rt 1 0x10 ∷ me 1 3 0 100 5 ∷ ce 1 ∷ rt 1 0x30 ∷ ce 1 ∷ [])
    ("* 1 EXPUNGE" ∷ "* 2 EXISTS" ∷ [])
unfolding computed
kept_without_read = refl

-- the flags of message 1 change without r, those of message 2 with both rights
pub dropped_without_read : Prints
    (mb 1 0x33 1 7 1 "Ops" ∷ me 1 1 0 100 2 ∷ me 1 2 0 100 3 ∷ se 1
    ∷ rt 1 0x10 ∷ fl 1 1 8 4 ∷ rt 1 0x30 ∷ fl 1 2 8 5 ∷ ce 0 ∷ [])
    ("* 2 FETCH (UID 2 FLAGS (\\Seen) MODSEQ (5))" ∷ [])
unfolding computed
dropped_without_read = refl

-- a mark outlives NOTIFY NONE, after which a flag change makes none
pub kept_after_none : Prints
    (mb 1 0x33 1 7 1 "Ops" ∷ me 1 1 0 100 2 ∷ me 1 2 0 100 3 ∷ se 1
    ∷ fl 1 1 8 4 ∷ cm "a NOTIFY NONE" ∷ fl 1 2 8 5 ∷ ce 0 ∷ [])
    ("a OK NOTIFY done" ∷ "* 1 FETCH (UID 1 FLAGS (\\Seen) MODSEQ (4))" ∷ [])
unfolding computed
kept_after_none = refl
