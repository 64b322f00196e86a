-- The streams of request 3, by computation: the reason of each record. `why00N` is the stream of reading 3.N (docs/DECISIONS.md).
use Rattle.std.specs.Prelude.{◌≡◌, refl, List, [], ◌∷◌}
use Rattle.model.specs.Groups.{number}
use Rattle.model.specs.Memory.{Memory}
use Rattle.model.specs.Call.{call}
use Rattle.model.specs.Hidden.{Octets}
use Rattle.model.specs.Pushrun.{start}
use Rattle.model.specs.Reasons.{points, reason}
use Rattle.model.specs.Examples.Stream.{mb, dl, rn, sb, rt, me, xp, fl, se, ce, cm, dr, computed}
use Rattle.model.specs.declared.Reason.{Reason}
use Rattle.model.specs.declared.Reason.TheVariants.{Refused, Quiet, NoEvent, RightMissing, Unmet, Unasked, Unannounced, Waiting, Written}

unfoldable pub reasoned : Unit {0}
unfolding computed number points reason
reasoned = tt

abbrev pub reasons : Memory → List Octets → List Reason
reasons m [] = []
reasons m (o ∷ os) = reason m o ∷ reasons (call m o).after os

abbrev pub Reasons : List Octets → List Reason → Type 0
Reasons os rs = reasons (start 8192 64 1024) os ≡ rs

pub why001 : Reasons
    (mb 1 0x33 1 7 1 "INBOX"
    ∷ me 1 1 0 10 2
    ∷ me 1 2 8 20 3
    ∷ se 1
    ∷ me 1 3 0 0 9
    ∷ xp 1 1 10
    ∷ fl 1 2 0 4
    ∷ ce 0
    ∷ dl 9 0
    ∷ [])
    (Quiet ∷ Unmet ∷ Unmet ∷ NoEvent ∷ Waiting 0 ∷ Waiting 1 ∷ Refused 5 ∷ NoEvent ∷ Refused 3 ∷ [])
unfolding reasoned
why001 = refl

pub why002 : Reasons
    (mb 1 0x33 1 7 1 "INBOX"
    ∷ me 1 1 0 10 2
    ∷ me 1 2 8 20 3
    ∷ se 1
    ∷ cm "n NOTIFY SET (selected (MessageNew MessageExpunge FlagChange))"
    ∷ rn 1 0 "z"
    ∷ sb 1 1 0
    ∷ mb 2 0x31 0 7 1 "z/a"
    ∷ rt 1 0x20
    ∷ mb 3 0x31 0 7 1 "z/b"
    ∷ [])
    (Quiet ∷ Unmet ∷ Unmet ∷ NoEvent ∷ NoEvent ∷ Unasked ∷ Unasked ∷ Unasked ∷ Unasked ∷ Unmet ∷ [])
unfolding reasoned
why002 = refl

pub why003 : Reasons
    (mb 1 0x33 1 7 1 "INBOX"
    ∷ me 1 1 0 10 2
    ∷ me 1 2 8 20 3
    ∷ se 1
    ∷ cm "n NOTIFY SET (personal (MessageNew MessageExpunge FlagChange))"
    ∷ fl 1 1 1 4
    ∷ me 1 3 0 0 5
    ∷ xp 1 1 6
    ∷ [])
    (Quiet ∷ Unmet ∷ Unmet ∷ NoEvent ∷ NoEvent ∷ Unmet ∷ Waiting 0 ∷ Waiting 1 ∷ [])
unfolding reasoned
why003 = refl

pub why004 : Reasons
    (cm "n NOTIFY SET (mailboxes Ops (MessageNew MessageExpunge))"
    ∷ mb 1 0x31 0 7 1 "Ops/a"
    ∷ cm "n NOTIFY SET (personal NONE) (mailboxes Ops (MailboxName)) (subtree Ops (MailboxName))"
    ∷ dl 1 0
    ∷ mb 1 0x31 0 7 1 "Ops/a"
    ∷ cm "n NOTIFY SET (subtree x (MailboxName))"
    ∷ rt 1 0x20
    ∷ [])
    (NoEvent ∷ Unasked ∷ NoEvent ∷ Written 2 ∷ Written 2 ∷ NoEvent ∷ Unmet ∷ [])
unfolding reasoned
why004 = refl

pub why005 : Reasons
    (mb 1 0x33 1 7 1 "INBOX"
    ∷ me 1 1 0 10 2
    ∷ me 1 2 8 20 3
    ∷ se 1
    ∷ me 1 3 0 0 9
    ∷ fl 1 3 1 10
    ∷ xp 1 3 11
    ∷ cm "n NOTIFY SET (selected NONE)"
    ∷ rt 1 0x10
    ∷ me 1 4 0 0 12
    ∷ rt 1 0x30
    ∷ fl 1 4 1 13
    ∷ xp 1 4 14
    ∷ cm "n NOTIFY SET (selected (MessageNew MessageExpunge FlagChange))"
    ∷ rt 1 0x10
    ∷ me 1 5 0 0 15
    ∷ rt 1 0x30
    ∷ fl 1 5 1 16
    ∷ xp 1 5 17
    ∷ [])
    (Quiet ∷ Unmet ∷ Unmet ∷ NoEvent ∷ Waiting 0 ∷ Unmet ∷ Unmet ∷ NoEvent ∷ NoEvent ∷ RightMissing ∷ NoEvent ∷ Unasked ∷ Unasked ∷ NoEvent ∷ NoEvent ∷ RightMissing ∷ NoEvent ∷ Unannounced ∷ Unannounced ∷ [])
unfolding reasoned
why005 = refl

pub why006 : Reasons
    (mb 1 0x33 1 7 1 "INBOX"
    ∷ me 1 1 0 10 2
    ∷ me 1 2 8 20 3
    ∷ se 1
    ∷ rt 1 0x20
    ∷ me 1 3 0 0 9
    ∷ xp 1 1 10
    ∷ fl 1 2 0 11
    ∷ [])
    (Quiet ∷ Unmet ∷ Unmet ∷ NoEvent ∷ Unmet ∷ RightMissing ∷ RightMissing ∷ RightMissing ∷ [])
unfolding reasoned
why006 = refl

pub why008 : Reasons
    (mb 1 0x33 1 7 1 "INBOX"
    ∷ me 1 1 0 10 2
    ∷ me 1 2 8 20 3
    ∷ se 1
    ∷ sb 1 0 1
    ∷ sb 1 0 0
    ∷ sb 1 1 1
    ∷ sb 1 1 0
    ∷ [])
    (Quiet ∷ Unmet ∷ Unmet ∷ NoEvent ∷ Quiet ∷ NoEvent ∷ Quiet ∷ NoEvent ∷ [])
unfolding reasoned
why008 = refl

pub why009 : Reasons
    (mb 1 0x33 1 7 1 "a"
    ∷ cm "n NOTIFY SET (personal (MailboxName))"
    ∷ rt 1 0x10
    ∷ rt 1 0
    ∷ rt 1 0x10
    ∷ rt 1 0x30
    ∷ rt 1 0x20
    ∷ rt 1 0x30
    ∷ mb 2 0x13 0 7 1 "b"
    ∷ dl 2 0
    ∷ [])
    (Quiet ∷ NoEvent ∷ NoEvent ∷ RightMissing ∷ RightMissing ∷ NoEvent ∷ Written 1 ∷ Written 1 ∷ RightMissing ∷ RightMissing ∷ [])
unfolding reasoned
why009 = refl

pub why010 : Reasons
    (mb 1 0x33 1 7 1 "INBOX"
    ∷ me 1 1 0 10 2
    ∷ me 1 2 8 20 3
    ∷ se 1
    ∷ xp 1 1 4
    ∷ me 1 3 0 0 9
    ∷ fl 1 2 0 10
    ∷ cm "n NOTIFY SET (selected-delayed (MessageNew MessageExpunge FlagChange))"
    ∷ xp 1 2 11
    ∷ cm "n NOTIFY NONE"
    ∷ xp 1 3 12
    ∷ me 1 4 0 0 13
    ∷ fl 1 4 1 14
    ∷ [])
    (Quiet ∷ Unmet ∷ Unmet ∷ NoEvent ∷ Waiting 1 ∷ Waiting 0 ∷ Waiting 0 ∷ NoEvent ∷ Waiting 1 ∷ NoEvent ∷ Waiting 1 ∷ Waiting 0 ∷ Unmet ∷ [])
unfolding reasoned
why010 = refl

pub why011 : Reasons
    (mb 1 0x33 1 7 1 "a"
    ∷ cm "n NOTIFY SET (inboxes NONE) (selected (MessageNew MessageExpunge)) (personal (MessageNew MessageExpunge)) (mailboxes a (MessageNew MessageExpunge FlagChange SubscriptionChange))"
    ∷ me 1 1 0 0 2
    ∷ fl 1 1 1 3
    ∷ se 1
    ∷ me 1 2 0 0 4
    ∷ sb 1 1 0
    ∷ [])
    (Quiet ∷ NoEvent ∷ Written 3 ∷ Written 4 ∷ NoEvent ∷ Written 2 ∷ Written 4 ∷ [])
unfolding reasoned
why011 = refl

pub why012 : Reasons
    (cm "n NOTIFY NONE"
    ∷ dr 99
    ∷ se 9
    ∷ se 0
    ∷ ce 1
    ∷ dr 0
    ∷ cm ""
    ∷ mb 1 0x31 1 7 1 "a"
    ∷ mb 1 0x31 1 7 1 "b"
    ∷ [])
    (NoEvent ∷ Refused 6 ∷ Refused 3 ∷ NoEvent ∷ NoEvent ∷ NoEvent ∷ NoEvent ∷ Quiet ∷ Refused 3 ∷ [])
unfolding reasoned
why012 = refl

pub why013 : Reasons
    (se 0
    ∷ (83 ∷ 69 ∷ 2 ∷ 0 ∷ 0 ∷ [])
    ∷ [])
    (NoEvent ∷ Refused 2 ∷ [])
unfolding reasoned
why013 = refl

pub why014 : Reasons
    (mb 1 0x31 1 7 1 "a"
    ∷ cm "n NOTIFY SET (mailboxes b (MailboxName)) (mailboxes a (MailboxName))"
    ∷ rn 1 0 "c"
    ∷ rn 1 0 "b"
    ∷ rn 1 0 "b"
    ∷ rn 1 0 "d"
    ∷ rn 1 0 "e"
    ∷ [])
    (Quiet ∷ NoEvent ∷ Written 2 ∷ Written 1 ∷ Written 1 ∷ Written 1 ∷ Unmet ∷ [])
unfolding reasoned
why014 = refl

pub why016 : Reasons
    (mb 1 0x33 1 7 1 "INBOX"
    ∷ me 1 1 0 10 2
    ∷ me 1 2 8 20 3
    ∷ se 1
    ∷ mb 2 0x33 1 7 1 "b"
    ∷ me 2 1 0 0 2
    ∷ cm "n NOTIFY SET (selected (MessageNew MessageExpunge)) (mailboxes b (MessageNew MessageExpunge FlagChange))"
    ∷ fl 1 1 1 4
    ∷ fl 2 1 1 3
    ∷ rt 2 0x10
    ∷ fl 2 1 0 4
    ∷ cm "n NOTIFY NONE"
    ∷ fl 1 1 0 5
    ∷ rt 2 0x30
    ∷ fl 2 1 1 5
    ∷ [])
    (Quiet ∷ Unmet ∷ Unmet ∷ NoEvent ∷ Quiet ∷ Unmet ∷ NoEvent ∷ Unasked ∷ Written 2 ∷ NoEvent ∷ RightMissing ∷ NoEvent ∷ Unmet ∷ NoEvent ∷ Unmet ∷ [])
unfolding reasoned
why016 = refl

pub why017 : Reasons
    (mb 1 0x31 1 7 1 "a"
    ∷ cm "n NOTIFY SET (subscribed (SubscriptionChange))"
    ∷ sb 1 1 0
    ∷ sb 1 0 0
    ∷ sb 1 0 0
    ∷ cm "n NOTIFY SET (subscribed (MailboxName))"
    ∷ sb 1 1 0
    ∷ cm "n NOTIFY SET (personal (SubscriptionChange))"
    ∷ sb 1 0 0
    ∷ [])
    (Quiet ∷ NoEvent ∷ Written 1 ∷ Written 1 ∷ NoEvent ∷ NoEvent ∷ Unasked ∷ NoEvent ∷ Unmet ∷ [])
unfolding reasoned
why017 = refl

pub why018 : Reasons
    (mb 1 0x01 0 7 1 "a"
    ∷ mb 2 0x01 1 7 1 "b"
    ∷ dl 2 1
    ∷ rn 1 0 "c"
    ∷ rn 1 1 "d"
    ∷ sb 1 1 0
    ∷ me 1 1 0 0 2
    ∷ xp 1 9 3
    ∷ rt 1 0x20
    ∷ rt 1 0x30
    ∷ [])
    (RightMissing ∷ Quiet ∷ Quiet ∷ RightMissing ∷ Quiet ∷ RightMissing ∷ RightMissing ∷ Refused 5 ∷ NoEvent ∷ Unmet ∷ [])
unfolding reasoned
why018 = refl

pub why021 : Reasons
    (mb 1 0x33 1 7 1 "INBOX"
    ∷ me 1 1 0 10 2
    ∷ me 1 2 8 20 3
    ∷ se 1
    ∷ fl 1 1 1 4
    ∷ rt 1 0x10
    ∷ cm "n NOTIFY SET (selected (MessageNew MessageExpunge))"
    ∷ rt 1 0x30
    ∷ fl 1 1 2 5
    ∷ ce 0
    ∷ fl 1 1 0 6
    ∷ [])
    (Quiet ∷ Unmet ∷ Unmet ∷ NoEvent ∷ Waiting 0 ∷ NoEvent ∷ NoEvent ∷ NoEvent ∷ Unasked ∷ NoEvent ∷ Unasked ∷ [])
unfolding reasoned
why021 = refl

pub why022 : Reasons
    (mb 1 0x31 1 7 1 "Ops/a"
    ∷ cm "n NOTIFY SET (mailboxes Ops (MailboxName SubscriptionChange))"
    ∷ rn 1 0 "Ops/b"
    ∷ sb 1 1 0
    ∷ rt 1 0x10
    ∷ rt 1 0
    ∷ rt 1 0x30
    ∷ dl 1 0
    ∷ mb 1 0x11 0 7 1 "Ops/a"
    ∷ mb 2 0x31 0 7 1 "Ops/c"
    ∷ [])
    (Quiet ∷ NoEvent ∷ Unmet ∷ Unmet ∷ NoEvent ∷ RightMissing ∷ Written 1 ∷ Written 1 ∷ RightMissing ∷ Written 1 ∷ [])
unfolding reasoned
why022 = refl

pub why024 : Reasons
    (se 0
    ∷ (88 ∷ 88 ∷ 0 ∷ 0 ∷ [])
    ∷ (83 ∷ 69 ∷ 1 ∷ 0 ∷ 1 ∷ [])
    ∷ (83 ∷ [])
    ∷ [])
    (NoEvent ∷ Refused 2 ∷ Refused 2 ∷ Refused 2 ∷ [])
unfolding reasoned
why024 = refl

pub why026 : Reasons
    (cm "n NOTIFY SET (mailboxes (a/b) (SubscriptionChange)) (mailboxes a (MessageNew MessageExpunge)) (subtree a/b (MailboxName)) (mailboxes a (MailboxName))"
    ∷ mb 1 0x31 0 7 1 "a/b"
    ∷ mb 2 0x30 1 7 1 "a"
    ∷ dl 1 0
    ∷ mb 1 0x30 0 7 1 "a/b"
    ∷ rt 2 0x20
    ∷ dl 1 0
    ∷ mb 3 0x31 0 7 1 "a/c"
    ∷ [])
    (NoEvent ∷ Written 3 ∷ Quiet ∷ Written 3 ∷ Written 4 ∷ Written 4 ∷ Written 4 ∷ Written 4 ∷ [])
unfolding reasoned
why026 = refl
