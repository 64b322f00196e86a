-- What a call answers, in the numbers of 01 (Records, 21 to 29; Commands, 12 to 18; Written, 21; Duties, 13; Forms, 14).
use Rattle.std.specs.Prelude.{List, [], ◌∷◌, ℕ}
use Rattle.model.specs.declared.Refusal.{Refusal}
use Rattle.model.specs.declared.Refusal.TheVariants.{UnlawfulMemory, BadRecord, WrongId, NameHeld, WrongUid, WrongState, TableFull, NoRoom}
use Rattle.model.specs.declared.Answer.{Answer}
use Rattle.model.specs.declared.Answer.TheVariants.{Done, Counted, Refused}
use Rattle.model.specs.declared.Reply.{Reply}
use Rattle.model.specs.declared.Reply.TheVariants.{Bad, BadEvent, Unsupported, BadCharset, TooLarge, Accepted}

-- the number of a refusal (Records, 22 to 29)
abbrev pub refusal_number : Refusal → ℕ
refusal_number UnlawfulMemory = 1
refusal_number BadRecord = 2
refusal_number WrongId = 3
refusal_number NameHeld = 4
refusal_number WrongUid = 5
refusal_number WrongState = 6
refusal_number TableFull = 7
refusal_number NoRoom = 8

-- the number of an answer: 0 where nothing is refused
abbrev pub number_of : Answer → ℕ
number_of Done = 0
number_of (Counted n) = 0
number_of (Refused r) = refusal_number r

-- the counts that it gives: one, or none (Written, 21)
abbrev pub counts_of : Answer → List ℕ
counts_of Done = []
counts_of (Counted n) = n ∷ []
counts_of (Refused r) = []

-- the place of a reply among the six lines (Commands, 13 to 18)
abbrev pub reply_number : Reply → ℕ
reply_number Bad = 1
reply_number BadEvent = 2
reply_number Unsupported = 3
reply_number BadCharset = 4
reply_number TooLarge = 5
reply_number Accepted = 6
