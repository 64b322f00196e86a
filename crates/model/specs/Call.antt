-- One call: an octet string and the memory in, the answer and the memory out (01, Records, 21 to 31; Duties, 8).
use Rattle.std.specs.Prelude.{List, [], ◌∷◌, Bool, false, not, cond, ℕ}
use Rattle.model.specs.Records.{Record, create, delete, rename, subscribe, grant, arrive, expunge, reflag, select, ended, command, drained, record_of_none, is_record, record_of}
use Rattle.model.specs.Memory.{Memory}
use Rattle.model.specs.Lawful.{lawful}
use Rattle.model.specs.Refusals.{wrong_id, name_held, wrong_uid, wrong_state, table_full}
use Rattle.model.specs.Answering.{no_room}
use Rattle.model.specs.Rules.{Outcome, accepted}
use Rattle.model.specs.declared.Refusal.{Refusal}
use Rattle.model.specs.declared.Refusal.TheVariants.{UnlawfulMemory, BadRecord, WrongId, NameHeld, WrongUid, WrongState, TableFull, NoRoom}
use Rattle.model.specs.declared.Answer.TheVariants.{Refused}

-- 8: a command's answer finds no room (Records, 29)
abbrev pub roomless : Memory → Record → Bool
roomless m (create i a q v c n) = false
roomless m (delete i q) = false
roomless m (rename i q n) = false
roomless m (subscribe i s q) = false
roomless m (grant i r) = false
roomless m (arrive i u f z c) = false
roomless m (expunge i u c) = false
roomless m (reflag i u f c) = false
roomless m (select i) = false
roomless m (ended c) = false
roomless m (command t) = no_room m t
roomless m (drained n) = false
roomless m record_of_none = false

-- when each refusal is given (Records, 22 to 29)
abbrev pub applies : Memory → List ℕ → Refusal → Bool
applies m o UnlawfulMemory = not (lawful m)
applies m o BadRecord = not (is_record o)
applies m o WrongId = wrong_id m (record_of o)
applies m o NameHeld = name_held m (record_of o)
applies m o WrongUid = wrong_uid m (record_of o)
applies m o WrongState = wrong_state m (record_of o)
applies m o TableFull = table_full m (record_of o)
applies m o NoRoom = roomless m (record_of o)

-- the refusals by their numbers
abbrev pub refusals : List Refusal
refusals = UnlawfulMemory ∷ BadRecord ∷ WrongId ∷ NameHeld ∷ WrongUid ∷ WrongState ∷ TableFull ∷ NoRoom ∷ []

-- a refused call leaves all memory as it was (Records, 31)
abbrev pub refuse : Memory → Refusal → Outcome
refuse m r = record { answer = Refused r; lines = []; after = m }

-- of the refusals that apply, the one with the least number is the answer (Records, 30)
abbrev pub judge : Memory → List ℕ → List Refusal → Outcome
judge m o [] = accepted m (record_of o)
judge m o (r ∷ rs) = let rest = judge m o rs in cond (applies m o r) (refuse m r) rest

unfoldable pub call : Memory → List ℕ → Outcome
call m o = judge m o refusals
