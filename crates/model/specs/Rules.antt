-- What an accepted record does, and what it answers: one rule for each kind (01, Records, 5 to 18; Written, 12 and 20 to 22; 02, 1).
use Rattle.std.specs.Prelude.{List, [], ℕ, ◌-◌, length}
use Rattle.model.specs.Records.{Record, create, delete, rename, subscribe, grant, arrive, expunge, reflag, select, ended, command, drained, record_of_none}
use Rattle.model.specs.Memory.{Memory, boxes, the_mailbox, with_counter, expunged, with_states, with_session, with_view, put_box, drop_mails, change_mails}
use Rattle.model.specs.Lines.{Line}
use Rattle.model.specs.Queue.{room, fitting, say, dequeue}
use Rattle.model.specs.View.{owed}
use Rattle.model.specs.Events.{Event, created, deleted, renamed_to, subscribed_to, granted, arrived, removed, reflagged, tellings, settled}
use Rattle.model.specs.Answering.{answer_lines, answered}
use Rattle.model.specs.declared.Message.{Message}
use Rattle.model.specs.declared.Answer.{Answer}
use Rattle.model.specs.declared.Answer.TheVariants.{Done, Counted}

-- what a call gives: its answer, the lines that it wrote, and the memory after it
pub record Outcome : Type 0 where
  pub answer : Answer
  pub lines : List Line
  pub after : Memory

-- an event is told (Written, 22)
abbrev pub event_outcome : Memory → (Memory → Event) → Outcome
event_outcome m event = record { answer = Done; lines = tellings m event; after = say (settled m event) (tellings m event) }

-- `SE`: the view is all that exists, and nothing waits any more (Records, 15; Written, 12)
abbrev pub rested : Message → Message
rested e = with_states e 0

abbrev pub selecting : Memory → ℕ → Memory
selecting m i = with_session (change_mails (drop_mails m expunged) rested) (with_view m.session i (the_mailbox i (boxes m)).uidnext)

-- `CE`: as many of the lines owed as fit; the answer counts the others (Records, 16; Written, 20 and 21)
abbrev pub end_lines : Memory → ℕ → List Line
end_lines m c = fitting (room m) (owed m c)

abbrev pub ended_at : Memory → ℕ → Outcome
ended_at m c = record { answer = Counted (length (owed m c) - length (end_lines m c)); lines = end_lines m c; after = say m (end_lines m c) }

-- every `ME`, `XP` and `FL` that is accepted gives its mailbox its counter, whatever is told of it (02, 1)
abbrev pub raised : Memory → ℕ → ℕ → Memory
raised m i c = put_box m i (with_counter (the_mailbox i (boxes m)) c)

-- one rule for each kind
unfoldable pub accepted : Memory → Record → Outcome
accepted m (create i a q v c n) = event_outcome m (λ (k : Memory). created k i a q v c n)
accepted m (delete i q) = event_outcome m (λ (k : Memory). deleted k i q)
accepted m (rename i q n) = event_outcome m (λ (k : Memory). renamed_to k i q n)
accepted m (subscribe i s q) = event_outcome m (λ (k : Memory). subscribed_to k i s q)
accepted m (grant i r) = event_outcome m (λ (k : Memory). granted k i r)
accepted m (arrive i u f z c) = event_outcome (raised m i c) (λ (k : Memory). arrived k i u f z c)
accepted m (expunge i u c) = event_outcome (raised m i c) (λ (k : Memory). removed k i u)
accepted m (reflag i u f c) = event_outcome (raised m i c) (λ (k : Memory). reflagged k i u f c)
accepted m (select i) = record { answer = Done; lines = []; after = selecting m i }
accepted m (ended c) = ended_at m c
accepted m (command t) = record { answer = Done; lines = answer_lines m t; after = answered m t }
accepted m (drained n) = record { answer = Done; lines = []; after = dequeue m n }
accepted m record_of_none = record { answer = Done; lines = []; after = m }
