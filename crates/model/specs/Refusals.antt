-- Refusals 3 to 7: each condition as the table words it (01, Records, 24 to 28).
use Rattle.std.specs.Prelude.{Bool, false, not, ◌&&◌, ◌||◌, ℕ, eqb, leb, ltb, length}
use Rattle.model.specs.Lists.{anyb, same}
use Rattle.model.specs.Names.{Name}
use Rattle.model.specs.Records.{Record, create, delete, rename, subscribe, grant, arrive, expunge, reflag, select, ended, command, drained, record_of_none}
use Rattle.model.specs.Memory.{Memory, boxes, mails, filled, name_of, selectable, may_read, known, the_mailbox, counter_of, is_selected, is_message, expunged}
use Rattle.model.specs.declared.Mailbox.{Mailbox}
use Rattle.model.specs.declared.Message.{Message}

-- 3: the id is in use, for a create; unknown, for the others. To select none is to select what is known (Records, 24)
abbrev pub wrong_id : Memory → Record → Bool
wrong_id m (create i a q v c n) = known i (boxes m)
wrong_id m (delete i q) = not (known i (boxes m))
wrong_id m (rename i q n) = not (known i (boxes m))
wrong_id m (subscribe i s q) = not (known i (boxes m))
wrong_id m (grant i r) = not (known i (boxes m))
wrong_id m (arrive i u f z c) = not (known i (boxes m))
wrong_id m (expunge i u c) = not (known i (boxes m))
wrong_id m (reflag i u f c) = not (known i (boxes m))
wrong_id m (select i) = not (eqb i 0) && not (known i (boxes m))
wrong_id m (ended c) = false
wrong_id m (command t) = false
wrong_id m (drained n) = false
wrong_id m record_of_none = false

-- 4: another mailbox has the name (Records, 25)
abbrev pub held_by_another : Memory → ℕ → Name → Bool
held_by_another m i n = anyb (λ (x : Mailbox). same (name_of x) n && not (eqb x.id i)) (boxes m)

abbrev pub name_held : Memory → Record → Bool
name_held m (create i a q v c n) = held_by_another m i n
name_held m (delete i q) = false
name_held m (rename i q n) = held_by_another m i n
name_held m (subscribe i s q) = false
name_held m (grant i r) = false
name_held m (arrive i u f z c) = false
name_held m (expunge i u c) = false
name_held m (reflag i u f c) = false
name_held m (select i) = false
name_held m (ended c) = false
name_held m (command t) = false
name_held m (drained n) = false
name_held m record_of_none = false

-- 5: a new message's UID is not above all that were ever used there; another's message is not there, or is expunged (Records, 26);
-- or the record's counter is not above the mailbox's own (02, 1)
abbrev pub absent : Memory → ℕ → ℕ → Bool
absent m i u = not (anyb (λ (e : Message). is_message i u e && not (expunged e)) (mails m))

abbrev pub stale : Memory → ℕ → ℕ → Bool
stale m i c = leb c (counter_of (the_mailbox i (boxes m)))

abbrev pub wrong_uid : Memory → Record → Bool
wrong_uid m (create i a q v c n) = false
wrong_uid m (delete i q) = false
wrong_uid m (rename i q n) = false
wrong_uid m (subscribe i s q) = false
wrong_uid m (grant i r) = false
wrong_uid m (arrive i u f z c) = ltb u (the_mailbox i (boxes m)).uidnext || stale m i c
wrong_uid m (expunge i u c) = absent m i u || stale m i c
wrong_uid m (reflag i u f c) = absent m i u || stale m i c
wrong_uid m (select i) = false
wrong_uid m (ended c) = false
wrong_uid m (command t) = false
wrong_uid m (drained n) = false
wrong_uid m record_of_none = false

-- 6: a mailbox is selected that is unselectable or may not be read; the selected one is deleted; more is drained than the queue holds (Records, 27)
abbrev pub unfit : Mailbox → Bool
unfit x = not (selectable x) || not (may_read x)

abbrev pub wrong_state : Memory → Record → Bool
wrong_state m (create i a q v c n) = false
wrong_state m (delete i q) = is_selected m i
wrong_state m (rename i q n) = false
wrong_state m (subscribe i s q) = false
wrong_state m (grant i r) = false
wrong_state m (arrive i u f z c) = false
wrong_state m (expunge i u c) = false
wrong_state m (reflag i u f c) = false
wrong_state m (select i) = not (eqb i 0) && unfit (the_mailbox i (boxes m))
wrong_state m (ended c) = false
wrong_state m (command t) = false
wrong_state m (drained n) = ltb (filled m) n
wrong_state m record_of_none = false

-- 7: a table is full (Records, 28)
abbrev pub table_full : Memory → Record → Bool
table_full m (create i a q v c n) = leb (length m.rows) (length (boxes m))
table_full m (delete i q) = false
table_full m (rename i q n) = false
table_full m (subscribe i s q) = false
table_full m (grant i r) = false
table_full m (arrive i u f z c) = leb (length m.entries) (length (mails m))
table_full m (expunge i u c) = false
table_full m (reflag i u f c) = false
table_full m (select i) = false
table_full m (ended c) = false
table_full m (command t) = false
table_full m (drained n) = false
table_full m record_of_none = false
