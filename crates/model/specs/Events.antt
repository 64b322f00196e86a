-- What a record about a mailbox or a message changes, and the lines that it owes at once (01, Written, 1 to 10, 14 to 19 and 22; Records, 4; Store, 3; 02, 1 and 2).
use Rattle.std.specs.Prelude.{List, [], ◌∷◌, ◌++◌, Bool, cond, ◌&&◌, ◌||◌, ℕ, ◌+◌, ◌*◌, ◌/◌, ◌%◌, eqb, ltb, length, get_or}
use Rattle.model.specs.Lists.{when, filterb, same}
use Rattle.model.specs.Names.{Name, parent_of, has_parent}
use Rattle.model.specs.Memory.{Memory, boxes, mails, name_of, selectable, subscribed as is_subscribed, may_list, both_rights, with_attributes, with_next, with_name, counter_of, stored, the_mailbox, is_selected, in_mailbox, is_message, existing, with_flags, with_states, put_box, add_box, drop_box, add_mail, drop_mails, change_mails, with_session, silenced}
use Rattle.model.specs.Groups.{asked, asked_of, asks_new, asks_expunge, asks_flags, asks_name, asks_subscription}
use Rattle.model.specs.Lines.{Line, StatusItem, status, mail_items, flag_items, list, renamed, expunge, overflow, ListMark, plain, noselect, non_existent, subscribed}
use Rattle.model.specs.Queue.{fits}
use Rattle.model.specs.View.{view, place_of, new_at_once, expunge_at_once, flags_at_once, flags_wait, announcing, flags_line}
use Rattle.model.specs.declared.Mailbox.{Mailbox}
use Rattle.model.specs.declared.Message.{Message}
use Rattle.model.specs.declared.Session.{Session}

-- an event: the memory with its change made, and the lines owed at once
pub record Event : Type 0 where
  pub stored : Memory
  pub lines : List Line

-- ---- mailbox events (Written, 5 to 9). A line is owed with both rights, if a group asks
-- a quiet record owes no notice (Records, 4)
abbrev pub loud : ℕ → List Line → List Line
loud q ls = cond (eqb q 0) ls []

abbrev pub list_mark : Mailbox → ListMark
list_mark x = cond (selectable x) plain noselect

abbrev pub create_lines : Session → Mailbox → List Line
create_lines s x = when (both_rights x && asked_of s x asks_name) (list (list_mark x) (name_of x))

abbrev pub delete_lines : Session → Mailbox → List Line
delete_lines s x = when (both_rights x && asked_of s x asks_name) (list non_existent (name_of x))

-- a new mailbox; its UIDNEXT is 1 (Written, 3), its counter the record's (02, 1)
abbrev pub new_box : ℕ → ℕ → ℕ → ℕ → Name → Mailbox
new_box i a v c n = record { id = i; attributes = a; namelen = length n; uidvalidity = v; uidnext = 1; counterlow = c % 4294967296; counterhigh = c / 4294967296; name = stored n }

-- ---- the direct parent, which a create and a delete affect too, whether it exists or not (02, 2)
-- what stands for a parent that is absent or may not be listed: a row with its name, and selectable, so that `subtree` and `mailboxes` meet it by its
-- name and no other group meets it
abbrev pub stand_in : Name → Mailbox
stand_in p = new_box 0 1 0 0 p

-- a row with this name that may be listed; of the rows the first such, or else the stand-in
abbrev pub is_listed : Name → Mailbox → Bool
is_listed p x = may_list x && same (name_of x) p

abbrev pub listed_row : Name → List Mailbox → Mailbox
listed_row p l = get_or (filterb (is_listed p) l) 0 (stand_in p)

-- the parent of x, by the rows before the record
abbrev pub parent_row : List Mailbox → Mailbox → Mailbox
parent_row l x = listed_row (parent_of (name_of x)) l

-- how it is listed: as at a create of it, and as what does not exist where it may not be listed
abbrev pub parent_mark : Mailbox → ListMark
parent_mark y = cond (may_list y) (list_mark y) non_existent

-- its line, y being the parent of x, which appears or goes: with both rights on x, whatever r on y, if a group asks for y
abbrev pub parent_asked : Session → Mailbox → Mailbox → Bool
parent_asked s y x = has_parent (name_of x) && asked_of s y asks_name

abbrev pub parent_lines : Session → Mailbox → Mailbox → List Line
parent_lines s y x = when (both_rights x && parent_asked s y x) (list (parent_mark y) (name_of y))

abbrev pub created : Memory → ℕ → ℕ → ℕ → ℕ → ℕ → Name → Event
created m i a q v c n =
    let x = new_box i a v c n in
    record {
      stored = add_box m x;
      lines = loud q (create_lines m.session x ++ parent_lines m.session (parent_row (boxes m) x) x);
    }

-- its messages go with it
abbrev pub deleted : Memory → ℕ → ℕ → Event
deleted m i q =
    let x = the_mailbox i (boxes m) in
    record {
      stored = drop_mails (drop_box m i) (in_mailbox i);
      lines = loud q (delete_lines m.session x ++ parent_lines m.session (parent_row (boxes m) x) x);
    }

-- a rename is matched by the old name or the new one (Written, 8)
abbrev pub rename_lines : Session → Mailbox → Mailbox → List Line
rename_lines s x y = when (both_rights x && (asked_of s x asks_name || asked_of s y asks_name)) (renamed (list_mark x) (name_of y) (name_of x))

abbrev pub renamed_to : Memory → ℕ → ℕ → Name → Event
renamed_to m i q n =
    let x = the_mailbox i (boxes m) in
    record {
      stored = put_box m i (with_name x n);
      lines = loud q (rename_lines m.session x (with_name x n));
    }

-- bit 3 becomes b
abbrev pub with_subscribed : ℕ → ℕ → ℕ
with_subscribed a b = a % 8 + (8 * b + 16 * (a / 16))

-- a change of subscription is matched as if the mailbox were subscribed (Written, 9)
abbrev pub subscription_lines : Session → Mailbox → ℕ → List Line
subscription_lines s x b =
    let differs = cond (is_subscribed x) (eqb b 0) (eqb b 1) in
    when (differs && (both_rights x && asked s (name_of x) (with_subscribed x.attributes 1) asks_subscription))
    (list (cond (eqb b 1) subscribed plain) (name_of x))

abbrev pub subscribed_to : Memory → ℕ → ℕ → ℕ → Event
subscribed_to m i b q =
    let x = the_mailbox i (boxes m) in
    record {
      stored = put_box m i (with_attributes x (with_subscribed x.attributes b));
      lines = loud q (subscription_lines m.session x b);
    }

-- rights: the mailbox before and after. To gain l is a create, by the rights after; to lose it a delete, by those before (Written, 1 and 6); p is the parent
abbrev pub rights_lines : Session → Mailbox → Mailbox → Mailbox → List Line
rights_lines s p x y =
    cond (may_list x) (cond (may_list y) [] (delete_lines s x ++ parent_lines s p x))
    (cond (may_list y) (create_lines s y ++ parent_lines s p y) [])

-- bits 4 and 5 become r's
abbrev pub with_rights : Mailbox → ℕ → Mailbox
with_rights x r = with_attributes x (x.attributes % 16 + r)

abbrev pub granted : Memory → ℕ → ℕ → Event
granted m i r =
    let x = the_mailbox i (boxes m) in
    record {
      stored = put_box m i (with_rights x r);
      lines = rights_lines m.session (parent_row (boxes m) x) x (with_rights x r);
    }

-- ---- message events. The mailbox's row has the record's counter already (Rules, `raised`)
-- a STATUS of a mailbox that is not selected (Written, 3)
abbrev pub status_lines : Mailbox → Bool → List StatusItem → List Line
status_lines x wanted is = when (both_rights x && wanted) (status (name_of x) is)

-- what it says after a message came or went, and after a change of flags (Written, 3; 02, 1)
abbrev pub counts_of : Memory → Mailbox → List StatusItem
counts_of m x = mail_items x.uidnext (length (existing x.id (mails m))) (counter_of x)

abbrev pub changes_of : Mailbox → List StatusItem
changes_of x = flag_items x.uidvalidity (counter_of x)

-- the message is stored, and UIDNEXT is one above its UID (Written, 3)
abbrev pub message : ℕ → ℕ → ℕ → ℕ → ℕ → Message
message i u f z c = record { mailbox = i; uid = record { 0 = u }; flags = f; size = z; states = 0; counter = c }

abbrev pub with_arrived : Memory → ℕ → ℕ → ℕ → ℕ → ℕ → Memory
with_arrived m i u f z c = add_mail (put_box m i (with_next (the_mailbox i (boxes m)) (u + 1))) (message i u f z c)

abbrev pub arrived : Memory → ℕ → ℕ → ℕ → ℕ → ℕ → Event
arrived m i u f z c =
    let after = with_arrived m i u f z c in
    let x = the_mailbox i (boxes after) in
    record {
      stored = after;
      lines = cond (is_selected m i)
          (cond (new_at_once m) (announcing after) [])
          (status_lines x (asked_of m.session x asks_new) (counts_of after x));
    }

-- an expunged message of the view waits, or is told at once; another is gone at once (Store, 3; Written, 14 to 19)
abbrev pub in_view : Memory → ℕ → ℕ → Bool
in_view m i u = is_selected m i && ltb u m.session.told

abbrev pub expire : ℕ → ℕ → Message → Message
expire i u e = cond (is_message i u e) (with_states e 1) e

abbrev pub removed : Memory → ℕ → ℕ → Event
removed m i u =
    let x = the_mailbox i (boxes m) in
    let without = drop_mails m (is_message i u) in
    cond (in_view m i u)
    (cond (expunge_at_once m)
    (record { stored = m; lines = expunge (place_of u (view m)) (record { 0 = u }) ∷ [] })
    (record { stored = change_mails m (expire i u); lines = [] }))
    (record { stored = without; lines = cond (is_selected m i) [] (status_lines x (asked_of m.session x asks_expunge) (counts_of without x)) })

-- a flag change of a message in the view is told at once, waits as a mark, or is dropped (Written, 10, 15 and 17 to 19); of one that is not
-- announced it is told to nobody; outside the selected mailbox it owes a STATUS (02, 1)
abbrev pub reflag : ℕ → ℕ → ℕ → ℕ → Message → Message
reflag i u f c e = cond (is_message i u e) (with_flags e f c) e

abbrev pub mark : ℕ → ℕ → Message → Message
mark i u e = cond (is_message i u e) (with_states e 2) e

abbrev pub reflagged : Memory → ℕ → ℕ → ℕ → ℕ → Event
reflagged m i u f c =
    let x = the_mailbox i (boxes m) in
    let after = change_mails m (reflag i u f c) in
    cond (in_view m i u)
    (cond (flags_at_once m)
    (record { stored = after; lines = flags_line (place_of u (view m)).0 (message i u f 0 c) ∷ [] })
    (cond (flags_wait m)
    (record { stored = change_mails after (mark i u); lines = [] })
    (record { stored = after; lines = [] })))
    (record { stored = after; lines = cond (is_selected m i) [] (status_lines x (asked_of m.session x asks_flags) (changes_of x)) })

-- ---- an event is told: its lines are written together, or else it is treated as after NOTIFY NONE, and the overflow line is written (Written, 22)
abbrev pub silence : Memory → Memory
silence m = with_session m (silenced m.session)

unfoldable pub tellings : Memory → (Memory → Event) → List Line
tellings m event = cond (fits m (event m).lines) (event m).lines (overflow ∷ [])

unfoldable pub settled : Memory → (Memory → Event) → Memory
settled m event = cond (fits m (event m).lines) (event m).stored (event (silence m)).stored
