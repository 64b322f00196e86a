-- The selected mailbox: the client's view, and the lines that a command's end owes (01, Written, 10, 11, 13 and 15 to 21; Astray, 1).
use Rattle.std.specs.Prelude.{List, [], ◌∷◌, ◌++◌, Bool, not, cond, ◌&&◌, ℕ, ◌+◌, eqb, ltb, length}
use Rattle.model.specs.Lists.{filterb}
use Rattle.model.specs.Memory.{Memory, mails, selected_box, both_rights, uid_of, expunged, marked, messages_of}
use Rattle.model.specs.Groups.{asks_new, asks_expunge, asks_flags, fetches_uid, fetches_flags, fetches_size, fetches_some, selected_asks, immediate_asks}
use Rattle.model.specs.Lines.{Line, exists, expunge, fetch, Item, uid, flags, size, modseq}
use Rattle.model.specs.declared.Message.{Message}
use Rattle.model.specs.declared.MessageNumber.{MessageNumber}
use Rattle.model.specs.declared.Session.{Session}

-- the selected mailbox's entries by UID; the client was told of those with a UID below `told` (Written, 11)
abbrev pub announced : Memory → Message → Bool
announced m e = ltb (uid_of e) m.session.told

abbrev pub selected_messages : Memory → List Message
selected_messages m = messages_of m.session.selected (mails m)

-- the client's view, expunged messages that wait among it
abbrev pub view : Memory → List Message
view m = filterb (announced m) (selected_messages m)

abbrev pub unannounced : Memory → List Message
unannounced m = filterb (λ (e : Message). not (announced m e)) (selected_messages m)

-- the place of message u in a view, from 1
abbrev pub place_of : ℕ → List Message → MessageNumber
place_of u v = record { 0 = 1 + length (filterb (λ (e : Message). ltb (uid_of e) u) v) }

-- ---- lines
-- EXPUNGE for each expunged message; n is the place of the next one when those before it are gone (Astray, 1)
unfoldable pub expunge_lines : ℕ → List Message → List Line
expunge_lines n [] = []
expunge_lines n (e ∷ v) =
    let gone = expunge (record { 0 = n }) e.uid ∷ expunge_lines n v in
    let stays = expunge_lines (n + 1) v in
    cond (expunged e) gone stays

-- the flags of a message whose place is n, and its counter (02, 1)
abbrev pub flags_line : ℕ → Message → Line
flags_line n e = fetch (record { 0 = n }) e.uid (uid e.uid ∷ flags e.flags ∷ modseq e.counter ∷ [])

-- FETCH for each marked message; n is the place of the next one
unfoldable pub marked_lines : ℕ → List Message → List Line
marked_lines n [] = []
marked_lines n (e ∷ v) =
    let rest = marked_lines (n + 1) v in
    cond (marked e) (flags_line n e ∷ rest) rest

-- EXISTS, where a message is unannounced; k is how many others the client has
abbrev pub exists_line : ℕ → List Message → List Line
exists_line k [] = []
exists_line k (e ∷ l) = exists (record { 0 = k + length (e ∷ l) }) ∷ []

-- what the end of a command owes (Written, 20 and 21): with both rights, EXPUNGE for class 1 alone, EXISTS, and FETCH for each mark
abbrev pub remainder : Memory → ℕ → List Message
remainder m c = cond (eqb c 1) (filterb (λ (e : Message). not (expunged e)) (view m)) (view m)

abbrev pub owed_lines : Memory → ℕ → List Line
owed_lines m c =
    cond (eqb c 1) (expunge_lines 1 (view m)) []
    ++ (exists_line (length (remainder m c)) (unannounced m)
    ++ marked_lines 1 (remainder m c))

abbrev pub owed : Memory → ℕ → List Line
owed m c = cond (both_rights (selected_box m)) (owed_lines m c) []

-- ---- what is written at once: the selected group asks for it, and both rights are held (Written, 15, 16 and 19)
abbrev pub new_at_once : Memory → Bool
new_at_once m = both_rights (selected_box m) && selected_asks m.session asks_new

-- a delayed group lets EXPUNGE wait
abbrev pub expunge_at_once : Memory → Bool
expunge_at_once m = both_rights (selected_box m) && immediate_asks m.session asks_expunge

abbrev pub flags_at_once : Memory → Bool
flags_at_once m = both_rights (selected_box m) && selected_asks m.session asks_flags

-- before the first NOTIFY a flag change waits as a mark (Written, 18)
abbrev pub flags_wait : Memory → Bool
flags_wait m = both_rights (selected_box m) && eqb m.session.notified 0

-- ---- new messages announced at once: EXISTS, and a FETCH of what was asked for each of them (Written, 10 and 13). A counter stands in
-- each FETCH, and none is written for its sake (02, 1)
abbrev pub shown_items : Session → Message → List Item
shown_items s e =
    cond (selected_asks s fetches_uid) (uid e.uid ∷ []) []
    ++ (cond (selected_asks s fetches_flags) (flags e.flags ∷ []) []
    ++ cond (selected_asks s fetches_size) (size e.size ∷ []) [])

abbrev pub shows_any : Session → Bool
shows_any s = selected_asks s fetches_some

unfoldable pub new_lines : Session → ℕ → List Message → List Line
new_lines s n [] = []
new_lines s n (e ∷ l) = fetch (record { 0 = n }) e.uid (shown_items s e ++ (modseq e.counter ∷ [])) ∷ new_lines s (n + 1) l

abbrev pub announcing : Memory → List Line
announcing m =
    exists_line (length (view m)) (unannounced m)
    ++ cond (shows_any m.session) (new_lines m.session (length (view m) + 1) (unannounced m)) []
