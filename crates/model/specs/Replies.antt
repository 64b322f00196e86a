-- How a command is answered: the faults of 01's lines 1 to 4, each by itself, and the ladder of lines 1 to 5 (01, Commands, 12 to 17).
-- What an answer would write is not looked at here: that needs the tables.
use Rattle.std.specs.Prelude.{Bool, true, false, cond, not, ◌&&◌, ◌||◌, List, [], ◌∷◌, ltb, length}
use Rattle.model.specs.Lists.{anyb, filterb}
use Rattle.model.specs.Requests.{Filter, selected, delayed, inboxes, personal, subscribed, subtree, subtree_one, mailboxes, of_selected}
use Rattle.model.specs.Requests.{Attribute, is_other_attribute, Asked}
use Rattle.model.specs.Requests.{Event, is_new, is_expunge, is_flag_change, is_annotation_change, is_other, attributes_of}
use Rattle.model.specs.Requests.{Test, all, unsupported, flagged, larger, smaller, uids, numbers}
use Rattle.model.specs.Requests.{Charset, none, known, unknown, Command, notify_none, notify_set, search}
use Rattle.model.specs.Reading.{Parsed, bad, ok}
use Rattle.model.specs.Limits.{some_tests, command_too_large}
use Rattle.model.specs.declared.Limits.{Limits}
use Rattle.model.specs.declared.Reply.{Reply}
use Rattle.model.specs.declared.Reply.TheVariants.{Bad, BadEvent, Unsupported, BadCharset, TooLarge, Accepted}

-- ---- line 1: groups of NOTIFY (Commands, 13)
-- a group about the selected mailbox
abbrev pub selected_group : Asked → Bool
selected_group g = of_selected g.filter

-- more than one such group, even if they ask nothing
abbrev pub selected_twice : List Asked → Bool
selected_twice gs = ltb 1 (length (filterb selected_group gs))

-- events about messages: a group about the selected mailbox may ask no others
abbrev pub message_event : Event → Bool
message_event e = (is_new e || is_expunge e) || (is_flag_change e || is_annotation_change e)

abbrev pub misplaced_event : Asked → Bool
misplaced_event g = selected_group g && anyb (λ (e : Event). not (message_event e)) g.events

-- fetch attributes: only such a group may ask for them
abbrev pub has_attributes : Event → Bool
has_attributes e = ltb 0 (length (attributes_of e))

abbrev pub misplaced_attributes : Asked → Bool
misplaced_attributes g = not (selected_group g) && anyb has_attributes g.events

-- in one group, an event about messages without MessageNew and MessageExpunge both
abbrev pub unpaired : Asked → Bool
unpaired g = anyb message_event g.events && not (anyb is_new g.events && anyb is_expunge g.events)

-- ---- line 1: sources of ESEARCH (Commands, 13)
-- a filter that NOTIFY alone may have
abbrev pub is_delayed : Filter → Bool
is_delayed selected = false
is_delayed delayed = true
is_delayed inboxes = false
is_delayed personal = false
is_delayed subscribed = false
is_delayed (subtree n ns) = false
is_delayed (subtree_one n ns) = false
is_delayed (mailboxes n ns) = false

-- the selected mailbox is searched: a source speaks of it, or no source is given
abbrev pub needs_selected : List Filter → Bool
needs_selected [] = true
needs_selected (f ∷ fs) = anyb of_selected (f ∷ fs)

-- ---- line 1 (Commands, 13)
-- BAD though the grammar fits; `has_selected` says whether a mailbox is selected
abbrev pub refused : Bool → Command → Bool
refused has_selected notify_none = false
refused has_selected (notify_set status gs) =
    ((selected_twice gs || anyb misplaced_event gs) || anyb misplaced_attributes gs) || anyb unpaired gs
refused has_selected (search q) = anyb is_delayed q.sources || (not has_selected && needs_selected q.sources)

-- ---- line 2: an event that is not among the five that are supported (Commands, 14)
abbrev pub unsupported_event : Event → Bool
unsupported_event e = is_annotation_change e || is_other e

abbrev pub bad_event : Command → Bool
bad_event notify_none = false
bad_event (notify_set status gs) = anyb (λ (g : Asked). anyb unsupported_event g.events) gs
bad_event (search q) = false

-- ---- line 3: an attribute or a key that is read and not supported (Commands, 15)
abbrev pub unsupported_attribute : Attribute → Bool
unsupported_attribute a = is_other_attribute a

abbrev pub asks_unsupported : Event → Bool
asks_unsupported e = anyb unsupported_attribute (attributes_of e)

abbrev pub unsupported_test : Test → Bool
unsupported_test all = false
unsupported_test unsupported = true
unsupported_test (flagged b on) = false
unsupported_test (larger n) = false
unsupported_test (smaller n) = false
unsupported_test (uids l) = false
unsupported_test (numbers l) = false

abbrev pub not_supported : Command → Bool
not_supported notify_none = false
not_supported (notify_set status gs) = anyb (λ (g : Asked). anyb asks_unsupported g.events) gs
not_supported (search q) = some_tests unsupported_test q.keys

-- ---- line 4: a charset that is given and not known (Commands, 16)
abbrev pub unknown_charset : Charset → Bool
unknown_charset none = false
unknown_charset known = false
unknown_charset unknown = true

abbrev pub bad_charset : Command → Bool
bad_charset notify_none = false
bad_charset (notify_set status gs) = false
bad_charset (search q) = unknown_charset q.charset

-- ---- the reply: the lines are tried in their order (Commands, 12)
abbrev pub reply_of : Limits → Bool → Parsed Command → Reply
reply_of l has_selected bad = Bad
reply_of l has_selected (ok p c) =
    cond (refused has_selected c) Bad
    (cond (bad_event c) BadEvent
    (cond (not_supported c) Unsupported
    (cond (bad_charset c) BadCharset
    (cond (command_too_large l c) TooLarge Accepted))))
