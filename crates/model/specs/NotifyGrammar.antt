-- NOTIFY: whom a group is about, its events, and the command (01, Commands, 5 and 6; Matches, 1; RFC 5465, section 8).
use Rattle.std.specs.Prelude.{Bool, true, false, cond, ◌&&◌, List, [], ◌∷◌, ℕ, ◌+◌, length}
use Rattle.model.specs.Octets.{atom_octet}
use Rattle.model.specs.Requests.{Filter, selected, delayed, inboxes, personal, subscribed, subtree, subtree_one, mailboxes}
use Rattle.model.specs.Requests.{Event, message_new, message_expunge, flag_change, annotation_change, mailbox_name, subscription_change, other_event}
use Rattle.model.specs.Requests.{Asked, Command, notify_none, notify_set}
use Rattle.model.specs.Reading.{Parsed, bad, ok, and_then, stands, after, end_of, atom_at, is, word_at, astring_at, row_at, line_end, next_at, list_at}
use Rattle.model.specs.Attributes.{attribute_at}

-- ---- filters
-- one mailbox, or several in parentheses (RFC 5465, one-or-more-mailbox)
abbrev pub names_at : List ℕ → ℕ → Parsed (List (List ℕ))
names_at s p = cond (stands s p "(") (list_at (astring_at s) s p) (and_then (astring_at s p) λ q name. ok q (name ∷ []))

-- a filter's word stands alone, or has names behind it, or is none
pub data Scope : Type 0 where
  alone : Filter → Scope
  subtree_of one_level_of mailboxes_of unscoped : Scope

unfoldable pub scope_of : List ℕ → Scope
scope_of w =
    cond (is w "selected") (alone selected)
    (cond (is w "selected-delayed") (alone delayed)
    (cond (is w "inboxes") (alone inboxes)
    (cond (is w "personal") (alone personal)
    (cond (is w "subscribed") (alone subscribed)
    (cond (is w "subtree") subtree_of
    (cond (is w "subtree-one") one_level_of
    (cond (is w "mailboxes") mailboxes_of unscoped)))))))

-- the filter with the names that stand behind its word
abbrev pub with_names : (List ℕ → List (List ℕ) → Filter) → ℕ → List (List ℕ) → Parsed Filter
with_names f p [] = bad
with_names f p (n ∷ ns) = ok p (f n ns)

abbrev pub named_by : (List ℕ → List (List ℕ) → Filter) → List ℕ → ℕ → Parsed Filter
named_by f s p = after s p " " λ q. and_then (names_at s q) λ r names. with_names f r names

abbrev pub filter_by : Scope → List ℕ → ℕ → Parsed Filter
filter_by (alone f) s p = ok p f
filter_by subtree_of s p = named_by subtree s p
filter_by one_level_of s p = named_by subtree_one s p
filter_by mailboxes_of s p = named_by mailboxes s p
filter_by unscoped s p = bad

-- whom a group of NOTIFY or a source of ESEARCH is about (RFC 5465, filter-mailboxes; RFC 6237, section 4)
unfoldable pub filter_at : List ℕ → ℕ → Parsed Filter
filter_at s p = and_then (atom_at s p) λ q w. filter_by (scope_of w) s q

-- ---- events
-- the event that a word names: any atom is one (RFC 5465, event)
unfoldable pub event_of : List ℕ → Event
event_of w =
    cond (is w "MessageNew") (message_new [])
    (cond (is w "MessageExpunge") message_expunge
    (cond (is w "FlagChange") flag_change
    (cond (is w "AnnotationChange") annotation_change
    (cond (is w "MailboxName") mailbox_name
    (cond (is w "SubscriptionChange") subscription_change other_event)))))

-- MessageNew may have fetch attributes in parentheses behind it; a list behind another event does not fit
abbrev pub event_by : Event → List ℕ → ℕ → Parsed Event
event_by (message_new l) s p =
    cond (stands s p " " && stands s (p + 1) "(")
    (and_then (list_at (attribute_at s) s (p + 1)) λ q attributes. ok q (message_new attributes))
    (ok p (message_new l))
event_by message_expunge s p = ok p message_expunge
event_by flag_change s p = ok p flag_change
event_by annotation_change s p = ok p annotation_change
event_by mailbox_name s p = ok p mailbox_name
event_by subscription_change s p = ok p subscription_change
event_by other_event s p = ok p other_event

abbrev pub event_at : List ℕ → ℕ → Parsed Event
event_at s p = and_then (atom_at s p) λ q w. event_by (event_of w) s q

-- events in their parentheses, or the word NONE (Commands, 6)
unfoldable pub events_at : List ℕ → ℕ → Parsed (List Event)
events_at s p =
    cond (stands s p "(") (list_at (event_at s) s p)
    (cond (word_at s p "NONE") (ok (end_of atom_octet s p) []) bad)

-- ---- groups
-- one level of a subtree is for ESEARCH alone (Matches, 1)
abbrev pub groupable : Filter → Bool
groupable selected = true
groupable delayed = true
groupable inboxes = true
groupable personal = true
groupable subscribed = true
groupable (subtree n ns) = true
groupable (subtree_one n ns) = false
groupable (mailboxes n ns) = true

-- a filter and its events, in parentheses (RFC 5465, event-group)
abbrev pub group_by : Bool → Filter → List ℕ → ℕ → Parsed Asked
group_by true f s p =
    after s p " " λ q. and_then (events_at s q) λ r events.
    after s r ")" λ e. ok e (record { filter = f; events = events })
group_by false f s p = bad

unfoldable pub group_at : List ℕ → ℕ → Parsed Asked
group_at s p = after s p "(" λ q. and_then (filter_at s q) λ r f. group_by (groupable f) f s r

-- ---- the command
-- groups up to the end of the line, at least one
abbrev pub groups_at : List ℕ → ℕ → Parsed (List Asked)
groups_at s p = row_at (length s) (group_at s) (next_at line_end s) p

-- behind SET and a space: STATUS, if it is asked, then the groups (Commands, 5)
abbrev pub set_by : Bool → List ℕ → ℕ → Parsed Command
set_by true s p = after s (end_of atom_octet s p) " " λ q. and_then (groups_at s q) λ r groups. ok r (notify_set true groups)
set_by false s p = and_then (groups_at s p) λ r groups. ok r (notify_set false groups)

-- the two forms of NOTIFY
pub data Form : Type 0 where
  cancel replace formless : Form

abbrev pub form_at : List ℕ → ℕ → Form
form_at s p = cond (word_at s p "NONE") cancel (cond (word_at s p "SET") replace formless)

abbrev pub notify_by : Form → List ℕ → ℕ → Parsed Command
notify_by cancel s p = ok p notify_none
notify_by replace s p = after s p " " λ q. set_by (word_at s q "STATUS") s q
notify_by formless s p = bad

-- behind NOTIFY and a space (Commands, 5; RFC 5465, notify)
unfoldable pub notify_at : List ℕ → ℕ → Parsed Command
notify_at s p = notify_by (form_at s p) s (end_of atom_octet s p)
