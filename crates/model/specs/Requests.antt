-- What a command line asks for, once it is read (01, Commands, 5 to 11).
use Rattle.std.specs.Prelude.{List, [], ◌∷◌, Bool, true, false, ℕ, eqb}

-- whom a group of NOTIFY or a source of ESEARCH is about; one name or more, as the command wrote them, without quotes and escapes
pub data Filter : Type 0 where
  selected delayed inboxes personal subscribed : Filter
  subtree subtree_one mailboxes : (first : List ℕ) → (others : List (List ℕ)) → Filter

abbrev pub names_of : Filter → List (List ℕ)
names_of selected = []
names_of delayed = []
names_of inboxes = []
names_of personal = []
names_of subscribed = []
names_of (subtree n ns) = n ∷ ns
names_of (subtree_one n ns) = n ∷ ns
names_of (mailboxes n ns) = n ∷ ns

-- it speaks of the selected mailbox, in either form
abbrev pub of_selected : Filter → Bool
of_selected selected = true
of_selected delayed = true
of_selected inboxes = false
of_selected personal = false
of_selected subscribed = false
of_selected (subtree n ns) = false
of_selected (subtree_one n ns) = false
of_selected (mailboxes n ns) = false

-- a fetch attribute: one of the three that are supported, or another of RFC 3501
pub data Attribute : Type 0 where
  uid flags size other_attribute : Attribute

-- which attribute it is, as a number: the three in the order of their bits, then any other
abbrev pub attribute_place : Attribute → ℕ
attribute_place uid = 0
attribute_place flags = 1
attribute_place size = 2
attribute_place other_attribute = 3

abbrev pub is_uid_attribute : Attribute → Bool
is_uid_attribute a = eqb (attribute_place a) 0

abbrev pub is_flags_attribute : Attribute → Bool
is_flags_attribute a = eqb (attribute_place a) 1

abbrev pub is_size_attribute : Attribute → Bool
is_size_attribute a = eqb (attribute_place a) 2

abbrev pub is_other_attribute : Attribute → Bool
is_other_attribute a = eqb (attribute_place a) 3

-- an event of a group; MessageNew with the fetch attributes written after it, if any
pub data Event : Type 0 where
  message_new : List Attribute → Event
  message_expunge flag_change annotation_change mailbox_name subscription_change other_event : Event

-- which event it is, as a number: the five that are supported in the order of their bits, then the two kinds that are not
abbrev pub event_place : Event → ℕ
event_place (message_new l) = 0
event_place message_expunge = 1
event_place flag_change = 2
event_place mailbox_name = 3
event_place subscription_change = 4
event_place annotation_change = 5
event_place other_event = 6

abbrev pub is_new : Event → Bool
is_new e = eqb (event_place e) 0

abbrev pub is_expunge : Event → Bool
is_expunge e = eqb (event_place e) 1

abbrev pub is_flag_change : Event → Bool
is_flag_change e = eqb (event_place e) 2

abbrev pub is_mailbox_name : Event → Bool
is_mailbox_name e = eqb (event_place e) 3

abbrev pub is_subscription_change : Event → Bool
is_subscription_change e = eqb (event_place e) 4

abbrev pub is_annotation_change : Event → Bool
is_annotation_change e = eqb (event_place e) 5

abbrev pub is_other : Event → Bool
is_other e = eqb (event_place e) 6

-- the fetch attributes that stand with it
abbrev pub attributes_of : Event → List Attribute
attributes_of (message_new l) = l
attributes_of message_expunge = []
attributes_of flag_change = []
attributes_of annotation_change = []
attributes_of mailbox_name = []
attributes_of subscription_change = []
attributes_of other_event = []

-- a group: its events, none where NONE is written
pub record Asked : Type 0 where
  pub filter : Filter
  pub events : List Event

-- an end of a part of a set: a number, or `*`
pub data Bound : Type 0 where
  number : ℕ → Bound
  star : Bound

-- a part of a set: a number or `*` is a range with two equal ends
pub record Part : Type 0 where
  pub from : Bound
  pub upto : Bound

-- a key that holds no key: ALL; a flag by its bit, set or not; the sizes; sets of UIDs and of message numbers; one that is not supported
pub data Test : Type 0 where
  all unsupported : Test
  flagged : ℕ → Bool → Test
  larger smaller : ℕ → Test
  uids numbers : List Part → Test

-- keys; a list of keys is what a parenthesised list holds, and what the command itself ends with
mutual
  pub data Key : Type 0 where
    test : Test → Key
    non : Key → Key
    either : Key → Key → Key
    group : Keys → Key

  pub data Keys : Type 0 where
    end : Keys
    more : Key → Keys → Keys

-- the charset of a search: none given, one that is known, or another
pub data Charset : Type 0 where
  none known unknown : Charset

-- a search: its sources (none where IN is not written), what it is to return, its charset and its keys
pub record Search : Type 0 where
  pub sources : List Filter
  pub min : Bool
  pub max : Bool
  pub all : Bool
  pub count : Bool
  pub charset : Charset
  pub keys : Keys

-- the two commands that are known, and any other word
pub data Verb : Type 0 where
  notify esearch other_verb : Verb

-- a command that fits the grammar
pub data Command : Type 0 where
  notify_none : Command
  notify_set : Bool → List Asked → Command
  search : Search → Command
