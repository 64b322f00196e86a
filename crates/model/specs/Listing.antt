-- What an accepted NOTIFY does: the session that it sets, and the lines that NOTIFY SET writes (01, Matches, 6 and 7; Commands, 4 and 20).
use Rattle.std.specs.Prelude.{◌≡◌, refl, List, [], ◌∷◌, ◌++◌, map, Bool, not, cond, ◌&&◌, ◌||◌, ℕ, ◌+◌, ◌-◌, eqb, length, replicate}
use Rattle.model.specs.Lists.{anyb, filterb, sorted, concat_map, when}
use Rattle.model.specs.Names.{argument, before}
use Rattle.model.specs.Text.{pack}
use Rattle.model.specs.Requests.{Filter, selected, delayed, inboxes, personal, subscribed, subtree, subtree_one, mailboxes, names_of, Attribute, is_uid_attribute, is_flags_attribute, is_size_attribute, Event, is_new, is_expunge, is_flag_change, is_mailbox_name, is_subscription_change, attributes_of, Asked}
use Rattle.model.specs.Memory.{Memory, boxes, mails, name_of, may_list, may_read, counter_of, is_selected, existing, no_group, no_name, stored}
use Rattle.model.specs.Groups.{selector_of, asked_of, selected_asks, asks_messages, asks_mailbox}
use Rattle.model.specs.Lines.{Line, list, status, set_items, no_access}
use Rattle.model.specs.declared.Mailbox.{Mailbox}
use Rattle.model.specs.declared.NameRange.{NameRange}
use Rattle.model.specs.declared.Selector.{Selector}
use Rattle.model.specs.declared.Selector.TheVariants.{Selected, Delayed, Inboxes, Personal, Subscribed, Subtree, Mailboxes}
use Rattle.model.specs.declared.Group.{Group}
use Rattle.model.specs.declared.LentGroup.{LentGroup}
use Rattle.model.specs.declared.LentName.{LentName}
use Rattle.model.specs.declared.Session.{Session}

-- the number by which a group's selector is kept
abbrev pub selector_number : Filter → ℕ
selector_number selected = 0
selector_number delayed = 1
selector_number inboxes = 2
selector_number personal = 3
selector_number subscribed = 4
selector_number (subtree n ns) = 5
selector_number (subtree_one n ns) = 5
selector_number (mailboxes n ns) = 6

-- and the selector that this number is read as
abbrev pub selector_for : Filter → NameRange → Selector
selector_for selected r = Selected
selector_for delayed r = Delayed
selector_for inboxes r = Inboxes
selector_for personal r = Personal
selector_for subscribed r = Subscribed
selector_for (subtree n ns) r = Subtree r
selector_for (subtree_one n ns) r = Subtree r
selector_for (mailboxes n ns) r = Mailboxes r

pub selector_read : (f : Filter) (r : NameRange) → selector_of (selector_number f) r ≡ selector_for f r
selector_read selected r = refl
selector_read delayed r = refl
selector_read inboxes r = refl
selector_read personal r = refl
selector_read subscribed r = refl
selector_read (subtree n ns) r = refl
selector_read (subtree_one n ns) r = refl
selector_read (mailboxes n ns) r = refl

-- the events of a group, a bit each; repeated ones add nothing
abbrev pub event_bits : List Event → ℕ
event_bits es = pack (anyb is_new es ∷ anyb is_expunge es ∷ anyb is_flag_change es ∷ anyb is_mailbox_name es ∷ anyb is_subscription_change es ∷ [])

-- the attributes asked with MessageNew, a bit each
abbrev pub attribute_bits : List Attribute → ℕ
attribute_bits l = pack (anyb is_uid_attribute l ∷ anyb is_flags_attribute l ∷ anyb is_size_attribute l ∷ [])

-- a group; its names begin at `first`, and stand at 0 where it has none
abbrev pub lend_group : ℕ → Asked → LentGroup
lend_group first g = record {
  selector = selector_number g.filter;
  first = cond (eqb (length (names_of g.filter)) 0) 0 first;
  count = length (names_of g.filter);
  events = event_bits g.events;
  attributes = attribute_bits (concat_map attributes_of g.events);
}

abbrev pub lend_groups : ℕ → List Asked → List LentGroup
lend_groups first [] = []
lend_groups first (g ∷ gs) = lend_group first g ∷ lend_groups (first + length (names_of g.filter)) gs

-- a name: as a mailbox would have it, or empty where no mailbox could (Commands, 4)
abbrev pub lend_name : List ℕ → LentName
lend_name a = record { len = length (argument a); octets = stored (argument a) }

abbrev pub all_names : List Asked → List (List ℕ)
all_names gs = concat_map (λ (g : Asked). names_of g.filter) gs

-- a list of n, the rest of it filled up
module _ {A : Type 0} where
  abbrev pub filled_up : ℕ → A → List A → List A
  filled_up n zeros l = l ++ replicate (n - length l) zeros

-- the session with these groups: a NOTIFY was given (Commands, 20)
abbrev pub watching : Session → List Asked → Session
watching s gs = record {
  selected = s.selected;
  notified = 1;
  groupcount = length gs;
  told = s.told;
  groups = filled_up 8 no_group (lend_groups 0 gs);
  names = filled_up 16 no_name (map lend_name (all_names gs));
}

-- ---- the mailboxes that NOTIFY SET tells of (Matches, 6 and 7)
abbrev pub asks_any : Group → Bool
asks_any g = asks_messages g || asks_mailbox g

-- an asked event applies to the mailbox; to the selected one the selected group's, and mailbox events of others
abbrev pub concerns : Memory → Session → Mailbox → Bool
concerns m s x = cond (is_selected m x.id) (selected_asks s asks_any || asked_of s x asks_mailbox) (asked_of s x asks_any)

abbrev pub by_name : Mailbox → Mailbox → Bool
by_name x y = before (name_of x) (name_of y)

-- the line of one: no access without r; a STATUS where it was asked for, message events are asked, and it is not selected
abbrev pub listing_line : Memory → Session → Bool → Mailbox → List Line
listing_line m s wanted x =
    cond (may_read x)
    (when (wanted && (not (is_selected m x.id) && asked_of s x asks_messages)) (status (name_of x) (set_items (length (existing x.id (mails m))) x.uidnext x.uidvalidity (counter_of x))))
    (list no_access (name_of x) ∷ [])

-- by name, those with l to which an asked event applies
abbrev pub listing : Memory → Session → Bool → List Line
listing m s wanted = concat_map (listing_line m s wanted) (sorted by_name (filterb (λ (x : Mailbox). may_list x && concerns m s x) (boxes m)))
