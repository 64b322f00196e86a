-- The groups of a session: how they are kept, whom each meets, what it asks, its number (01, Matches, 1 to 4; Forms, 10; 02, 3).
use Rattle.std.specs.Prelude.{List, [], ◌∷◌, map, Bool, true, false, not, cond, ◌&&◌, ◌||◌, ℕ, zero, suc, ◌+◌, eqb, take, drop}
use Rattle.model.specs.Lists.{anyb}
use Rattle.model.specs.Names.{Name}
use Rattle.model.specs.Text.{bit}
use Rattle.model.specs.Memory.{name_of}
use Rattle.model.specs.Selectors.{taken_by_inboxes, taken_by_personal, taken_by_subscribed, taken_by_subtree, taken_by_mailboxes}
use Rattle.model.specs.declared.Mailbox.{Mailbox}
use Rattle.model.specs.declared.NameRange.{NameRange}
use Rattle.model.specs.declared.Selector.{Selector}
use Rattle.model.specs.declared.Selector.TheVariants.{Selected, Delayed, Inboxes, Personal, Subscribed, Subtree, Mailboxes}
use Rattle.model.specs.declared.Group.{Group}
use Rattle.model.specs.declared.LentGroup.{LentGroup}
use Rattle.model.specs.declared.LentName.{LentName}
use Rattle.model.specs.declared.Session.{Session}

-- ---- as they are kept: a selector by its number, the first two without a mailbox of their own, the last two with names
abbrev pub selector_of : ℕ → NameRange → Selector
selector_of k r =
    cond (eqb k 0) Selected
    (cond (eqb k 1) Delayed
    (cond (eqb k 2) Inboxes
    (cond (eqb k 3) Personal
    (cond (eqb k 4) Subscribed
    (cond (eqb k 5) (Subtree r) (Mailboxes r))))))

abbrev pub group_of : LentGroup → Group
group_of g = record { selector = selector_of g.selector (record { first = g.first; count = g.count }); events = g.events; attributes = g.attributes }

abbrev pub groups_of : Session → List Group
groups_of s = map group_of (take s.groupcount s.groups)

-- the names of a range
abbrev pub lent_name : LentName → Name
lent_name n = take n.len n.octets

abbrev pub names_in : Session → NameRange → List Name
names_in s r = map lent_name (take r.count (drop r.first s.names))

-- ---- the events that are asked, a bit each
abbrev pub asks_new : Group → Bool
asks_new g = bit 0 g.events

abbrev pub asks_expunge : Group → Bool
asks_expunge g = bit 1 g.events

abbrev pub asks_flags : Group → Bool
asks_flags g = bit 2 g.events

abbrev pub asks_name : Group → Bool
asks_name g = bit 3 g.events

abbrev pub asks_subscription : Group → Bool
asks_subscription g = bit 4 g.events

-- ---- the attributes that a FETCH of new messages is to show, a bit each
abbrev pub fetches_uid : Group → Bool
fetches_uid g = bit 0 g.attributes

abbrev pub fetches_flags : Group → Bool
fetches_flags g = bit 1 g.attributes

abbrev pub fetches_size : Group → Bool
fetches_size g = bit 2 g.attributes

abbrev pub fetches_some : Group → Bool
fetches_some g = not (eqb g.attributes 0)

-- ---- the message events, and the two mailbox events
abbrev pub asks_messages : Group → Bool
asks_messages g = asks_new g || asks_expunge g || asks_flags g

abbrev pub asks_mailbox : Group → Bool
asks_mailbox g = asks_name g || asks_subscription g

-- ---- whom a group meets, by name and attributes (Matches, 1 and 2): the selected groups meet no mailbox by themselves
module _ (s : Session) (n : Name) (a : ℕ) where
  abbrev pub meets : Selector → Bool
  meets Selected = false
  meets Delayed = false
  meets Inboxes = taken_by_inboxes a
  meets Personal = taken_by_personal a
  meets Subscribed = taken_by_subscribed a
  meets (Subtree r) = taken_by_subtree (λ (t : Name). t) (names_in s r) n a
  meets (Mailboxes r) = taken_by_mailboxes (λ (t : Name). t) (names_in s r) n

  -- a group that meets it asks for the event: their events add up (Matches, 3)
  abbrev pub asked : (Group → Bool) → Bool
  asked asks = anyb (λ (g : Group). meets g.selector && asks g) (groups_of s)

-- the same of a mailbox
abbrev pub asked_of : Session → Mailbox → (Group → Bool) → Bool
asked_of s x asks = asked s (name_of x) x.attributes asks

-- ---- the selected group (Matches, 4): it stands for the selected mailbox's message events
abbrev pub is_selecting : Selector → Bool
is_selecting Selected = true
is_selecting Delayed = true
is_selecting Inboxes = false
is_selecting Personal = false
is_selecting Subscribed = false
is_selecting (Subtree r) = false
is_selecting (Mailboxes r) = false

-- it asks for the event
abbrev pub selected_asks : Session → (Group → Bool) → Bool
selected_asks s asks = anyb (λ (g : Group). is_selecting g.selector && asks g) (groups_of s)

abbrev pub is_immediate : Selector → Bool
is_immediate Selected = true
is_immediate Delayed = false
is_immediate Inboxes = false
is_immediate Personal = false
is_immediate Subscribed = false
is_immediate (Subtree r) = false
is_immediate (Mailboxes r) = false

-- and is not a delayed one
abbrev pub immediate_asks : Session → (Group → Bool) → Bool
immediate_asks s asks = anyb (λ (g : Group). is_immediate g.selector && asks g) (groups_of s)

-- ---- the number of the first that passes a test, from 1, or 0; i are before it
abbrev pub behind : ℕ → ℕ → ℕ
behind i zero = 0
behind i (suc n) = i + suc n

module _ {A : Type 0} (p : A → Bool) where
  unfoldable pub number : List A → ℕ
  number [] = 0
  number (x ∷ l) = let rest = behind 1 (number l) in cond (p x) 1 rest
