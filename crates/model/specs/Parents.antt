-- Request 2 of 02 in its own words, as statements about a call: what is told of the direct parent when a mailbox appears or goes. Assumes nothing.
use Rattle.std.specs.Prelude.{◌≡◌, List, [], ◌∷◌, ◌++◌, Bool, true, false, cond, ◌&&◌, ℕ, ◌<◌, eqb, length, get_or}
use Rattle.model.specs.Lists.{anyb, same, when}
use Rattle.model.specs.Names.{Name, valid, fold, subtree}
use Rattle.model.specs.Records.{Record, create, delete, rename, subscribe, grant, record_of}
use Rattle.model.specs.Memory.{Memory, boxes, filled, name_of, may_list, both_rights, the_mailbox, no_mailbox, with_name}
use Rattle.model.specs.Groups.{groups_of, names_in, asked_of, asks_name}
use Rattle.model.specs.Lines.{Line, list, overflow, non_existent}
use Rattle.model.specs.Queue.{fits}
use Rattle.model.specs.Answers.{number_of}
use Rattle.model.specs.Events.{list_mark, new_box, with_rights, loud, rename_lines, subscription_lines}
use Rattle.model.specs.Call.{call}
use Rattle.model.specs.Hidden.{Octets}
use Rattle.model.specs.declared.Mailbox.{Mailbox}
use Rattle.model.specs.declared.Group.{Group}
use Rattle.model.specs.declared.Selector.{Selector}
use Rattle.model.specs.declared.Selector.TheVariants.{Selected, Delayed, Inboxes, Personal, Subscribed, Subtree, Mailboxes}
use Rattle.model.specs.declared.Session.{Session}

-- ---- whose parent it is
-- n is a name, a slash and a part without one; that name, INBOX folded, is the parent
pub record IsParent (p n : Name) : Type 0 where
  pub above : Name
  pub part : Name
  pub is : n ≡ above ++ (47 ∷ part)
  pub last : anyb (eqb 47) part ≡ false
  pub named : p ≡ fold above

-- every valid name with a slash has one
abbrev pub ParentThere : Type 0
ParentThere = (n : Name) → valid n ≡ true → anyb (eqb 47) n ≡ true → (p : Name) × IsParent p n × (valid p ≡ true)

-- ---- who asks for it
-- a selector's own names meet it, whatever attributes a row of that name may have
module _ (s : Session) (p : Name) where
  abbrev pub names_meet : Selector → Bool
  names_meet Selected = false
  names_meet Delayed = false
  names_meet Inboxes = false
  names_meet Personal = false
  names_meet Subscribed = false
  names_meet (Subtree r) = anyb (λ (t : Name). subtree t p) (names_in s r)
  names_meet (Mailboxes r) = anyb (λ (t : Name). same t p) (names_in s r)

  abbrev pub names_ask : Bool
  names_ask = anyb (λ (g : Group). names_meet g.selector && asks_name g) (groups_of s)

-- ---- its line: ls is what is owed of the parent when mailbox x appears or goes in memory m
pub record Above (m : Memory) (x : Mailbox) (ls : List Line) : Type 0 where
  -- a name without a slash has no parent
  pub none : anyb (eqb 47) (name_of x) ≡ false → ls ≡ []
  -- row k has its name and may be listed, whatever its r: met as any mailbox
  pub listed : (p : Name) → IsParent p (name_of x) → (k : ℕ) → k < length (boxes m) → may_list (get_or (boxes m) k no_mailbox) ≡ true → name_of (get_or (boxes m) k no_mailbox) ≡ p
      → ls ≡ when (both_rights x && asked_of m.session (get_or (boxes m) k no_mailbox) asks_name) (list (list_mark (get_or (boxes m) k no_mailbox)) p)
  -- no row that may be listed has its name: met by names alone
  pub unlisted : (p : Name) → IsParent p (name_of x) → anyb (λ (y : Mailbox). may_list y && same (name_of y) p) (boxes m) ≡ false
      → ls ≡ when (both_rights x && names_ask m.session p) (list non_existent p)

-- ---- the call: lines that are owed together are told together, or the overflow line is
abbrev pub told_together : Memory → List Line → List Line
told_together m ls = cond (fits m ls) ls (overflow ∷ [])

-- the mailbox's own line comes first, if it is owed, then the parent's
pub record Affects (m : Memory) (x : Mailbox) (own : Line) (ls : List Line) : Type 0 where
  pub upper : List Line
  pub above : Above m x upper
  pub lines : ls ≡ told_together m (when (both_rights x && asked_of m.session x asks_name) own ++ upper)

-- what an accepted record about mailboxes writes: to gain l is to appear, to lose it to go; a quiet record, a change of r alone write nothing;
-- a rename and a subscription write what 01 has for them, and nothing of a parent
module _ (m : Memory) (ls : List Line) where
  abbrev pub Appears : Mailbox → Type 0
  Appears x = Affects m x (list (list_mark x) (name_of x)) ls

  abbrev pub Goes : Mailbox → Type 0
  Goes x = Affects m x (list non_existent (name_of x)) ls

  pub record Writes (r : Record) : Type 0 where
    pub created : (i a v c : ℕ) (n : Name) → r ≡ create i a 0 v c n → Appears (new_box i a v c n)
    pub deleted : (i : ℕ) → r ≡ delete i 0 → Goes (the_mailbox i (boxes m))
    pub gained : (i b : ℕ) → r ≡ grant i b → may_list (the_mailbox i (boxes m)) ≡ false → may_list (with_rights (the_mailbox i (boxes m)) b) ≡ true → Appears (with_rights (the_mailbox i (boxes m)) b)
    pub lost : (i b : ℕ) → r ≡ grant i b → may_list (the_mailbox i (boxes m)) ≡ true → may_list (with_rights (the_mailbox i (boxes m)) b) ≡ false → Goes (the_mailbox i (boxes m))
    pub kept : (i b : ℕ) → r ≡ grant i b → may_list (the_mailbox i (boxes m)) ≡ may_list (with_rights (the_mailbox i (boxes m)) b) → ls ≡ []
    pub hushed : (i a q v c : ℕ) (n : Name) → r ≡ create i a q v c n → eqb q 0 ≡ false → ls ≡ []
    pub removed : (i q : ℕ) → r ≡ delete i q → eqb q 0 ≡ false → ls ≡ []
    pub renamed : (i q : ℕ) (n : Name) → r ≡ rename i q n → ls ≡ told_together m (loud q (rename_lines m.session (the_mailbox i (boxes m)) (with_name (the_mailbox i (boxes m)) n)))
    pub subscribed : (i b q : ℕ) → r ≡ subscribe i b q → ls ≡ told_together m (loud q (subscription_lines m.session (the_mailbox i (boxes m)) b))

-- of every call that is not refused
abbrev pub ParentOwed : Type 0
ParentOwed = (m : Memory) (o : Octets) → number_of (call m o).answer ≡ 0 → Writes m (call m o).lines (record_of o)

-- ---- a row y without l shows nothing of itself, a parent's no more than another's: with it (m) and without it (k), whatever its bits, a call about
-- another mailbox writes the same lines
pub record Without (m k : Memory) (y : Mailbox) : Type 0 where
  pub front : List Mailbox
  pub back : List Mailbox
  pub there : boxes m ≡ front ++ (y ∷ back)
  pub gone : boxes k ≡ front ++ back
  pub session : k.session ≡ m.session
  pub queue : k.queue ≡ m.queue
  pub filled : filled k ≡ filled m

module _ (m k : Memory) (y : Mailbox) (o : Octets) where
  abbrev pub SameLines : ℕ → Record → Type 0
  SameLines i r = record_of o ≡ r → (i ≡ y.id → ⊥) → (call k o).lines ≡ (call m o).lines

  pub record Unseen : Type 0 where
    pub created : (i a q v c : ℕ) (n : Name) → SameLines i (create i a q v c n)
    pub deleted : (i q : ℕ) → SameLines i (delete i q)
    pub granted : (i b : ℕ) → SameLines i (grant i b)

abbrev pub ParentUnseen : Type 0
ParentUnseen = (m k : Memory) (y : Mailbox) → may_list y ≡ false → Without m k y
    → (o : Octets) → number_of (call m o).answer ≡ 0 → number_of (call k o).answer ≡ 0 → Unseen m k y o
