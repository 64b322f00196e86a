-- Request 3 of 02 as statements: the reason is the first that holds, and it is the account's own word for what became of the record. Assumes nothing.
use Rattle.std.specs.Prelude.{◌≡◌, List, [], ◌∷◌, Bool, true, false, cond, ℕ, ◌-◌, ◌≤◌, ◌<◌, length, get_or}
use Rattle.model.specs.Lists.{anyb}
use Rattle.model.specs.Records.{Record, arrive, expunge, reflag, record_of}
use Rattle.model.specs.Memory.{Memory, both_rights, selected_box, is_selected, no_group}
use Rattle.model.specs.Groups.{group_of, groups_of}
use Rattle.model.specs.Lines.{overflow}
use Rattle.model.specs.Queue.{fits}
use Rattle.model.specs.View.{owed}
use Rattle.model.specs.Answers.{number_of}
use Rattle.model.specs.Call.{call}
use Rattle.model.specs.Hidden.{Octets}
use Rattle.model.specs.Fates.{Debt, arrival, removal, marking, lowest_class, Why, quiet, no_event, right_missing, unmet, unasked, not_announced, is_overflow, tells, change, selects, ends, asks, drains, no_act, act}
use Rattle.model.specs.Seen.{apparent, final}
use Rattle.model.specs.Due.{Due, nothing, at_once, later, due}
use Rattle.model.specs.Account.{account_of}
use Rattle.model.specs.Reasons.{reason_number, asked, first_asking, holds, reason}
use Rattle.model.specs.declared.Reason.{Reason}
use Rattle.model.specs.declared.Reason.TheVariants.{Refused, Quiet, NoEvent, RightMissing, Unmet, Unasked, Unannounced, Waiting, Overflow, Written}

-- ---- of every octet string and every memory
-- one of the ten is given, it holds, and none before it does
abbrev pub ReasonSome : Type 0
ReasonSome = (m : Memory) (o : Octets) → 1 ≤ reason_number (reason m o)

abbrev pub ReasonFirst : Type 0
ReasonFirst = (m : Memory) (o : Octets) → (holds m o (reason m o) ≡ true) × ((y : Reason) → reason_number y < reason_number (reason m o) → holds m o y ≡ false)

-- it is a refusal just where the call is refused, and has its number
pub record ReasonRefused : Type 0 where
  pub given : (m : Memory) (o : Octets) → 1 ≤ number_of (call m o).answer → reason m o ≡ Refused (number_of (call m o).answer)
  pub only : (m : Memory) (o : Octets) (n : ℕ) → reason m o ≡ Refused n → (1 ≤ n) × (number_of (call m o).answer ≡ n)

-- ---- of what is owed
-- the account's word for a rule by which nothing is owed
abbrev pub word_of : Why → Reason
word_of y = elim y [ quiet ↦ Quiet | no_event ↦ NoEvent | right_missing ↦ RightMissing | unmet ↦ Unmet | unasked ↦ Unasked | not_announced ↦ Unannounced ]

-- what is owed at once is written, by group g, or finds no room; what is owed later waits, or wants a right
abbrev pub due_reason : Memory → ℕ → Due → Reason
due_reason w g d = elim d [
  | nothing y ↦ word_of y
  | at_once ls ↦ cond (fits w ls) (Written g) Overflow
  | later x ↦ cond (both_rights (selected_box w)) (Waiting (lowest_class x)) RightMissing
]

-- group g of the command matches and asks, and none before it asks
pub record FirstAsking (m : Memory) (o : Octets) (g : ℕ) : Type 0 where
  pub one : 1 ≤ g
  pub within : g ≤ length (groups_of m.session)
  pub meets : (asked m o).meets (get_or (groups_of m.session) (g - 1) (group_of no_group)) ≡ true
  pub asks : (asked m o).asks (get_or (groups_of m.session) (g - 1) (group_of no_group)) ≡ true
  pub before : (k : ℕ) → k < g - 1 → (asked m o).asks (get_or (groups_of m.session) k (group_of no_group)) ≡ false

-- the record changes a mailbox or a message: it is none of `SE`, `CE`, `CM` and `DR`
abbrev pub changes : Record → Bool
changes r = elim (act r) [ change x ↦ true | selects i ↦ false | ends c ↦ false | asks t ↦ false | drains n ↦ false | no_act ↦ false ]

-- what of a record can wait
pub data CanWait (r : Record) (d : Debt) : Type 0 where
  new : (i u f z c : ℕ) → r ≡ arrive i u f z c → d ≡ arrival u → CanWait r d
  gone : (i u c : ℕ) → r ≡ expunge i u c → d ≡ removal u → CanWait r d
  flags : (i u f c : ℕ) → r ≡ reflag i u f c → d ≡ marking u → CanWait r d

-- in memory m a command end of class c owes the line that tells it, and one of a lower class does not
pub record OwedFrom (m : Memory) (c : ℕ) (d : Debt) : Type 0 where
  pub owes : tells (owed m c) d ≡ true
  pub lower : (k : ℕ) → k < c → tells (owed m k) d ≡ false

-- ---- of a record o of a stream from m, after the records os
module _ (m : Memory) (os : List Octets) (o : Octets) where
  abbrev before : Memory
  before = final m os

  abbrev owes : Due
  owes = due (apparent before) (account_of m os) (record_of o)

  -- `written g`: the lines of its own event, and not none
  pub record Wrote (g : ℕ) : Type 0 where
    pub own : owes ≡ at_once (call before o).lines
    pub some : 1 ≤ length (call before o).lines
    pub first : FirstAsking before o g

  -- `waiting c`: the message's own line
  pub record Waits (c : ℕ) : Type 0 where
    pub debt : Debt
    pub can : CanWait (record_of o) debt
    pub from : OwedFrom (call before o).after c debt

  -- a new or expunged message of the selected mailbox, with both rights, that is not called to overflow
  pub record Plain (i : ℕ) : Type 0 where
    pub taken : number_of (call before o).answer ≡ 0
    pub selected : is_selected before i ≡ true
    pub rights : both_rights (selected_box before) ≡ true
    pub roomy : anyb is_overflow (call before o).lines ≡ false

  pub record ReasonOwed : Type 0 where
    pub account : number_of (call before o).answer ≡ 0 → reason before o ≡ due_reason (apparent before) (first_asking before o) owes
    pub written : (g : ℕ) → reason before o ≡ Written g → Wrote g
    pub overflowed : reason before o ≡ Overflow → (call before o).lines ≡ overflow ∷ []
    -- a record with an event and any other reason writes nothing
    pub silent : changes (record_of o) ≡ true → reason_number (reason before o) < 9 → (call before o).lines ≡ []
    pub waiting : (c : ℕ) → reason before o ≡ Waiting c → Waits c
    -- and conversely
    pub arrives : (i u f z h c : ℕ) → record_of o ≡ arrive i u f z h → Plain i → OwedFrom (call before o).after c (arrival u) → reason before o ≡ Waiting c
    pub expunges : (i u h c : ℕ) → record_of o ≡ expunge i u h → Plain i → OwedFrom (call before o).after c (removal u) → reason before o ≡ Waiting c

-- over all streams from m
abbrev pub Reasoned : Memory → Type 0
Reasoned m = (os : List Octets) (o : Octets) → ReasonOwed m os o
