-- Demand 2 over streams: what became of each change, told from the history of the calls alone, and the claim that `call` writes just that
-- (01, Duties of the public functions, 3; What is written, 10 to 22). Assumes nothing.
use Rattle.std.specs.Prelude.{◌≡◌, List, [], ◌∷◌, ◌++◌, map, Bool, true, false, not, cond, ◌&&◌, ℕ, suc, leb, length, get_or}
use Rattle.model.specs.Lists.{filterb, anyb, same}
use Rattle.model.specs.Commands.{command_of}
use Rattle.model.specs.Records.{Record, ended, command, record_of}
use Rattle.model.specs.Memory.{Memory, held, both_rights, selected_box, uid_of, is_message, in_mailbox}
use Rattle.model.specs.Lines.{Line, overflow, render_all}
use Rattle.model.specs.Queue.{room, fits, fitting}
use Rattle.model.specs.Events.{reflag as reflag_one, silence}
use Rattle.model.specs.Call.{call}
use Rattle.model.specs.Hidden.{Octets}
use Rattle.model.specs.declared.Message.{Message}
use Rattle.model.specs.declared.Answer.TheVariants.{Counted}
use Rattle.model.specs.Fates.{Debt, removal, lowest_class, reselected, expunged_first, Fate, refused, unowed, reported, waits, dropped, lost, silent, if_waits, waits_still, is_silent, is_lost, tells, is_removal, is_overflow, is_notice, says_ok, of_mailbox, deletes, adds, expunges, reflags, change, selects, ends, asks, drains, no_act, act, reselects, expunges_first, sets_groups}
use Rattle.model.specs.Seen.{apparent, Seen, seen, history, final, setting_of, setting_by, held_by}
use Rattle.model.specs.Due.{Account, opened, waiting, Due, nothing, at_once, later, due, owing}

-- ---- the lines of the account
-- what a change owes at once is written together, or the overflow line instead (Written, 22)
abbrev pub due_lines : Memory → Due → List Line
due_lines w d = elim d [ nothing y ↦ [] | at_once ls ↦ cond (fits w ls) ls (overflow ∷ []) | later x ↦ [] ]

-- of what the end of a command owes, as many whole lines from the front as the room holds (Written, 20)
abbrev pub front : Memory → Account → ℕ → List Line
front w a c = fitting (room w) (owing w a c)

-- what a call that is taken must write, no notices aside: its change's lines, or the front at the end of a command, or all that class 1 is owed at an accepted
-- NOTIFY SET, whose answer has room (Matches, 5; Records, 29). Whether a command was accepted is seen by its lines
unfoldable pub owed_now : Memory → Account → Record → List Line → List Line
owed_now w a r ls = elim (act r) [
  | change x ↦ due_lines w (due w a r)
  | selects i ↦ []
  | ends c ↦ front w a c
  | asks t ↦ cond (sets_groups (command_of t) && anyb says_ok ls) (owing w a 1) []
  | drains n ↦ []
  | no_act ↦ []
]

-- the notices among lines
abbrev pub notices : List Line → List Line
notices ls = filterb is_notice ls

-- ---- how the account is kept
-- what waits is told by the first line of call n that tells it, or dropped; else it waits on
abbrev pub settled_debt : Memory → ℕ → Record → List Line → Debt → Fate
settled_debt w n r ls d =
    cond (tells ls d) (reported n)
    (cond (reselects r) (dropped reselected n)
    (cond (expunges_first w r d) (dropped expunged_first n) (waits d)))

-- all other fates are final
abbrev pub settle : Memory → ℕ → Record → List Line → Fate → Fate
settle w n r ls f = if_waits (settled_debt w n r ls) f f

-- after the overflow line the event is treated as after NOTIFY NONE: what then waits, waits; else it is lost (Written, 22)
abbrev pub overflowed : Due → Fate
overflowed d = elim d [ nothing y ↦ lost | at_once ls ↦ lost | later x ↦ waits x ]

-- the fate of call n's own change, by what it owes and what it would owe after NOTIFY NONE: what is owed at once is told if just those lines were written
abbrev pub own : ℕ → (owes hushed : Due) → List Line → Fate
own n d hushed ls = elim d [
  | nothing y ↦ unowed y
  | at_once ds ↦ cond (anyb is_overflow ls) (overflowed hushed) (cond (same (render_all ls) (render_all ds)) (reported n) silent)
  | later x ↦ waits x
]

abbrev pub own_fate : Memory → Account → Record → List Line → Fate
own_fate w a r ls = own (suc (length a.fates)) (due w a r) (due (silence w) a r) ls

-- the messages but those of a test
abbrev pub all_without : (Message → Bool) → List Message → List Message
all_without gone es = filterb (λ (e : Message). not (gone e)) es

-- a message of the selected mailbox whose EXPUNGE is among the lines; one whose removal waits
abbrev pub told_gone : Memory → List Line → Message → Bool
told_gone w ls e = in_mailbox w.session.selected e && anyb (is_removal (uid_of e)) ls

abbrev pub waits_gone : Memory → Account → Message → Bool
waits_gone w a e = in_mailbox w.session.selected e && waiting a.fates (removal (uid_of e))

-- the messages after a call, f being the fate of its change: one leaves with its mailbox, or by its expunge unless that waits; else by its EXPUNGE or the next `SE` (Store, 3)
abbrev pub kept_by : Memory → Account → Record → Fate → List Line → List Message
kept_by w a r f ls = elim (act r) [
  | change x ↦ elim x [
    | of_mailbox ↦ a.kept
    | deletes i ↦ all_without (in_mailbox i) a.kept
    | adds e ↦ a.kept ++ (e ∷ [])
    | expunges i u ↦ cond (waits_still f) a.kept (all_without (is_message i u) a.kept)
    | reflags i u g c ↦ map (reflag_one i u g c) a.kept
  ]
  | selects i ↦ all_without (waits_gone w a) a.kept
  | ends c ↦ all_without (told_gone w ls) a.kept
  | asks t ↦ all_without (told_gone w ls) a.kept
  | drains n ↦ a.kept
  | no_act ↦ a.kept
]

-- the account after a call that was taken, and after any call
abbrev pub posted : Memory → Account → Record → List Line → Account
posted w a r ls = record {
  kept = kept_by w a r (own_fate w a r ls) ls;
  fates = map (settle w (suc (length a.fates)) r ls) a.fates ++ (own_fate w a r ls ∷ []);
}

unfoldable pub entered : Account → Seen → Account
entered a s = cond s.taken (posted s.around a s.said s.lines) (record { kept = a.kept; fates = a.fates ++ (refused ∷ []) })

-- after the calls of a history; of a stream from its start
abbrev pub account : Account → List Seen → Account
account a [] = a
account a (s ∷ ss) = account (entered a s) ss

abbrev pub account_of : Memory → List Octets → Account
account_of m os = account opened (history m os)

-- the fate of the k-th call's change, k from 1
abbrev pub fate_at : Account → ℕ → Fate
fate_at a k = get_or (refused ∷ a.fates) k refused

-- ---- the words of the claim
-- a call's notices are exactly what the account owes before it; a refused call writes nothing
abbrev pub Exact : Account → Seen → Type 0
Exact a s = notices s.lines ≡ cond s.taken (owed_now s.around a s.said s.lines) []

-- an occasion for what waits: a command end of a class that may release it, with room for all that it owes; or an accepted NOTIFY SET
pub data Occasion (a : Account) (s : Seen) (d : Debt) : Type 0 where
  at_end : (c : ℕ) → s.said ≡ ended c → leb c 1 ≡ true → leb (lowest_class d) c ≡ true → fits s.around (owing s.around a c) ≡ true → Occasion a s d
  at_set : (t : List ℕ) → s.said ≡ command t → sets_groups (command_of t) ≡ true → anyb says_ok s.lines ≡ true → Occasion a s d

-- how many changes were lost, and whether an overflow line was written
abbrev pub losses : Account → ℕ
losses a = length (filterb is_lost a.fates)

abbrev pub overflows : List Seen → Bool
overflows ss = anyb (λ (s : Seen). anyb is_overflow s.lines) ss

-- the call is a command end of class 1 that answers 0, with l and r held
pub record Cleared (m : Memory) (o : Octets) : Type 0 where
  pub ending : record_of o ≡ ended 1
  pub rights : both_rights (selected_box m) ≡ true
  pub none_left : (call m o).answer ≡ Counted 0

-- what a silence rests on: in the account b nothing waits and nothing was passed over, and nothing was lost since it was a
pub record Rested (a b : Account) : Type 0 where
  pub waits_none : anyb waits_still b.fates ≡ false
  pub silent_none : anyb is_silent b.fates ≡ false
  pub lost_none : losses b ≡ losses a

-- ---- demand 2 over streams from m
pub record Demand2 (m : Memory) : Type 0 where
  -- after any stream the next call's notices are just what is owed
  pub exact : (os : List Octets) (o : Octets) → Exact (account_of m os) (seen (final m os) o)
  -- the octets of its lines are what it adds to the queue
  pub octets : (os : List Octets) (o : Octets)
      → held (final m (os ++ (o ∷ []))) ≡ cond (seen (final m os) o).taken (held_by (held (final m os)) (record_of o) (call (final m os) o).lines) (held (final m os))
  -- Q stays what it was
  pub queue-length : (os : List Octets) → length (final m os).queue ≡ length m.queue
  -- what the account sees of mailboxes, groups, selection and F is what the history left
  pub setting : (os : List Octets) (o : Octets) → setting_of (final m (os ++ (o ∷ []))) ≡ setting_by (setting_of (final m os)) (seen (final m os) o)
  -- nothing owed at once is left out, unless the overflow line was written in that call
  pub never-silent : (os : List Octets) → anyb is_silent (account_of m os).fates ≡ false
  -- what waits ceases to wait by a line that tells it, by `SE` or by its message's expunge, and in no other way
  pub settles : (os : List Octets) (o : Octets) (k : ℕ) (d : Debt) → fate_at (account_of m os) k ≡ waits d
      → fate_at (account_of m (os ++ (o ∷ []))) k
      ≡ cond (seen (final m os) o).taken (settle (apparent (final m os)) (suc (length os)) (record_of o) (call (final m os) o).lines (waits d)) (waits d)
  -- with l and r held what waits is told by the first occasion
  pub first_occasion : (os : List Octets) (o : Octets) (k : ℕ) (d : Debt) → fate_at (account_of m os) k ≡ waits d
      → (seen (final m os) o).taken ≡ true → both_rights (selected_box (final m os)) ≡ true → Occasion (account_of m os) (seen (final m os) o) d
      → fate_at (account_of m (os ++ (o ∷ []))) k ≡ reported (suc (length os))
  -- a command end, whatever its room, tells of what waits exactly what its front tells; the rest waits on
  pub told_in-part : (os : List Octets) (o : Octets) (k : ℕ) (d : Debt) → fate_at (account_of m os) k ≡ waits d
      → (seen (final m os) o).taken ≡ true → (c : ℕ) → record_of o ≡ ended c
      → fate_at (account_of m (os ++ (o ∷ []))) k ≡ cond (tells (front (apparent (final m os)) (account_of m os) c) d) (reported (suc (length os))) (waits d)
  -- calls without an overflow line lose nothing
  pub no_loss : (os ps : List Octets) → overflows (history (final m os) ps) ≡ false → losses (account_of m (os ++ ps)) ≡ losses (account_of m os)
  -- after calls ps without an overflow line and then a cleared end o, every change is settled, and none was lost since ps began
  pub all_told : (os ps : List Octets) (o : Octets) → overflows (history (final m os) (ps ++ (o ∷ []))) ≡ false → Cleared (final m (os ++ ps)) o
      → Rested (account_of m os) (account_of m (os ++ (ps ++ (o ∷ []))))
