-- Why a record was told or not (02, 3): what it asks of the rules, each reason as a condition by itself, the first that holds, and what the tool prints.
-- That the account says the same is `Reasoned`.
use Rattle.std.specs.Prelude.{List, [], ◌∷◌, ◌++◌, Bool, true, false, not, cond, ◌&&◌, ◌||◌, ℕ, ◌-◌, eqb, leb, ltb, length, take, get_or}
use Rattle.model.specs.Lists.{anyb, allb}
use Rattle.model.specs.Text.{octets, decimal}
use Rattle.model.specs.Names.{has_parent}
use Rattle.model.specs.Octets.{digit}
use Rattle.model.specs.Reading.{value_from}
use Rattle.model.specs.Records.{Record, create, delete, rename, subscribe, grant, arrive, expunge, reflag, select, ended, command, drained, record_of_none, record_of}
use Rattle.model.specs.Memory.{Memory, boxes, name_of, may_list, both_rights, with_attributes, with_name, the_mailbox, selected_box, is_selected}
use Rattle.model.specs.Groups.{groups_of, meets, is_selecting, asks_new, asks_expunge, asks_flags, asks_name, asks_subscription, selected_asks, immediate_asks, number}
use Rattle.model.specs.Lines.{crlf}
use Rattle.model.specs.Events.{parent_row, new_box, with_subscribed, with_rights}
use Rattle.model.specs.Answers.{number_of}
use Rattle.model.specs.Call.{call}
use Rattle.model.specs.Hidden.{Octets}
use Rattle.model.specs.Fates.{is_overflow}
use Rattle.model.specs.Seen.{final}
use Rattle.model.specs.Due.{is_quiet, switches}
use Rattle.model.specs.Pushrun.{start, records_of}
use Rattle.model.specs.declared.Mailbox.{Mailbox}
use Rattle.model.specs.declared.Group.{Group}
use Rattle.model.specs.declared.Reason.{Reason}
use Rattle.model.specs.declared.Reason.TheVariants.{NoRecord, Refused, Quiet, NoEvent, RightMissing, Unmet, Unasked, Unannounced, Waiting, Overflow, Written}

-- ---- the reasons: the place of each in the request's list, and its value
abbrev pub reason_number : Reason → ℕ
reason_number NoRecord = 0
reason_number (Refused n) = 1
reason_number Quiet = 2
reason_number NoEvent = 3
reason_number RightMissing = 4
reason_number Unmet = 5
reason_number Unasked = 6
reason_number Unannounced = 7
reason_number (Waiting c) = 8
reason_number Overflow = 9
reason_number (Written g) = 10

-- a refusal's number, a class, a group's number; 0 where there is none
abbrev pub reason_value : Reason → ℕ
reason_value NoRecord = 0
reason_value (Refused n) = n
reason_value Quiet = 0
reason_value NoEvent = 0
reason_value RightMissing = 0
reason_value Unmet = 0
reason_value Unasked = 0
reason_value Unannounced = 0
reason_value (Waiting c) = c
reason_value Overflow = 0
reason_value (Written g) = g

-- ---- what a record asks of the rules: whether it is quiet, an event, and the rights are held; which groups match, and which of them ask for the event;
-- whether it is about an unannounced message; whether it waits, and for which class
pub record Points : Type 0 where
  pub quiet : Bool
  pub event : Bool
  pub rights : Bool
  pub meets : Group → Bool
  pub asks : Group → Bool
  pub unannounced : Bool
  pub waits : Bool
  pub class : ℕ

-- of a record that is no event
abbrev pub none : Points
none = record { quiet = false; event = false; rights = false; meets = λ (g : Group). false; asks = λ (g : Group). false; unannounced = false; waits = false; class = 0 }

-- by the memory before the record
module _ (m : Memory) where
  -- a group matches the mailbox, and the selected group the selected one; it matches by name and attributes, and asks (Matches, 1 to 4)
  abbrev pub met_by : Mailbox → Group → Bool
  met_by x g = (is_selecting g.selector && is_selected m x.id) || meets m.session (name_of x) x.attributes g.selector

  abbrev pub asks_of : (Group → Bool) → Mailbox → Group → Bool
  asks_of asks x g = meets m.session (name_of x) x.attributes g.selector && asks g

  -- a notice of x that is told at once or not at all, q saying that it is quiet and e that it is an event
  abbrev pub plainly : Bool → Bool → Mailbox → (meets asks : Group → Bool) → Points
  plainly q e x met asks = record { quiet = q; event = e; rights = both_rights x; meets = met; asks = asks; unannounced = false; waits = false; class = 0 }

  -- a mailbox that appears or goes: a group that matches its parent matches too (02, 2)
  abbrev pub named : Bool → Bool → Mailbox → Points
  named q e x =
      let y = parent_row (boxes m) x in
      plainly q e x
      (λ (g : Group). met_by x g || (has_parent (name_of x) && met_by y g))
      (λ (g : Group). asks_of asks_name x g || (has_parent (name_of x) && asks_of asks_name y g))

  -- a rename is matched by the old name or the new one (Written, 8)
  abbrev pub renaming : Bool → Mailbox → Mailbox → Points
  renaming q x y = plainly q true x (λ (g : Group). met_by x g || met_by y g) (λ (g : Group). asks_of asks_name x g || asks_of asks_name y g)

  -- a subscription is matched as if the mailbox were subscribed (Written, 9)
  abbrev pub subscribing : Bool → Mailbox → ℕ → Points
  subscribing q x b =
      let y = with_attributes x (with_subscribed x.attributes 1) in
      plainly q (switches x b) x (met_by y) (asks_of asks_subscription y)

  -- to lose l is to go, by the rights before; to gain it is to appear, by those after (Written, 1 and 6)
  abbrev pub granting : Mailbox → Mailbox → Points
  granting x y = cond (may_list x) (named false (not (may_list y)) x) (named false (may_list y) y)

  -- a message elsewhere
  abbrev pub elsewhere : Mailbox → (Group → Bool) → Points
  elsewhere x asks = plainly false true x (met_by x) (asks_of asks x)

  -- a message of the selected mailbox, which the selected group alone matches (Matches, 4)
  abbrev pub in_selected : (Group → Bool) → (unannounced waits : Bool) → ℕ → Points
  in_selected asks u w c = record {
    quiet = false;
    event = true;
    rights = both_rights (selected_box m);
    meets = λ (g : Group). is_selecting g.selector;
    asks = λ (g : Group). is_selecting g.selector && asks g;
    unannounced = u;
    waits = w;
    class = c;
  }

  -- the client was told of it: its UID is below the view's number (Written, 10)
  abbrev pub announced : ℕ → Bool
  announced u = ltb u m.session.told

  -- a new message waits unless it is asked (Written, 15, 17 and 18); an expunge, of an announced message, unless it is asked at once (Written, 15 to 18);
  -- new flags, of an announced message, before the first NOTIFY alone (Written, 18)
  unfoldable pub points : Record → Points
  points (create i b q v c n) = named (is_quiet q) true (new_box i b v c n)
  points (delete i q) = named (is_quiet q) true (the_mailbox i (boxes m))
  points (rename i q n) = let x = the_mailbox i (boxes m) in renaming (is_quiet q) x (with_name x n)
  points (subscribe i b q) = subscribing (is_quiet q) (the_mailbox i (boxes m)) b
  points (grant i r) = let x = the_mailbox i (boxes m) in granting x (with_rights x r)
  points (arrive i u f z c) =
      cond (is_selected m i)
      (in_selected asks_new false (not (selected_asks m.session asks_new)) 0)
      (elsewhere (the_mailbox i (boxes m)) asks_new)
  points (expunge i u c) =
      cond (is_selected m i)
      (in_selected asks_expunge (not (announced u)) (announced u && not (immediate_asks m.session asks_expunge)) 1)
      (elsewhere (the_mailbox i (boxes m)) asks_expunge)
  points (reflag i u f c) =
      cond (is_selected m i)
      (in_selected asks_flags (not (announced u)) (announced u && (not (selected_asks m.session asks_flags) && eqb m.session.notified 0)) 0)
      (elsewhere (the_mailbox i (boxes m)) asks_flags)
  points (select i) = none
  points (ended c) = none
  points (command t) = none
  points (drained n) = none
  points record_of_none = none

-- ---- each reason by itself: a refusal by the call's answer, an overflow by its lines, the others by the points. What waits is never called unmatched or unasked
module _ (m : Memory) (o : Octets) where
  abbrev pub asked : Points
  asked = points m (record_of o)

  abbrev pub any_meets : Bool
  any_meets = anyb asked.meets (groups_of m.session)

  abbrev pub any_asks : Bool
  any_asks = anyb asked.asks (groups_of m.session)

  -- of the groups that ask the first in the command
  abbrev pub first_asking : ℕ
  first_asking = number asked.asks (groups_of m.session)

  abbrev pub holds : Reason → Bool
  holds NoRecord = false
  holds (Refused n) = not (eqb n 0) && eqb (number_of (call m o).answer) n
  holds Quiet = asked.quiet
  holds NoEvent = not asked.event
  holds RightMissing = not asked.rights
  holds Unmet = not asked.waits && not any_meets
  holds Unasked = not asked.waits && (any_meets && not any_asks)
  holds Unannounced = asked.unannounced
  holds (Waiting c) = asked.waits && eqb asked.class c
  holds Overflow = anyb is_overflow (call m o).lines
  holds (Written g) = not (eqb g 0) && eqb first_asking g

  -- the ten in their order, each with the value that it would have
  abbrev pub reasons : List Reason
  reasons = Refused (number_of (call m o).answer) ∷ Quiet ∷ NoEvent ∷ RightMissing ∷ Unmet ∷ Unasked ∷ Unannounced ∷ Waiting asked.class ∷ Overflow ∷ Written first_asking ∷ []

  abbrev pub first_held : List Reason → Reason
  first_held [] = NoRecord
  first_held (y ∷ ys) = let rest = first_held ys in cond (holds y) y rest

  -- the first that holds is given
  unfoldable pub reason : Reason
  reason = first_held reasons

-- ---- the tool
-- record k of a stream, from 1, on the memory that those before it leave
abbrev pub reason_at : Memory → List Octets → ℕ → Reason
reason_at m os k = cond (leb 1 k && leb k (length os)) (reason (final m (take (k - 1) os)) (get_or os (k - 1) [])) NoRecord

-- its words, and a number where it has one
abbrev pub words : Reason → List ℕ
words NoRecord = octets "no record"
words (Refused n) = octets "refused " ++ decimal n
words Quiet = octets "quiet"
words NoEvent = octets "no event"
words RightMissing = octets "right missing"
words Unmet = octets "no group matches"
words Unasked = octets "group matches but event not asked"
words Unannounced = octets "unannounced message"
words (Waiting c) = octets "waiting " ++ decimal c
words Overflow = octets "overflow"
words (Written g) = octets "written " ++ decimal g

abbrev pub reason_text : Reason → List ℕ
reason_text y = words y ++ crlf

-- the line for place k of the stream s
abbrev pub why_text : List ℕ → ℕ → List ℕ
why_text s k = reason_text (reason_at (start 8192 64 1024) (records_of s) k)

-- a place as it is typed: the number of its digits; anything else is no place
abbrev pub place_of : List ℕ → ℕ
place_of t = cond (not (eqb (length t) 0) && allb digit t) (value_from 0 t) 0
