-- What an accepted ESEARCH finds (01, Matches, 8 to 13; Commands, 7 and 9).
use Rattle.std.specs.Prelude.{List, [], ◌∷◌, ◌++◌, map, Bool, true, false, not, cond, ◌&&◌, ◌||◌, ℕ, ◌+◌, min as smaller, max as greater, leb, ltb, length}
use Rattle.model.specs.Lists.{anyb, filterb, sorted, concat_map, last_or}
use Rattle.model.specs.Names.{argument}
use Rattle.model.specs.Text.{bit}
use Rattle.model.specs.Requests.{Filter, selected, delayed, inboxes, personal, subscribed, subtree, subtree_one, mailboxes, Bound, number, star, Part, Test, all, unsupported, flagged, larger, smaller as smaller_than, uids, numbers, Key, test, non, either, group, Keys, end, more, Search}
use Rattle.model.specs.Memory.{Memory, boxes, mails, name_of, may_list, may_read, is_selected, uid_of, expunged, messages_of}
use Rattle.model.specs.Selectors.{taken_by_inboxes, taken_by_personal, taken_by_subscribed, taken_by_subtree, taken_by_subtree_one, taken_by_mailboxes}
use Rattle.model.specs.View.{view}
use Rattle.model.specs.Listing.{by_name}
use Rattle.model.specs.Lines.{Line, found, Result, min, max, all as all_of, count}
use Rattle.model.specs.declared.Mailbox.{Mailbox}
use Rattle.model.specs.declared.Message.{Message}
use Rattle.model.specs.declared.MessageNumber.{MessageNumber}
use Rattle.model.specs.declared.Uid.{Uid}

-- ---- which mailboxes are searched (Matches, 8 and 9): r is needed; and l, where `mailboxes` or `selected` does not name it
abbrev pub admits : Memory → Mailbox → Filter → Bool
admits m x selected = is_selected m x.id
admits m x delayed = false
admits m x inboxes = may_list x && taken_by_inboxes x.attributes
admits m x personal = may_list x && taken_by_personal x.attributes
admits m x subscribed = may_list x && taken_by_subscribed x.attributes
admits m x (subtree n ns) = may_list x && taken_by_subtree argument (n ∷ ns) (name_of x) x.attributes
admits m x (subtree_one n ns) = may_list x && taken_by_subtree_one argument (n ∷ ns) (name_of x) x.attributes
admits m x (mailboxes n ns) = taken_by_mailboxes argument (n ∷ ns) (name_of x)

-- with no source the selected mailbox is searched
abbrev pub or_selected : List Filter → List Filter
or_selected [] = selected ∷ []
or_selected (f ∷ fs) = f ∷ fs

-- by name
abbrev pub searched : Memory → List Filter → List Mailbox
searched m fs = sorted by_name (filterb (λ (x : Mailbox). may_read x && anyb (admits m x) fs) (boxes m))

-- ---- the messages of one (Matches, 12): in the selected mailbox those of the view, by their places; elsewhere all, by their ranks
abbrev pub candidates : Memory → Mailbox → List Message
candidates m x = cond (is_selected m x.id) (view m) (messages_of x.id (mails m))

-- a message and its number, and the last number and UID, which `*` stands for
pub record Candidate : Type 0 where
  pub message : Message
  pub number : MessageNumber
  pub last_number : MessageNumber
  pub last_uid : Uid

-- ---- keys
-- an end of a part, where `*` is the last
abbrev pub bound_of : ℕ → Bound → ℕ
bound_of last (number n) = n
bound_of last star = last

-- a range holds what lies between its ends, in whichever order they are written
abbrev pub in_part : ℕ → ℕ → Part → Bool
in_part last n p = leb (smaller (bound_of last p.from) (bound_of last p.upto)) n && leb n (greater (bound_of last p.from) (bound_of last p.upto))

abbrev pub in_set : ℕ → ℕ → List Part → Bool
in_set last n ps = anyb (in_part last n) ps

-- is a flag as it should be
abbrev pub agrees : Bool → Bool → Bool
agrees true b = b
agrees false b = not b

abbrev pub passes : Test → Candidate → Bool
passes all c = true
passes unsupported c = false
passes (flagged k b) c = agrees b (bit k c.message.flags)
passes (larger n) c = ltb n c.message.size
passes (smaller_than n) c = ltb c.message.size n
passes (uids ps) c = in_set c.last_uid.0 (uid_of c.message) ps
passes (numbers ps) c = in_set c.last_number.0 c.number.0 ps

unfoldable mutual
  pub holds : Key → Candidate → Bool
  holds (test t) c = passes t c
  holds (non k) c = not (holds k c)
  holds (either k l) c = holds k c || holds l c
  holds (group ks) c = holds_all ks c

  pub holds_all : Keys → Candidate → Bool
  holds_all end c = true
  holds_all (more k ks) c = holds k c && holds_all ks c

-- ---- the UIDs that match, rising; an expunged message keeps its place and never matches
module _ (ks : Keys) (last_number : MessageNumber) (last_uid : Uid) where
  unfoldable pub matching : ℕ → List Message → List Uid
  matching n [] = []
  matching n (e ∷ l) =
      let c : Candidate = record { message = e; number = record { 0 = n }; last_number = last_number; last_uid = last_uid } in
      let rest = matching (n + 1) l in
      cond (not (expunged e) && holds_all ks c) (e.uid ∷ rest) rest

abbrev pub last_uid_of : List Message → Uid
last_uid_of l = last_or (record { 0 = 0 }) (map (λ (e : Message). e.uid) l)

abbrev pub matches : Keys → List Message → List Uid
matches ks l = matching ks (record { 0 = length l }) (last_uid_of l) 1 l

-- ---- the line of one, where something matches: what was asked, in the order MIN, MAX, ALL, COUNT (Matches, 10; Commands, 7)
abbrev pub results : Search → Uid → List Uid → List Result
results q u us =
    cond q.min (min u ∷ []) []
    ++ (cond q.max (max (last_or u us) ∷ []) []
    ++ (cond q.all (all_of (u ∷ us) ∷ []) []
    ++ cond q.count (count (length (u ∷ us)) ∷ []) []))

abbrev pub found_line : List ℕ → Search → Mailbox → List Uid → List Line
found_line tag q x [] = []
found_line tag q x (u ∷ us) = found tag (name_of x) x.uidvalidity (results q u us) ∷ []

abbrev pub found_lines : Memory → List ℕ → Search → List Line
found_lines m tag q = concat_map (λ (x : Mailbox). found_line tag q x (matches q.keys (candidates m x))) (searched m (or_selected q.sources))
