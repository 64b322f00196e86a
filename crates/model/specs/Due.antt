-- What is owed, told from the account alone: what each change owes at once, later or not at all, and what the end of a command owes
-- (01, What is written; Who matches, 3 to 5; 02, 1 and 2). Events and View say it from memory; that both say the same is the clause `exact` of Account.Demand2. Assumes nothing.
use Rattle.std.specs.Prelude.{List, [], ◌∷◌, ◌++◌, Bool, not, cond, ◌&&◌, ◌||◌, ℕ, ◌+◌, eqb, length}
use Rattle.model.specs.Lists.{filterb, anyb, when}
use Rattle.model.specs.Names.{Name, has_parent}
use Rattle.model.specs.Records.{Record, create, delete, rename, subscribe, grant, arrive, expunge, reflag, select, ended, command, drained, record_of_none}
use Rattle.model.specs.Memory.{Memory, boxes, name_of, subscribed as is_subscribed, may_list, both_rights, counter_of, with_next, with_name, with_counter, the_mailbox, selected_box, is_selected, uid_of, is_message, messages_of}
use Rattle.model.specs.Groups.{groups_of, meets, asked, asked_of, is_selecting, selected_asks, immediate_asks, asks_new, asks_expunge, asks_flags, asks_name, asks_subscription}
use Rattle.model.specs.Lines.{Line, StatusItem, status, mail_items, list, renamed, expunge as expunge_line, plain, non_existent, subscribed}
use Rattle.model.specs.View.{place_of, flags_line, exists_line, shows_any, new_lines}
use Rattle.model.specs.Events.{list_mark, parent_row, parent_mark, parent_asked, new_box, with_subscribed, with_rights, message, changes_of}
use Rattle.model.specs.declared.Mailbox.{Mailbox}
use Rattle.model.specs.declared.Message.{Message}
use Rattle.model.specs.declared.Group.{Group}
use Rattle.model.specs.Fates.{Debt, arrival, removal, marking, Why, quiet, no_event, right_missing, unmet, unasked, not_announced, Fate, waits_for}

-- ---- the account
-- the messages that exist or whose removal waits (Store, 3), and a fate for each call so far
pub record Account : Type 0 where
  pub kept : List Message
  pub fates : List Fate

-- before the first call
abbrev pub opened : Account
opened = record { kept = []; fates = [] }

-- a debt waits
unfoldable pub waiting : List Fate → Debt → Bool
waiting fs d = anyb (waits_for d) fs

-- the client's view: of the selected mailbox's messages, by UID, those whose arrival does not wait (Written, 11); and the others
abbrev pub is_unseen : List Fate → Message → Bool
is_unseen fs e = waiting fs (arrival (uid_of e))

abbrev pub viewed : Memory → Account → List Message
viewed w a = filterb (λ (e : Message). not (is_unseen a.fates e)) (messages_of w.session.selected a.kept)

abbrev pub unseen : Memory → Account → List Message
unseen w a = filterb (is_unseen a.fates) (messages_of w.session.selected a.kept)

-- ---- what a change owes, by the groups and rights before it
-- nothing, by a rule; lines at once; a debt that waits
pub data Due : Type 0 where
  nothing : Why → Due
  at_once : List Line → Due
  later : Debt → Due

-- nothing, where a rule is against it
abbrev pub unless : Bool → Why → Due → Due
unless b y due = cond b (nothing y) due

-- the rule against a notice that is not owed: a right is missing; else no group asks, because none meets the mailbox or because those that do ask for other events
abbrev pub against : (rights met : Bool) → Why
against r g = cond r (cond g unasked unmet) right_missing

-- a notice needs both rights (Written, 1) and a group that asks
abbrev pub notice : (rights met asked : Bool) → Due → Due
notice r g a due = cond (r && a) due (nothing (against r g))

-- a quiet record owes none (Records, 4)
abbrev pub is_quiet : ℕ → Bool
is_quiet q = not (eqb q 0)

-- ---- of mailboxes
-- a group meets mailbox i under this name and these attributes, be it for another event; the selected group meets the selected one
abbrev pub met : Memory → ℕ → Name → ℕ → Bool
met w i n a = anyb (λ (g : Group). (is_selecting g.selector && is_selected w i) || meets w.session n a g.selector) (groups_of w.session)

-- the lines of a mailbox that appears or goes, with the rights, the name and the attributes of x, and of its parent y, each if MailboxName is asked
-- for it (Written, 5 and 7; 02, 2)
abbrev pub name_due : Memory → Mailbox → Line → Due
name_due w x l =
    let y = parent_row (boxes w) x in
    let own = asked_of w.session x asks_name in
    let upper = parent_asked w.session y x in
    notice (both_rights x)
    (met w x.id (name_of x) x.attributes || (has_parent (name_of x) && met w y.id (name_of y) y.attributes))
    (own || upper)
    (at_once (when own l ++ when upper (list (parent_mark y) (name_of y))))

abbrev pub appears : Memory → Mailbox → Due
appears w x = name_due w x (list (list_mark x) (name_of x))

abbrev pub goes : Memory → Mailbox → Due
goes w x = name_due w x (list non_existent (name_of x))

-- a rename is matched by the old name or the new one (Written, 8)
abbrev pub rename_due : Memory → Mailbox → Mailbox → Due
rename_due w x y =
    notice (both_rights x)
    (met w x.id (name_of x) x.attributes || met w x.id (name_of y) y.attributes)
    (asked_of w.session x asks_name || asked_of w.session y asks_name)
    (at_once (renamed (list_mark x) (name_of y) (name_of x) ∷ []))

-- a subscription that is switched on (b is 1) or off, matched as if the mailbox were subscribed (Written, 9)
abbrev pub switches : Mailbox → ℕ → Bool
switches x b = cond (is_subscribed x) (eqb b 0) (eqb b 1)

abbrev pub subscription_due : Memory → Mailbox → ℕ → Due
subscription_due w x b =
    let s = with_subscribed x.attributes 1 in
    unless (not (switches x b)) no_event
    (notice (both_rights x) (met w x.id (name_of x) s) (asked w.session (name_of x) s asks_subscription)
    (at_once (list (cond (eqb b 1) subscribed plain) (name_of x) ∷ [])))

-- rights before and after: to lose l is to go, by the rights before; to gain it is to appear, by those after (Written, 1 and 6)
abbrev pub rights_due : Memory → Mailbox → Mailbox → Due
rights_due w x y =
    cond (may_list x)
    (cond (may_list y) (nothing no_event) (goes w x))
    (cond (may_list y) (appears w y) (nothing no_event))

-- ---- of messages elsewhere: a STATUS of the mailbox as it then is (Written, 3; 02, 1)
abbrev pub status_due : Memory → Mailbox → (Group → Bool) → List StatusItem → Due
status_due w x asks is =
    notice (both_rights x) (met w x.id (name_of x) x.attributes) (asked_of w.session x asks)
    (at_once (status (name_of x) is ∷ []))

-- what it says after a message came or went, es being all messages
abbrev pub counts_due : Mailbox → List Message → List StatusItem
counts_due x es = mail_items x.uidnext (length (messages_of x.id es)) (counter_of x)

-- ---- of messages of the selected mailbox, which come from the selected group alone (Matches, 4)
abbrev pub selected_met : Memory → Bool
selected_met w = anyb (λ (g : Group). is_selecting g.selector) (groups_of w.session)

abbrev pub message_due : Memory → (Group → Bool) → Due → Due
message_due w asks due = notice (both_rights (selected_box w)) (selected_met w) (selected_asks w.session asks) due

-- with both rights what the group asks is told at once, but by a delayed group no expunge (Written, 15, 16 and 19)
abbrev pub new_now : Memory → Bool
new_now w = both_rights (selected_box w) && selected_asks w.session asks_new

abbrev pub expunge_now : Memory → Bool
expunge_now w = both_rights (selected_box w) && immediate_asks w.session asks_expunge

abbrev pub flags_now : Memory → Bool
flags_now w = both_rights (selected_box w) && selected_asks w.session asks_flags

-- before the first NOTIFY a flag change waits, with both rights (Written, 18 and 19)
abbrev pub flags_later : Memory → Bool
flags_later w = both_rights (selected_box w) && eqb w.session.notified 0

-- EXISTS over the messages that the client has and the new ones, and for each of these what was asked (Written, 10)
abbrev pub arrivals : Memory → (old new : List Message) → List Line
arrivals w old new = exists_line (length old) new ++ cond (shows_any w.session) (new_lines w.session (length old + 1) new) []

-- new are message u and all that wait: one EXISTS announces them together (Written, 13)
abbrev pub is_new : List Fate → ℕ → Message → Bool
is_new fs u e = eqb (uid_of e) u || is_unseen fs e

-- a new message u, es being all messages with it: told at once or later (Written, 15, 17 to 19)
abbrev pub arrival_due : Memory → Account → ℕ → List Message → Due
arrival_due w a u es =
    let all = messages_of w.session.selected es in
    let old = filterb (λ (e : Message). not (is_new a.fates u e)) all in
    cond (new_now w) (at_once (arrivals w old (filterb (is_new a.fates u) all))) (later (arrival u))

-- an expunge: of a message that was not announced nothing (Written, 14), else told at once or later (Written, 15 to 19), numbered by the client's view (Astray, 1)
abbrev pub removal_due : Memory → Account → ℕ → Due
removal_due w a u =
    cond (waiting a.fates (arrival u)) (message_due w asks_expunge (nothing not_announced))
    (cond (expunge_now w) (at_once (expunge_line (place_of u (viewed w a)) (record { 0 = u }) ∷ [])) (later (removal u)))

-- new flags f, by a change with counter c: of an announced message alone (Written, 10), told at once (15), later before the first NOTIFY (18), else dropped (17 and 19)
abbrev pub flags_due : Memory → Account → ℕ → ℕ → ℕ → Due
flags_due w a u f c =
    let line = flags_line (place_of u (viewed w a)).0 (message w.session.selected u f 0 c) in
    cond (waiting a.fates (arrival u)) (message_due w asks_flags (nothing not_announced))
    (cond (flags_now w) (at_once (line ∷ []))
    (cond (flags_later w) (later (marking u)) (nothing (against (both_rights (selected_box w)) (selected_met w)))))

-- ---- of every record
unfoldable pub due : Memory → Account → Record → Due
due w a (create i b q v c n) = unless (is_quiet q) quiet (appears w (new_box i b v c n))
due w a (delete i q) = unless (is_quiet q) quiet (goes w (the_mailbox i (boxes w)))
due w a (rename i q n) = let x = the_mailbox i (boxes w) in unless (is_quiet q) quiet (rename_due w x (with_name x n))
due w a (subscribe i b q) = unless (is_quiet q) quiet (subscription_due w (the_mailbox i (boxes w)) b)
due w a (grant i r) = let x = the_mailbox i (boxes w) in rights_due w x (with_rights x r)
due w a (arrive i u f z c) =
    let es = a.kept ++ (message i u f z c ∷ []) in
    let x = with_next (with_counter (the_mailbox i (boxes w)) c) (u + 1) in
    cond (is_selected w i) (arrival_due w a u es) (status_due w x asks_new (counts_due x es))
due w a (expunge i u c) =
    let es = filterb (λ (e : Message). not (is_message i u e)) a.kept in
    let x = with_counter (the_mailbox i (boxes w)) c in
    cond (is_selected w i) (removal_due w a u) (status_due w x asks_expunge (counts_due x es))
due w a (reflag i u f c) =
    let x = with_counter (the_mailbox i (boxes w)) c in
    cond (is_selected w i) (flags_due w a u f c) (status_due w x asks_flags (changes_of x))
due w a (select i) = nothing no_event
due w a (ended c) = nothing no_event
due w a (command t) = nothing no_event
due w a (drained n) = nothing no_event
due w a record_of_none = nothing no_event

-- ---- what the end of a command of class c owes (Written, 20)
-- an EXPUNGE for each removal that waits; n is the place of the next message when those before it are gone
unfoldable pub removal_lines : List Fate → ℕ → List Message → List Line
removal_lines fs n [] = []
removal_lines fs n (e ∷ v) =
    let gone = expunge_line (record { 0 = n }) e.uid ∷ removal_lines fs n v in
    let stays = removal_lines fs (n + 1) v in
    cond (waiting fs (removal (uid_of e))) gone stays

-- a FETCH of the flags as they now are for each marking that waits; n is the place of the next message
unfoldable pub marking_lines : List Fate → ℕ → List Message → List Line
marking_lines fs n [] = []
marking_lines fs n (e ∷ v) =
    let rest = marking_lines fs (n + 1) v in
    cond (waiting fs (marking (uid_of e))) (flags_line n e ∷ rest) rest

-- the client's view when the EXPUNGE lines of class 1 are written
abbrev pub left : Memory → Account → ℕ → List Message
left w a c = cond (eqb c 1) (filterb (λ (e : Message). not (waiting a.fates (removal (uid_of e)))) (viewed w a)) (viewed w a)

-- with both rights: EXPUNGE for class 1 alone, EXISTS, FETCH, in this order
abbrev pub owing : Memory → Account → ℕ → List Line
owing w a c =
    cond (both_rights (selected_box w))
    (cond (eqb c 1) (removal_lines a.fates 1 (viewed w a)) []
    ++ (exists_line (length (left w a c)) (unseen w a)
    ++ marking_lines a.fates 1 (left w a c)))
    []
