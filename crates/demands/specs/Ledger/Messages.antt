-- What is common to records about messages. Assumes nothing.
use Rattle.std.specs.Prelude.{◌≡◌, refl, List, [], ◌∷◌, ◌++◌, map, Bool, true, false, not, ◌&&◌, ℕ, eqb, ltb}
use Rattle.std.proofs.Common.{sym, ◌∙◌, ap, ap₂, eqb-true, eq-eqb, ne_eqb}
use Rattle.std.proofs.lemmas.Bool.{eqb-false, not-true, not-false}
use Rattle.model.specs.Lists.{filterb, anyb}
use Rattle.model.specs.Laws.{tf, and_l, and_r, or-false, filter_map, and_false}
use Rattle.model.specs.Records.{Record}
use Rattle.model.specs.Memory.{Memory, mails, name_of, both_rights, selected_box, is_selected, uid_of, expunged, is_message, in_mailbox, by_uid, messages_of, existing}
use Rattle.model.specs.Groups.{asked_of, selected_asks}
use Rattle.model.specs.Lines.{Line, StatusItem, status}
use Rattle.model.specs.View.{new_at_once, expunge_at_once, flags_at_once}
use Rattle.model.specs.Events.{Event, status_lines, silence}
use Rattle.model.specs.Rules.{rested, event_outcome}
use Rattle.model.specs.Refusals.{absent}
use Rattle.model.specs.Lawful.{message_ok, state_ok}
use Rattle.demands.specs.Lasting.Law.{Law}
use Rattle.model.specs.declared.Mailbox.{Mailbox}
use Rattle.model.specs.declared.Message.{Message}
use Rattle.model.specs.Fates.{arrival, removal, marking, Why, Fate, refused, unowed, reported, waits, dropped, lost, silent, waits_still, lists_all, is_exists, is_removal, is_marking}
use Rattle.model.specs.Seen.{apparent}
use Rattle.model.specs.Due.{Account, waiting, nothing, at_once, notice, met, status_due, selected_met, message_due, arrivals, due}
use Rattle.model.specs.Account.{due_lines, kept_by, owed_now}
use Rattle.demands.specs.Ledger.Each.{All, none, also, all_yes, all_to, all_with, all_pass, all_ordered, filter_all, sort-map, any_fact}
use Rattle.demands.specs.Ledger.Entries.{present, state_of, found}
use Rattle.demands.specs.Ledger.Books.{Books, two_bits, small_states}
use Rattle.demands.specs.Ledger.Effects.{Ended, filter_no}
use Rattle.demands.specs.Ledger.Steps.{Turn, Unending, Unwaiting, Step, once, simple}
use Rattle.demands.specs.Ledger.Plain.{Plain, plain-notice, notice-lines, Elsewhere, plain_by}

-- ---- after an overflow nothing is asked
pub hush-new : (m : Memory) → new_at_once (silence (apparent m)) ≡ false
hush-new m = and_false (both_rights (selected_box m))

pub hush-expunge : (m : Memory) → expunge_at_once (silence (apparent m)) ≡ false
hush-expunge m = and_false (both_rights (selected_box m))

pub hush-flags : (m : Memory) → flags_at_once (silence (apparent m)) ≡ false
hush-flags m = and_false (both_rights (selected_box m))

-- what is not owed, for whatever reason
pub message_none : (w : Memory) (asks : _) (y : Why) → Plain (message_due w asks (nothing y))
message_none w asks y = plain-notice (both_rights (selected_box w)) (selected_met w) (selected_asks w.session asks) (nothing y) tt

pub still_none : (f : Fate) → Unwaiting f → waits_still f ≡ false
still_none refused h = refl
still_none (unowed y) h = refl
still_none (reported n) h = refl
still_none (waits (arrival u)) h = tf (eqb u u) (eq-eqb u u refl) (h (arrival u))
still_none (waits (removal u)) h = tf (eqb u u) (eq-eqb u u refl) (h (removal u))
still_none (waits (marking u)) h = tf (eqb u u) (eq-eqb u u refl) (h (marking u))
still_none (dropped y n) h = refl
still_none lost h = refl
still_none silent h = refl

-- ---- a STATUS, of a mailbox that is not selected
status-lines : (w : Memory) (x : Mailbox) (asks : _) (is : List StatusItem) → status_lines x (asked_of w.session x asks) is ≡ once (status_due w x asks is)
status-lines w x asks is = notice-lines (both_rights x) (met w x.id (name_of x) x.attributes) (asked_of w.session x asks) (status (name_of x) is)

status_plain : (w : Memory) (x : Mailbox) (asks : _) (is : List StatusItem) → lists_all is ≡ false → Plain (status_due w x asks is)
status_plain w x asks is h = plain-notice (both_rights x) (met w x.id (name_of x) x.attributes) (asked_of w.session x asks)
    (at_once (status (name_of x) is ∷ [])) (also ((ap not h, refl), refl) none)

-- a message event elsewhere: x is the row after it, and the list is not that of NOTIFY SET
pub status_by_lem : (m : Memory) (a : Account) → Books m a → (r : Record) (event : Memory → Event) (x : Mailbox) (asks : _) (is : List StatusItem)
    → due (apparent m) a r ≡ status_due (apparent m) x asks is → due (silence (apparent m)) a r ≡ status_due (silence (apparent m)) x asks is
    → (event m).lines ≡ status_lines x (asked_of m.session x asks) is → lists_all is ≡ false
    → ((ls : List Line) → owed_now (apparent m) a r ls ≡ due_lines (apparent m) (due (apparent m) a r)) → Unending (apparent m) r
    → Elsewhere m (event m).stored → Elsewhere m (event (silence m)).stored
    → ((f : Fate) (ls : List Line) → Unwaiting f → kept_by (apparent m) a r f ls ≡ map rested (mails (event m).stored))
    → ((f : Fate) (ls : List Line) → Unwaiting f → kept_by (apparent m) a r f ls ≡ map rested (mails (event (silence m)).stored))
    → Step m a r (event_outcome m event)
status_by_lem m a b r event x asks is p q e h o d v w s t = plain_by m a b r event (status_due (apparent m) x asks is) (status_due (silence (apparent m)) x asks is) p q
    (e ∙ status-lines (apparent m) x asks is) (status_plain (apparent m) x asks is h) (status_plain (silence (apparent m)) x asks is h) o d v w s t

-- ---- lists of messages, the states aside
pub messages-rested : (j : ℕ) (l : List Message) → messages_of j (map rested l) ≡ map rested (messages_of j l)
messages-rested j l = rw (filter_map rested (in_mailbox j) (λ e. refl) l) (sort-map by_uid rested (λ x y. refl) (filterb (in_mailbox j) l))

pub map-append : (f : Message → Message) (l r : List Message) → map f (l ++ r) ≡ map f l ++ map f r
map-append f [] r = refl
map-append f (x ∷ l) r = ap (λ (t : List Message). f x ∷ t) (map-append f l r)

-- where no message of mailbox j is expunged, those that exist are all
pub existing_all : (j : ℕ) {l : List Message} → All (λ (e : Message). in_mailbox j e ≡ true → expunged e ≡ false) l → existing j l ≡ messages_of j l
existing_all j {l} h = filter_all (λ (e : Message). not (expunged e)) (messages_of j l) (all_ordered by_uid (all_to (λ e p. ap not (p.0 p.1)) (all_pass (in_mailbox j) h)))

module _ (m : Memory) (k : Law m) where
  -- the messages of another mailbox have no states
  pub rest_of : (j : ℕ) → eqb m.session.selected j ≡ false → All (λ (e : Message). in_mailbox j e ≡ true → expunged e ≡ false) (mails m)
  rest_of j h = all_to one (all_yes (state_ok m.session) (mails m) k.states)
    where
      one : (e : Message) → state_ok m.session e ≡ true → in_mailbox j e ≡ true → expunged e ≡ false
      one e o g =
          let n : in_mailbox m.session.selected e ≡ false = ne_eqb e.mailbox m.session.selected (λ z. eqb-false m.session.selected j h (sym z ∙ eqb-true e.mailbox j g)) in
          let z : e.states ≡ 0 = eqb-true e.states 0 (sym (or-false (eqb e.states 0)) ∙ (rw n at o)) in
          rw z

  pub is-selected : (i : ℕ) → is_selected m i ≡ true → i ≡ m.session.selected
  is-selected i h = eqb-true i m.session.selected (and_r (not (eqb i 0)) _ h)

once_none : (r g a : Bool) (y : Why) → once (notice r g a (nothing y)) ≡ []
once_none true g true y = refl
once_none true true false y = refl
once_none true false false y = refl
once_none false g a y = refl

pub message-once : (w : Memory) (asks : _) (y : Why) → once (message_due w asks (nothing y)) ≡ []
message-once w asks y = once_none (both_rights (selected_box w)) (selected_met w) (selected_asks w.session asks) y

-- lines after a change elsewhere
pub turn-from : (m x n w : Memory) (r : Record) (ls : List Line) (f : Fate) → Elsewhere m x → Ended x n ls → Unending w r → Unwaiting f → Turn m n w r ls f
turn-from m x n w r ls f c e d q = record {
  removals = λ u. rw (d (removal u), q (removal u), e.selected, c.selected)
      (simple (eqb (state_of m.session.selected u (mails m)) 1) (anyb (is_removal u) ls)
      ∙ (sym (ap (λ (j : ℕ). eqb j 1 && not (anyb (is_removal u) ls)) (c.states u)) ∙ sym (rw c.selected at (e.removals u))));
  markings = λ u. rw (d (marking u), q (marking u), e.selected, c.selected)
      (simple (eqb (state_of m.session.selected u (mails m)) 2) (anyb (is_marking u) ls)
      ∙ (sym (ap (λ (j : ℕ). eqb j 2 && not (anyb (is_marking u) ls)) (c.states u)) ∙ sym (rw c.selected at (e.markings u))));
  arrivals = λ u. rw (d (arrival u), q (arrival u), e.selected, c.selected)
      (simple (present m.session.selected u (mails m) && not (ltb u m.session.told)) (anyb is_exists ls)
      ∙ (sym (ap₂ (λ (p : Bool) (t : ℕ). (p && not (ltb u t)) && not (anyb is_exists ls)) (c.presents u) c.told) ∙ sym (rw c.selected at (e.arrivals u))));
}

-- lines with no EXPUNGE leave every message
pub unremoved : (x n : Memory) (ls : List Line) → ((u : ℕ) → anyb (is_removal u) ls ≡ false) → Ended x n ls → map rested (mails n) ≡ map rested (mails x)
unremoved x n ls h e = e.kept ∙ filter_no (λ (d : Message). anyb (is_removal (uid_of d)) ls) (λ d. h (uid_of d)) x.session.selected (map rested (mails x))

module _ (m : Memory) (k : Law m) (a : Account) (b : Books m a) where
  -- a message of the selected mailbox that is there and not expunged
  pub there : (u : ℕ) → absent m m.session.selected u ≡ false → (present m.session.selected u (mails m) ≡ true) × (eqb (state_of m.session.selected u (mails m)) 1 ≡ false)
  there u h = any_fact _ (λ (e : Message). is_message m.session.selected u e && not (expunged e))
      (all_with one (found m.session.selected (mails m) k.twins) (all_yes message_ok (mails m) k.mail))
      (not-false (anyb (λ (e : Message). is_message m.session.selected u e && not (expunged e)) (mails m)) h)
    where
      one : (e : Message) → (in_mailbox m.session.selected e ≡ true
          → (state_of m.session.selected (uid_of e) (mails m) ≡ e.states) × (present m.session.selected (uid_of e) (mails m) ≡ true)) → message_ok e ≡ true
          → (is_message m.session.selected u e && not (expunged e)) ≡ true → (present m.session.selected u (mails m) ≡ true) × (eqb (state_of m.session.selected u (mails m)) 1 ≡ false)
      one e g o q =
          let i = and_l (is_message m.session.selected u e) _ q in
          let n = not-true (expunged e) (and_r (is_message m.session.selected u e) _ q) in
          let x = g (and_l (in_mailbox m.session.selected e) _ i) in
          let y : uid_of e ≡ u = eqb-true (uid_of e) u (and_r (in_mailbox m.session.selected e) _ i) in
          let z : state_of m.session.selected u (mails m) ≡ e.states = rw y at x.0 in
          (rw y at x.1, rw z ((two_bits e.states (small_states e o)).0 ∙ n))

  -- its arrival waits just if it was not announced
  pub seen_by : (u : ℕ) → present m.session.selected u (mails m) ≡ true → waiting a.fates (arrival u) ≡ not (ltb u m.session.told)
  seen_by u p = b.arrivals u ∙ rw p
