-- What the account sees of memory is itself what the history left: mailboxes, groups, selection. Assumes nothing.
use Rattle.std.specs.Prelude.{◌≡◌, refl, List, [], ◌∷◌, ◌++◌, Bool, true, false, not, cond, ◌&&◌, ◌||◌, ℕ, ◌+◌, ◌-◌, eqb, length, set}
use Rattle.std.proofs.Common.{◌∙◌, ap, ap₂, arith}
use Rattle.std.proofs.lemmas.Bool.{not-false}
use Rattle.model.specs.Lists.{filterb, anyb, when}
use Rattle.model.specs.Laws.{or_true, any_snoc}
use Rattle.model.specs.Requests.{Command, notify_none, notify_set, search}
use Rattle.model.specs.Reading.{Parsed, bad, ok}
use Rattle.model.specs.Commands.{tag_of, command_of}
use Rattle.model.specs.Records.{Record, create, delete, rename, subscribe, grant, arrive, expunge, reflag, select, ended, command, drained, record_of_none, is_record, record_of}
use Rattle.model.specs.Memory.{Memory, boxes, filled, name_of, subscribed as is_subscribed, may_list, both_rights, known, the_mailbox, place, is_selected, is_message, with_name, with_next, with_attributes, drop_mails, change_mails}
use Rattle.model.specs.Groups.{asked_of, asked, asks_name, asks_subscription, asks_new, asks_expunge, asks_flags}
use Rattle.model.specs.Lines.{Line, StatusItem, status, list, renamed, exists, expunge as expunge_line, fetch, found, overflow, answer, ListMark, plain, non_existent, subscribed, render_all}
use Rattle.model.specs.Queue.{fits, enqueue, dequeue, unmark, shows_flags, effect, effects, say}
use Rattle.model.specs.View.{view, unannounced, exists_line, new_lines, new_at_once, expunge_at_once, flags_at_once, flags_wait, shows_any, announcing}
use Rattle.model.specs.Events.{Event, loud, list_mark, parent_row, parent_mark, parent_asked, parent_lines, new_box, created, deleted, renamed_to, subscribed_to, granted, with_subscribed, with_rights, with_arrived, arrived, status_lines, counts_of, changes_of, in_view, removed, reflagged, silence, tellings, settled}
use Rattle.model.specs.Answering.{work_lines, accepted_lines, is_accepted, reply, verb, verb_of, answer_lines, session_by, with_asked, answered}
use Rattle.model.specs.Answers.{number_of}
use Rattle.model.specs.Lawful.{lawful}
use Rattle.model.specs.Refusals.{wrong_id, name_held, wrong_uid, wrong_state, table_full}
use Rattle.model.specs.Rules.{Outcome, selecting, end_lines, raised, event_outcome, accepted}
use Rattle.model.specs.Call.{call, refuse, roomless}
use Rattle.model.specs.Hidden.{Octets}
use Rattle.demands.specs.Isolation.Alike.{boxes_with}
use Rattle.demands.specs.Lasting.Raised.{raised-boxes, raised_row}
use Rattle.model.specs.declared.Mailbox.{Mailbox}
use Rattle.model.specs.declared.Message.{Message}
use Rattle.model.specs.declared.Session.{Session}
use Rattle.model.specs.declared.Reply.TheVariants.{Accepted}
use Rattle.model.specs.declared.Refusal.{Refusal}
use Rattle.model.specs.declared.Refusal.TheVariants.{UnlawfulMemory, BadRecord, WrongId, NameHeld, WrongUid, WrongState, TableFull, NoRoom}
use Rattle.model.specs.Fates.{is_overflow, says_ok}
use Rattle.model.specs.Seen.{apparent, Setting, setting_of, boxes_by, hushed_by, session_after, filled_by, setting_by}
use Rattle.demands.specs.Ledger.Commanded.{not-ok}
use Rattle.demands.specs.Ledger.Each.{of_two, any_append}
use Rattle.demands.specs.Ledger.Raised.{put_again}
use Rattle.demands.specs.Counted.Taken.{Unrefused}

-- ---- lines change neither mailboxes nor groups
setting_line : (m : Memory) (l : Line) → setting_of (effect m l) ≡ setting_of m
setting_line m (exists n) = refl
setting_line m (expunge_line n u) = refl
setting_line m (fetch n u is) = go (shows_flags is)
  where
    go : (c : Bool) → setting_of (cond c (change_mails m (unmark m.session.selected u.0)) m) ≡ setting_of m
    go true = refl
    go false = refl
setting_line m (status n is) = refl
setting_line m (list k n) = refl
setting_line m (renamed k new old) = refl
setting_line m (found t n v rs) = refl
setting_line m overflow = refl
setting_line m (answer t v r) = refl

setting-lines : (m : Memory) (ls : List Line) → setting_of (effects m ls) ≡ setting_of m
unfolding effects
setting-lines m [] = refl
setting-lines m (l ∷ ls) = setting-lines (effect m l) ls ∙ setting_line m l

setting-say : (m : Memory) (ls : List Line) → setting_of (say m ls) ≡ record { boxes = boxes m; session = (setting_of m).session; filled = filled m + length (render_all ls) }
setting-say m ls = setting-lines (enqueue m (render_all ls)) ls

-- nothing is drained
undrained : {s : Setting} {l : List Mailbox} {z : Session} (f n : ℕ) → s ≡ record { boxes = l; session = z; filled = f + n } → s ≡ record { boxes = l; session = z; filled = f - 0 + n }
undrained {s} {l} {z} f n e =
    let q : f + n ≡ f - 0 + n = omega arith in
    e ∙ ap (λ (j : ℕ). record { boxes = l; session = z; filled = j }) q

-- the mailboxes are these
with-boxes : {s : Setting} {l k : List Mailbox} {z : Session} {f : ℕ} → s ≡ record { boxes = l; session = z; filled = f } → l ≡ k → s ≡ record { boxes = k; session = z; filled = f }
with-boxes {z = z} {f = f} e q = e ∙ ap (λ (j : List Mailbox). record { boxes = j; session = z; filled = f }) q

-- ---- an event: what it stores, and that its lines are no overflow line
told-setting : (m : Memory) (event : Memory → Event) (by : List Mailbox → List Mailbox)
    → ((k : Memory) → setting_of (event k).stored ≡ record { boxes = by (boxes k); session = (setting_of k).session; filled = filled k }) → anyb is_overflow (event m).lines ≡ false
    → setting_of (event_outcome m event).after
    ≡ record { boxes = by (boxes m); session = hushed_by (setting_of m).session (event_outcome m event).lines; filled = filled m - 0 + length (render_all (event_outcome m event).lines) }
unfolding tellings settled
told-setting m event by h n = undrained (filled m) (length (render_all (event_outcome m event).lines)) (go (fits m (event m).lines) refl)
  where
    go : (c : Bool) → fits m (event m).lines ≡ c
        → setting_of (say (cond c (event m).stored (event (silence m)).stored) (cond c (event m).lines (overflow ∷ [])))
        ≡ record {
          boxes = by (boxes m);
          session = hushed_by (setting_of m).session (cond c (event m).lines (overflow ∷ []));
          filled = filled m + length (render_all (cond c (event m).lines (overflow ∷ [])));
        }
    go true e = rw n (setting-say (event m).stored (event m).lines
        ∙ ap (λ (x : Setting). record { boxes = x.boxes; session = x.session; filled = x.filled + length (render_all (event m).lines) }) (h m))
    go false e = setting-say (event (silence m)).stored (overflow ∷ [])
        ∙ ap (λ (x : Setting). record { boxes = x.boxes; session = x.session; filled = x.filled + length (render_all (overflow ∷ [])) }) (h (silence m))

-- no event owes the overflow line
when_none : (c : Bool) (l : Line) → is_overflow l ≡ false → anyb is_overflow (when c l) ≡ false
when_none true l h = rw h
when_none false l h = refl

-- the two lines of a mailbox that appears or goes
two_none : (c d : Bool) (k l : Line) → is_overflow k ≡ false → is_overflow l ≡ false → anyb is_overflow (when c k ++ when d l) ≡ false
two_none true d k l g h = rw g (when_none d l h)
two_none false d k l g h = when_none d l h

name_none : (s : Session) (p x : Mailbox) (k : ListMark) → anyb is_overflow (when (both_rights x && asked_of s x asks_name) (list k (name_of x)) ++ parent_lines s p x) ≡ false
name_none s p x k = two_none (both_rights x && asked_of s x asks_name) (both_rights x && parent_asked s p x) (list k (name_of x)) (list (parent_mark p) (name_of p)) refl refl

loud_none : (q : ℕ) (ls : List Line) → anyb is_overflow ls ≡ false → anyb is_overflow (loud q ls) ≡ false
loud_none q ls h = go (eqb q 0)
  where
    go : (c : Bool) → anyb is_overflow (cond c ls []) ≡ false
    go true = h
    go false = refl

new_none : (s : Session) (n : ℕ) (l : List Message) → anyb is_overflow (new_lines s n l) ≡ false
unfolding new_lines
new_none s n [] = refl
new_none s n (e ∷ l) = new_none s (n + 1) l

exists_none : (n : ℕ) (l : List Message) → anyb is_overflow (exists_line n l) ≡ false
exists_none n [] = refl
exists_none n (e ∷ l) = refl

announcing_none : (m : Memory) → anyb is_overflow (announcing m) ≡ false
announcing_none m = any_append is_overflow (exists_line (length (view m)) (unannounced m)) (cond (shows_any m.session) (new_lines m.session (length (view m) + 1) (unannounced m)) [])
    ∙ ap₂ ◌||◌ (exists_none (length (view m)) (unannounced m)) (go (shows_any m.session))
  where
    go : (c : Bool) → anyb is_overflow (cond c (new_lines m.session (length (view m) + 1) (unannounced m)) []) ≡ false
    go true = new_none m.session (length (view m) + 1) (unannounced m)
    go false = refl

rights_none : (c d : Bool) (x y : List Line) → anyb is_overflow x ≡ false → anyb is_overflow y ≡ false → anyb is_overflow (cond c (cond d [] x) (cond d y [])) ≡ false
rights_none true true x y g h = refl
rights_none true false x y g h = g
rights_none false true x y g h = h
rights_none false false x y g h = refl

-- ---- records about messages: what is stored beside the row's counter, and that no overflow line is owed
abbrev Still : Memory → Event → Type 0
Still k e = setting_of e.stored ≡ setting_of k

abbrev Mute : Event → Type 0
Mute e = anyb is_overflow e.lines ≡ false

status_none : (c : Bool) (x : Mailbox) (wanted : Bool) (is : List StatusItem) → anyb is_overflow (cond c [] (status_lines x wanted is)) ≡ false
status_none true x wanted is = refl
status_none false x wanted is = when_none (both_rights x && wanted) (status (name_of x) is) refl

arrived_mute : (k : Memory) (i u f z c : ℕ) → Mute (arrived k i u f z c)
arrived_mute k i u f z c = go (is_selected k i) (new_at_once k)
  where
    w : Memory
    w = with_arrived k i u f z c

    x : Mailbox
    x = the_mailbox i (boxes (with_arrived k i u f z c))

    go : (c d : Bool) → anyb is_overflow (cond c (cond d (announcing w) []) (status_lines x (asked_of k.session x asks_new) (counts_of w x))) ≡ false
    go true true = announcing_none w
    go true false = refl
    go false d = status_none false x (asked_of k.session x asks_new) (counts_of w x)

removed-still : (k : Memory) (i u : ℕ) → Still k (removed k i u)
removed-still k i u = of_two (Still k) (in_view k i u) _ _ (of_two (Still k) (expunge_at_once k) _ _ refl refl) refl

removed_mute : (k : Memory) (i u : ℕ) → Mute (removed k i u)
removed_mute k i u = of_two Mute (in_view k i u) _ _ (of_two Mute (expunge_at_once k) _ _ refl refl)
    (let x = the_mailbox i (boxes k) in status_none (is_selected k i) x (asked_of k.session x asks_expunge) (counts_of (drop_mails k (is_message i u)) x))

reflagged-still : (k : Memory) (i u f c : ℕ) → Still k (reflagged k i u f c)
reflagged-still k i u f c = of_two (Still k) (in_view k i u) _ _ (of_two (Still k) (flags_at_once k) _ _ refl (of_two (Still k) (flags_wait k) _ _ refl refl)) refl

reflagged_mute : (k : Memory) (i u f c : ℕ) → Mute (reflagged k i u f c)
reflagged_mute k i u f c = of_two Mute (in_view k i u) _ _ (of_two Mute (flags_at_once k) _ _ refl (of_two Mute (flags_wait k) _ _ refl refl))
    (let x = the_mailbox i (boxes k) in status_none (is_selected k i) x (asked_of k.session x asks_flags) (changes_of x))

-- ---- commands
asked-setting : (m : Memory) (c : Parsed Command) → setting_of (with_asked m c) ≡ record { boxes = boxes m; session = session_by c (setting_of m).session; filled = filled m }
asked-setting m bad = refl
asked-setting m (ok p notify_none) = refl
asked-setting m (ok p (notify_set wanted gs)) = refl
asked-setting m (ok p (search q)) = refl

ok-setting : (m : Memory) (tag : List ℕ) (c : Parsed Command)
    → setting_of (with_asked (say m (accepted_lines m tag c)) c)
    ≡ record {
      boxes = boxes m;
      session = cond (anyb says_ok (accepted_lines m tag c)) (session_by c (setting_of m).session) (setting_of m).session;
      filled = filled m + length (render_all (accepted_lines m tag c));
    }
ok-setting m tag bad = setting-say m []
ok-setting m tag (ok p c) =
    let says : anyb says_ok (accepted_lines m tag (ok p c)) ≡ true = any_snoc says_ok (work_lines m tag c) (answer tag (verb_of c) Accepted) ∙ or_true (anyb says_ok (work_lines m tag c)) in
    rw says (asked-setting (say m (accepted_lines m tag (ok p c))) (ok p c)
    ∙ ap (λ (x : Setting). record { boxes = x.boxes; session = session_by (ok p c) x.session; filled = x.filled }) (setting-say m (accepted_lines m tag (ok p c))))

command-setting : (m : Memory) (t : List ℕ)
    → setting_of (answered m t) ≡ record {
      boxes = boxes m;
      session = cond (anyb says_ok (answer_lines m t)) (session_by (command_of t) (setting_of m).session) (setting_of m).session;
      filled = filled m + length (render_all (answer_lines m t));
    }
unfolding answer_lines answered
command-setting m t = go (is_accepted (reply m t)) refl
  where
    go : (c : Bool) → is_accepted (reply m t) ≡ c
        → setting_of (answered m t) ≡ record {
          boxes = boxes m;
          session = cond (anyb says_ok (answer_lines m t)) (session_by (command_of t) (setting_of m).session) (setting_of m).session;
          filled = filled m + length (render_all (answer_lines m t));
        }
    go true h = rw h (ok-setting m (tag_of t) (command_of t))
    go false h = rw (h, not-ok (tag_of t) (verb (command_of t)) (reply m t) h) (setting-say m (answer (tag_of t) (verb (command_of t)) (reply m t) ∷ []))

-- ---- every kind
-- F by another sum
abbrev counting : Memory → ℕ → Setting
counting m f = record { boxes = boxes m; session = (setting_of m).session; filled = f }

unchanged : (m : Memory) (f : ℕ) {n : ℕ} → f ≡ n → counting m f ≡ counting m n
unchanged m f e = ap (counting m) e

kind-setting : (m : Memory) (r : Record) → wrong_id m r ≡ false
    → setting_of (accepted m r).after
    ≡ record { boxes = boxes_by (boxes m) r; session = session_after (setting_of m).session r (accepted m r).lines; filled = filled_by (filled m) r (accepted m r).lines }
unfolding accepted render_all
kind-setting m (create i a q v c n) d = told-setting m (λ (k : Memory). created k i a q v c n) (λ (l : List Mailbox). l ++ (new_box i a v c n ∷ []))
    (λ k. ap (λ (l : List Mailbox). record { boxes = l; session = (setting_of k).session; filled = filled k }) (boxes_with k (boxes k ++ (new_box i a v c n ∷ []))))
    (loud_none q _ (name_none m.session (parent_row (boxes m) (new_box i a v c n)) (new_box i a v c n) (list_mark (new_box i a v c n))))
kind-setting m (delete i q) d = told-setting m (λ (k : Memory). deleted k i q) (filterb (λ (x : Mailbox). not (eqb x.id i)))
    (λ k. ap (λ (l : List Mailbox). record { boxes = l; session = (setting_of k).session; filled = filled k }) (boxes_with k (filterb (λ (x : Mailbox). not (eqb x.id i)) (boxes k))))
    (loud_none q _ (name_none m.session (parent_row (boxes m) (the_mailbox i (boxes m))) (the_mailbox i (boxes m)) non_existent))
kind-setting m (rename i q n) d = told-setting m (λ (k : Memory). renamed_to k i q n) (λ (l : List Mailbox). set l (place i l) (with_name (the_mailbox i l) n))
    (λ k. ap (λ (l : List Mailbox). record { boxes = l; session = (setting_of k).session; filled = filled k }) (boxes_with k (set (boxes k) (place i (boxes k)) (with_name (the_mailbox i (boxes k)) n))))
    (loud_none q _ (when_none (both_rights (the_mailbox i (boxes m)) &&
    (asked_of m.session (the_mailbox i (boxes m)) asks_name || asked_of m.session (with_name (the_mailbox i (boxes m)) n) asks_name))
    (renamed (list_mark (the_mailbox i (boxes m))) (name_of (with_name (the_mailbox i (boxes m)) n)) (name_of (the_mailbox i (boxes m)))) refl))
kind-setting m (subscribe i b q) d = told-setting m (λ (k : Memory). subscribed_to k i b q)
    (λ (l : List Mailbox). set l (place i l) (with_attributes (the_mailbox i l) (with_subscribed (the_mailbox i l).attributes b)))
    (λ k. ap (λ (l : List Mailbox). record { boxes = l; session = (setting_of k).session; filled = filled k })
    (boxes_with k (set (boxes k) (place i (boxes k)) (with_attributes (the_mailbox i (boxes k)) (with_subscribed (the_mailbox i (boxes k)).attributes b)))))
    (loud_none q _ (when_none (cond (is_subscribed (the_mailbox i (boxes m))) (eqb b 0) (eqb b 1) &&
    (both_rights (the_mailbox i (boxes m)) && asked m.session (name_of (the_mailbox i (boxes m))) (with_subscribed (the_mailbox i (boxes m)).attributes 1) asks_subscription))
    (list (cond (eqb b 1) subscribed plain) (name_of (the_mailbox i (boxes m)))) refl))
kind-setting m (grant i r) d = told-setting m (λ (k : Memory). granted k i r) (λ (l : List Mailbox). set l (place i l) (with_rights (the_mailbox i l) r))
    (λ k. ap (λ (l : List Mailbox). record { boxes = l; session = (setting_of k).session; filled = filled k }) (boxes_with k (set (boxes k) (place i (boxes k)) (with_rights (the_mailbox i (boxes k)) r))))
    (rights_none (may_list (the_mailbox i (boxes m))) (may_list (with_rights (the_mailbox i (boxes m)) r)) _ _
    (name_none m.session (parent_row (boxes m) (the_mailbox i (boxes m))) (the_mailbox i (boxes m)) non_existent)
    (name_none m.session (parent_row (boxes m) (the_mailbox i (boxes m))) (with_rights (the_mailbox i (boxes m)) r) (list_mark (with_rights (the_mailbox i (boxes m)) r))))
kind-setting m (arrive i u f z c) d =
    let kn = not-false (known i (boxes m)) d in
    let k = raised m i c in
    with-boxes (told-setting k (λ (j : Memory). arrived j i u f z c) (λ (l : List Mailbox). set l (place i l) (with_next (the_mailbox i l) (u + 1)))
    (λ j. ap (λ (l : List Mailbox). record { boxes = l; session = (setting_of j).session; filled = filled j })
    (boxes_with j (set (boxes j) (place i (boxes j)) (with_next (the_mailbox i (boxes j)) (u + 1)))))
    (arrived_mute k i u f z c))
    (put_again m i c kn (with_next (the_mailbox i (boxes k)) (u + 1)) ∙ ap (λ (x : Mailbox). set (boxes m) (place i (boxes m)) (with_next x (u + 1))) (raised_row m i c kn))
kind-setting m (expunge i u c) d = with-boxes (told-setting (raised m i c) (λ (j : Memory). removed j i u) (λ (l : List Mailbox). l) (λ j. removed-still j i u) (removed_mute (raised m i c) i u))
    (raised-boxes m i c (not-false (known i (boxes m)) d))
kind-setting m (reflag i u f c) d = with-boxes (told-setting (raised m i c) (λ (j : Memory). reflagged j i u f c) (λ (l : List Mailbox). l) (λ j. reflagged-still j i u f c)
    (reflagged_mute (raised m i c) i u f c))
    (raised-boxes m i c (not-false (known i (boxes m)) d))
kind-setting m (select i) d = unchanged (selecting m i) (filled m) (let e : filled m ≡ filled m - 0 + 0 = omega arith in e)
kind-setting m (ended c) d = undrained (filled m) (length (render_all (end_lines m c))) (setting-say m (end_lines m c))
kind-setting m (command t) d = undrained (filled m) (length (render_all (answer_lines m t))) (command-setting m t)
kind-setting m (drained n) d = unchanged (dequeue m n) (filled m - n) (let e : filled m - n ≡ filled m - n + 0 = omega arith in e)
kind-setting m record_of_none d = unchanged m (filled m) (let e : filled m ≡ filled m - 0 + 0 = omega arith in e)

-- ---- a call
pub record Follows (m : Memory) (o : Octets) (x : Outcome) : Type 0 where
  pub setting : setting_of x.after ≡ setting_by (setting_of m) (record { around = apparent m; said = record_of o; taken = eqb (number_of x.answer) 0; lines = x.lines })

module _ (m : Memory) (o : Octets) where
  rung : (c : Bool) (x y : Outcome) → Follows m o x → (c ≡ false → Follows m o y) → Follows m o (cond c x y)
  rung true x y l r = l
  rung false x y l r = r refl

  taken-setting : wrong_id m (record_of o) ≡ false → Follows m o (accepted m (record_of o))
  taken-setting d = record { setting = rw (Unrefused m (record_of o)) (kind-setting m (record_of o) d) }

  refused-setting : (r : Refusal) → eqb (number_of (refuse m r).answer) 0 ≡ false → Follows m o (refuse m r)
  refused-setting r h = record { setting = rw h }

  pub call-setting : Follows m o (call m o)
  unfolding call
  call-setting =
      rung (not (lawful m)) _ _ (refused-setting UnlawfulMemory refl) λ _.
      rung (not (is_record o)) _ _ (refused-setting BadRecord refl) λ _.
      rung (wrong_id m (record_of o)) _ _ (refused-setting WrongId refl) λ d.
      rung (name_held m (record_of o)) _ _ (refused-setting NameHeld refl) λ _.
      rung (wrong_uid m (record_of o)) _ _ (refused-setting WrongUid refl) λ _.
      rung (wrong_state m (record_of o)) _ _ (refused-setting WrongState refl) λ _.
      rung (table_full m (record_of o)) _ _ (refused-setting TableFull refl) λ _.
      rung (roomless m (record_of o)) _ _ (refused-setting NoRoom refl) λ _. taken-setting d
