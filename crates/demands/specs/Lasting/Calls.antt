-- A call leaves lawful memory lawful, and unlawful memory as it was. Assumes nothing.
use Rattle.std.specs.Prelude.{◌≡◌, refl, List, [], ◌∷◌, ◌++◌, map, Bool, true, false, not, cond, ◌&&◌, ℕ, ◌+◌, ◌-◌, ◌≤◌, eqb, leb, ltb, length}
use Rattle.std.proofs.Common.{sym, ◌∙◌, ap, arith, leb-true, leb-false, le-leb, ltb-false, eqb-true, length-append}
use Rattle.std.proofs.lemmas.Bool.{not-false}
use Rattle.model.specs.Laws.{tf, or_l, or_r, or_true}
use Rattle.model.specs.Requests.{Command, notify_none, notify_set, search}
use Rattle.model.specs.Reading.{Parsed, bad, ok}
use Rattle.model.specs.Commands.{tag_of, command_of}
use Rattle.model.specs.Limits.{limits}
use Rattle.model.specs.Replies.{reply_of}
use Rattle.model.specs.Records.{Record, create, delete, rename, subscribe, grant, arrive, expunge, reflag, select, ended, command, drained, record_of_none, is_record, record_of}
use Rattle.model.specs.Memory.{Memory, boxes, mails, filled, known, the_mailbox, expunged, with_view, with_session, drop_mails, change_mails}
use Rattle.model.specs.Lines.{Line, status, list, renamed, exists, expunge as expunge_line, fetch, found, overflow, answer, render, render_all, text, crlf}
use Rattle.model.specs.Queue.{room, fits, enqueue, unmark, shows_flags, effect, effects, say}
use Rattle.model.specs.View.{owed}
use Rattle.model.specs.Listing.{watching}
use Rattle.model.specs.Events.{silence}
use Rattle.model.specs.Lawful.{state_ok, lawful}
use Rattle.model.specs.Refusals.{wrong_id, name_held, absent, stale, wrong_uid, wrong_state, table_full}
use Rattle.model.specs.Answering.{some_selected, work_lines, accepted_lines, is_accepted, first_reply, within_queue, reply, answer_lines, with_asked, answered, no_room}
use Rattle.model.specs.Rules.{Outcome, rested, end_lines, raised, accepted}
use Rattle.model.specs.Call.{call, refuse, roomless}
use Rattle.model.specs.declared.Refusal.{Refusal}
use Rattle.model.specs.declared.Reply.{Reply}
use Rattle.model.specs.declared.Reply.TheVariants.{Bad, BadEvent, Unsupported, BadCharset, TooLarge, Accepted}
use Rattle.demands.specs.Lasting.Law.{Law, law_in, law_out, law-session, law-dequeue}
use Rattle.demands.specs.Lasting.Rows.{all_map, none-zero}
use Rattle.demands.specs.Lasting.Raised.{raised-known, raised_next, raised_reaches}
use Rattle.demands.specs.Lasting.Ranges.{InRange, in_range_lem}
use Rattle.demands.specs.Lasting.Watching.{watching-ok}
use Rattle.demands.specs.Lasting.Spoken.{law-drop-mails, law-change, rest_mild, law-say, fitting-fits, law-silence, law_told}
use Rattle.demands.specs.Lasting.Kinds.{created_law, deleted_law, renamed_law, subscribed_law, granted_law, raised_law, arrived_law, removed_law, reflagged_law}
use Rattle.demands.specs.Lasting.Unasked.{created_none, deleted_none, renamed_none, subscribed_none, granted_none, arrived_none, removed_none, reflagged_none}
use Rattle.demands.specs.Isolation.Alike.{mails_with, length-written}

-- ---- `SE`: nothing waits, and the view is all
selected_law : (m : Memory) → Law m → (i : ℕ) → (not (eqb i 0) && not (known i (boxes m))) ≡ false → Law (with_session (change_mails (drop_mails m expunged) rested) (with_view m.session i (the_mailbox i (boxes m)).uidnext))
selected_law m k i h = law-session (change_mails (drop_mails m expunged) rested) clean (with_view m.session i (the_mailbox i (boxes m)).uidnext) k.fill k.session (seen (eqb i 0) refl)
    (rw (mails_with (drop_mails m expunged) (map rested (mails (drop_mails m expunged)))) (all_map (state_ok m.session) (state_ok (with_view m.session i (the_mailbox i (boxes m)).uidnext)) rested (λ e o. refl) (mails (drop_mails m expunged)) less.states))
  where
    less : Law (drop_mails m expunged)
    less = law-drop-mails m k expunged

    clean : Law (change_mails (drop_mails m expunged) rested)
    clean = law-change (drop_mails m expunged) less rested (rest_mild (boxes m) m.session)

    seen : (b : Bool) → eqb i 0 ≡ b → cond (eqb i 0) (eqb (the_mailbox i (boxes m)).uidnext 0) (known i (boxes m) && leb (the_mailbox i (boxes m)).uidnext (the_mailbox i (boxes m)).uidnext) ≡ true
    seen true z = rw (z, eqb-true i 0 z, none-zero (boxes m) k.box)
    seen false z = rw (z, le-leb (the_mailbox i (boxes m)).uidnext (the_mailbox i (boxes m)).uidnext (omega arith), not-false (known i (boxes m)) (rw z at h))

-- ---- commands
-- an answer has octets
answered_some : (ls : List Line) (l : Line) → 2 ≤ length (render_all (ls ++ (l ∷ [])))
unfolding render_all render
answered_some [] l =
    let a = length-append (text l ++ crlf) [] in
    let b = length-append (text l) crlf in
    omega arith
answered_some (x ∷ ls) l =
    let a = length-append (text x ++ crlf) (render_all (ls ++ (l ∷ []))) in
    let b = answered_some ls l in
    omega arith

-- so that 64 octets are left after it
spare : (m : Memory) (ls : List Line) → 2 ≤ length (render_all ls) → fits m ls ≡ true → filled m + length (render_all ls) ≤ length m.queue - 64
spare m ls n h = let a = leb-true (length (render_all ls)) (room m) h in omega arith

-- what lines end touches neither F nor the queue
still : (m : Memory) (l : Line) → (filled (effect m l) ≡ filled m) × ((effect m l).queue ≡ m.queue)
still m (exists n) = (refl, refl)
still m (expunge_line n u) = (refl, refl)
still m (fetch n u is) = go (shows_flags is)
  where
    go : (b : Bool) → (filled (cond b (change_mails m (unmark m.session.selected u.0)) m) ≡ filled m) × ((cond b (change_mails m (unmark m.session.selected u.0)) m).queue ≡ m.queue)
    go true = (refl, refl)
    go false = (refl, refl)
still m (status n is) = (refl, refl)
still m (list k n) = (refl, refl)
still m (renamed k new old) = (refl, refl)
still m (found t n v rs) = (refl, refl)
still m overflow = (refl, refl)
still m (answer t v r) = (refl, refl)

still_all : (m : Memory) (ls : List Line) → (filled (effects m ls) ≡ filled m) × ((effects m ls).queue ≡ m.queue)
unfolding effects
still_all m [] = (refl, refl)
still_all m (l ∷ ls) = ((still_all (effect m l) ls).0 ∙ (still m l).0, (still_all (effect m l) ls).1 ∙ (still m l).1)

-- after an answer that fits, F is at most Q - 64
spared : (m : Memory) (ls : List Line) → 2 ≤ length (render_all ls) → fits m ls ≡ true → filled (say m ls) ≤ length (say m ls).queue - 64
spared m ls n h =
    let a = spare m ls n h in
    let b = still_all (enqueue m (render_all ls)) ls in
    let w = length-written m.queue (filled m) (render_all ls) in
    rw (b.0, b.1) (omega arith)

accepted-only : (r : Reply) → is_accepted r ≡ true → r ≡ Accepted
accepted-only Bad e = tf false e refl
accepted-only BadEvent e = tf false e refl
accepted-only Unsupported e = tf false e refl
accepted-only BadCharset e = tf false e refl
accepted-only TooLarge e = tf false e refl
accepted-only Accepted e = refl

-- an accepted answer was accepted before its size was looked at
first-accepted : (b : Bool) (r : Reply) → is_accepted (cond b TooLarge r) ≡ true → r ≡ Accepted
first-accepted true r e = tf false e refl
first-accepted false r e = accepted-only r e

-- the session that a command sets
asked_law : (m : Memory) → Law m → filled m ≤ length m.queue - 64 → (sel : Bool) (c : Parsed Command) → reply_of limits sel c ≡ Accepted → Law (with_asked m c)
asked_law m k f sel bad e = tf (is_accepted Bad) (ap is_accepted e) refl
asked_law m k f sel (ok p notify_none) e = law-silence m k
asked_law m k f sel (ok p (notify_set w gs)) e = law-session m k (watching m.session gs)
    (rw (le-leb (filled m) (length m.queue) (omega arith), le-leb (filled m) (length m.queue - 64) f) (or_true (eqb (length gs) 0)))
    (watching-ok m.session w sel p gs e) k.view k.states
asked_law m k f sel (ok p (search q)) e = k

reply_first : (m : Memory) (t : List ℕ) → is_accepted (reply m t) ≡ true → first_reply m t ≡ Accepted
reply_first m t e = first-accepted (is_accepted (first_reply m t) && not (within_queue m (accepted_lines m (tag_of t) (command_of t)))) (first_reply m t) e

-- an accepted command's answer ends with its tagged line
long_by : (m : Memory) (tag : List ℕ) (sel : Bool) (c : Parsed Command) → reply_of limits sel c ≡ Accepted → 2 ≤ length (render_all (accepted_lines m tag c))
long_by m tag sel bad e = tf (is_accepted Bad) (ap is_accepted e) refl
long_by m tag sel (ok p c) e = answered_some (work_lines m tag c) _

long : (m : Memory) (t : List ℕ) → is_accepted (reply m t) ≡ true → 2 ≤ length (render_all (answer_lines m t))
unfolding answer_lines
long m t e = rw e (long_by m (tag_of t) (some_selected m) (command_of t) (reply_first m t e))

answered_law : (m : Memory) → Law m → (t : List ℕ) → no_room m t ≡ false → Law (answered m t)
unfolding answered
answered_law m k t h = go (is_accepted (reply m t)) refl
  where
    room' : fits m (answer_lines m t) ≡ true
    room' = not-false (fits m (answer_lines m t)) h

    said : Law (say m (answer_lines m t))
    said = law-say m k (answer_lines m t) room'

    go : (b : Bool) → is_accepted (reply m t) ≡ b → Law (cond b (with_asked (say m (answer_lines m t)) (command_of t)) (say m (answer_lines m t)))
    go true e = asked_law (say m (answer_lines m t)) said (spared m (answer_lines m t) (long m t e) room') (some_selected m) (command_of t) (reply_first m t e)
    go false e = said

-- ---- every kind
kind_law : (m : Memory) → Law m → (r : Record) → InRange r → wrong_id m r ≡ false → name_held m r ≡ false → wrong_uid m r ≡ false → wrong_state m r ≡ false → table_full m r ≡ false → roomless m r ≡ false → Law (accepted m r).after
unfolding accepted
kind_law m k (create i a q v r n) o c d e f g h =
    law_told m k _ (created_law m k i a q v r n o.0 o.1 o.2 o.3 o.4 c d (leb-false _ _ g)) (created_law (silence m) (law-silence m k) i a q v r n o.0 o.1 o.2 o.3 o.4 c d (leb-false _ _ g)) (λ z. created_none m z i a q v r n)
kind_law m k (delete i q) o c d e f g h =
    law_told m k _ (deleted_law m k i q (not-false _ c) f) (deleted_law (silence m) (law-silence m k) i q (not-false _ c) f) (λ z. deleted_none m z i q)
kind_law m k (rename i q n) o c d e f g h =
    law_told m k _ (renamed_law m k i (not-false _ c) q n o d) (renamed_law (silence m) (law-silence m k) i (not-false _ c) q n o d) (λ z. renamed_none m z i q n)
kind_law m k (subscribe i b q) o c d e f g h =
    law_told m k _ (subscribed_law m k i (not-false _ c) b q o) (subscribed_law (silence m) (law-silence m k) i (not-false _ c) b q o) (λ z. subscribed_none m z i b q)
kind_law m k (grant i r) o c d e f g h =
    law_told m k _ (granted_law m k i (not-false _ c) r o) (granted_law (silence m) (law-silence m k) i (not-false _ c) r o) (λ z. granted_none m z i r)
kind_law m k (arrive i u b z n) o c d e f g h =
    let p = not-false (known i (boxes m)) c in
    let w = raised m i n in
    let l : Law (raised m i n) = raised_law m k i p n o.3 (or_r (ltb u (the_mailbox i (boxes m)).uidnext) (stale m i n) e) in
    let y = raised-known m i n p in
    let x : ltb u (the_mailbox i (boxes (raised m i n))).uidnext ≡ false = rw (raised_next m i n p) (or_l (ltb u (the_mailbox i (boxes m)).uidnext) (stale m i n) e) in
    let v = raised_reaches m i n p in
    law_told w l _ (arrived_law w l i y u b z n o.0 o.1 o.2 o.3 x v (leb-false _ _ g)) (arrived_law (silence w) (law-silence w l) i y u b z n o.0 o.1 o.2 o.3 x v (leb-false _ _ g)) (λ q. arrived_none w q i u b z n)
kind_law m k (expunge i u n) o c d e f g h =
    let w = raised m i n in
    let l : Law (raised m i n) = raised_law m k i (not-false (known i (boxes m)) c) n o (or_r (absent m i u) (stale m i n) e) in
    law_told w l _ (removed_law w l i u) (removed_law (silence w) (law-silence w l) i u) (λ z. removed_none w z i u)
kind_law m k (reflag i u b n) o c d e f g h =
    let p = not-false (known i (boxes m)) c in
    let w = raised m i n in
    let l : Law (raised m i n) = raised_law m k i p n o.1 (or_r (absent m i u) (stale m i n) e) in
    let v = raised_reaches m i n p in
    law_told w l _ (reflagged_law w l i u b n o.0 o.1 v) (reflagged_law (silence w) (law-silence w l) i u b n o.0 o.1 v) (λ z. reflagged_none w z i u b n)
kind_law m k (select i) o c d e f g h = selected_law m k i c
kind_law m k (ended n) o c d e f g h = law-say m k (end_lines m n) (le-leb (length (render_all (end_lines m n))) (room m) (fitting-fits (room m) (owed m n)))
kind_law m k (command t) o c d e f g h = answered_law m k t h
kind_law m k (drained n) o c d e f g h = law-dequeue m k n (ltb-false _ _ f)
kind_law m k record_of_none o c d e f g h = k

-- ---- a ladder of refusals
pub record Keeps (x : Outcome) : Type 0 where
  pub law : Law x.after

rung : (b : Bool) (x y : Outcome) → Keeps x → (b ≡ false → Keeps y) → Keeps (cond b x y)
rung true x y l r = l
rung false x y l r = r refl

call_law : (m : Memory) (o : List ℕ) → Law m → Keeps (call m o)
unfolding call
call_law m o k =
    rung (not (lawful m)) _ _ stays λ _.
    rung (not (is_record o)) _ _ stays λ r.
    rung (wrong_id m (record_of o)) _ _ stays λ c.
    rung (name_held m (record_of o)) _ _ stays λ d.
    rung (wrong_uid m (record_of o)) _ _ stays λ e.
    rung (wrong_state m (record_of o)) _ _ stays λ f.
    rung (table_full m (record_of o)) _ _ stays λ g.
    rung (roomless m (record_of o)) _ _ stays λ h.
    record { law = kind_law m k (record_of o) (in_range_lem o (not-false (is_record o) r)) c d e f g h }
  where
    stays : {r : Refusal} → Keeps (refuse m r)
    stays = record { law = k }

unlawful : (m : Memory) (o : List ℕ) → lawful m ≡ false → (call m o).after ≡ m
unfolding call
unlawful m o e = rw e

-- from lawful memory every call leaves lawful memory; from other memory it leaves that memory
pub keeps : (m : Memory) (o : List ℕ) → lawful (call m o).after ≡ lawful m
keeps m o = go (lawful m) refl
  where
    go : (v : Bool) → lawful m ≡ v → lawful (call m o).after ≡ lawful m
    go true e = law_in (call m o).after (call_law m o (law_out m e)).law ∙ sym e
    go false e = ap lawful (unlawful m o e)
