-- A record about an id that stays, on alike memories: its refusals, and what it does once accepted. Assumes nothing.
use Rattle.std.specs.Prelude.{◌≡◌, refl, Bool, false, not, ◌&&◌, ◌||◌, ℕ, ◌-◌, ◌≤◌, eqb, leb, ltb}
use Rattle.std.proofs.Common.{◌∙◌, ap, arith, leb-false, ltb-false}
use Rattle.std.proofs.lemmas.Bool.{lt-leb}
use Rattle.std.proofs.Math.ListN.{length}
use Rattle.model.specs.Lists.{anyb, same}
use Rattle.model.specs.Laws.{any_fewer, filter-length}
use Rattle.model.specs.Names.{Name}
use Rattle.model.specs.Records.{Record, create, delete, rename, subscribe, grant, arrive, expunge, reflag, select, ended, command, drained, record_of_none}
use Rattle.model.specs.Memory.{Memory, boxes, mails, filled, name_of, counter_of, expunged, with_view, drop_mails, change_mails}
use Rattle.model.specs.Queue.{fits, fitting}
use Rattle.model.specs.Events.{Event, silence}
use Rattle.model.specs.Refusals.{wrong_id, held_by_another, name_held, absent, stale, wrong_uid, unfit, wrong_state, table_full}
use Rattle.model.specs.Answering.{answer_lines}
use Rattle.model.specs.Rules.{event_outcome, rested, end_lines, raised, accepted}
use Rattle.model.specs.Call.{roomless}
use Rattle.model.specs.declared.Mailbox.{Mailbox}
use Rattle.model.specs.declared.Message.{Message}
use Rattle.model.specs.declared.Answer.TheVariants.{Counted}
use Rattle.demands.specs.Isolation.Erase.{any_off, stays_box, stays_mail}
use Rattle.demands.specs.Isolation.Alike.{Alike, same_known, same_box, alike-session, alike-drop-mails, alike-change, alike-dequeue}
use Rattle.demands.specs.Isolation.Spoken.{same_id, same-room, same-owed, same-fits, alike-say}
use Rattle.demands.specs.Isolation.Left.{AlikeEvent, AlikeOutcome, alike-silence, told_left, created_left, deleted_left, renamed_left, subscribed_left, granted_left, raised_left, arrived_left, removed_left, reflagged_left}
use Rattle.demands.specs.Isolation.Asked.{Dark, same_answer, alike-answered}

-- the id that a record is about; 0 where it is about none
abbrev pub subject : Record → ℕ
subject (create i a q v c n) = i
subject (delete i q) = i
subject (rename i q n) = i
subject (subscribe i s q) = i
subject (grant i r) = i
subject (arrive i u f z c) = i
subject (expunge i u c) = i
subject (reflag i u f c) = i
subject (select i) = i
subject (ended c) = 0
subject (command t) = 0
subject (drained n) = 0
subject record_of_none = 0

module _ (H : ℕ → Bool) (h0 : H 0 ≡ false) (s t : Memory) (a : Alike H s t) where
  -- ---- refusals 3, 5, 6 and 8 are given alike
  pub same_3 : (r : Record) → H (subject r) ≡ false → wrong_id t r ≡ wrong_id s r
  same_3 (create i at q v c n) h = same_known H s t a i h
  same_3 (delete i q) h = ap not (same_known H s t a i h)
  same_3 (rename i q n) h = ap not (same_known H s t a i h)
  same_3 (subscribe i b q) h = ap not (same_known H s t a i h)
  same_3 (grant i r) h = ap not (same_known H s t a i h)
  same_3 (arrive i u f z c) h = ap not (same_known H s t a i h)
  same_3 (expunge i u c) h = ap not (same_known H s t a i h)
  same_3 (reflag i u f c) h = ap not (same_known H s t a i h)
  same_3 (select i) h = ap (λ (b : Bool). not (eqb i 0) && not b) (same_known H s t a i h)
  same_3 (ended c) h = refl
  same_3 (command x) h = refl
  same_3 (drained n) h = refl
  same_3 record_of_none h = refl

  same-absent : (i u : ℕ) → H i ≡ false → absent t i u ≡ absent s i u
  same-absent i u h = ap not (ap (anyb (λ (e : Message). _)) a.mail ∙ any_off H i h u (λ (e : Message). not (expunged e)) (mails s))

  -- the message is not there, or the counter is not above its mailbox's
  same-lost : (i u c : ℕ) → H i ≡ false → (absent t i u || stale t i c) ≡ (absent s i u || stale s i c)
  same-lost i u c h = λ j. same-absent i u h j || leb c (counter_of (same_box H s t a i h j))

  pub same_5 : (r : Record) → H (subject r) ≡ false → wrong_uid t r ≡ wrong_uid s r
  same_5 (create i at q v c n) h = refl
  same_5 (delete i q) h = refl
  same_5 (rename i q n) h = refl
  same_5 (subscribe i b q) h = refl
  same_5 (grant i r) h = refl
  same_5 (arrive i u f z c) h = ap (λ (x : Mailbox). ltb u x.uidnext || leb c (counter_of x)) (same_box H s t a i h)
  same_5 (expunge i u c) h = same-lost i u c h
  same_5 (reflag i u f c) h = same-lost i u c h
  same_5 (select i) h = refl
  same_5 (ended c) h = refl
  same_5 (command x) h = refl
  same_5 (drained n) h = refl
  same_5 record_of_none h = refl

  pub same_6 : (r : Record) → H (subject r) ≡ false → wrong_state t r ≡ wrong_state s r
  same_6 (create i at q v c n) h = refl
  same_6 (delete i q) h = ap (λ (k : ℕ). not (eqb i 0) && eqb i k) (same_id H s t a)
  same_6 (rename i q n) h = refl
  same_6 (subscribe i b q) h = refl
  same_6 (grant i r) h = refl
  same_6 (arrive i u f z c) h = refl
  same_6 (expunge i u c) h = refl
  same_6 (reflag i u f c) h = refl
  same_6 (select i) h = ap (λ (x : Mailbox). not (eqb i 0) && unfit x) (same_box H s t a i h)
  same_6 (ended c) h = refl
  same_6 (command x) h = refl
  same_6 (drained n) h = ap (λ (f : ℕ). ltb f n) a.fill
  same_6 record_of_none h = refl

  pub same_8 : Dark H s → (r : Record) → roomless t r ≡ roomless s r
  same_8 d (create i at q v c n) = refl
  same_8 d (delete i q) = refl
  same_8 d (rename i q n) = refl
  same_8 d (subscribe i b q) = refl
  same_8 d (grant i r) = refl
  same_8 d (arrive i u f z c) = refl
  same_8 d (expunge i u c) = refl
  same_8 d (reflag i u f c) = refl
  same_8 d (select i) = refl
  same_8 d (ended c) = refl
  same_8 d (command x) = ap not (ap (fits t) (same_answer H s t a d x) ∙ same-fits H s t a (answer_lines s x))
  same_8 d (drained n) = refl
  same_8 d record_of_none = refl

  -- ---- 4 and 7 are not given where they were not
  fewer_names : (i : ℕ) (n : Name) → held_by_another s i n ≡ false → held_by_another t i n ≡ false
  fewer_names i n h = rw a.box (any_fewer (λ (x : Mailbox). same (name_of x) n && not (eqb x.id i)) (stays_box H) (boxes s) h)

  pub less_4 : (r : Record) → name_held s r ≡ false → name_held t r ≡ false
  less_4 (create i at q v c n) h = fewer_names i n h
  less_4 (delete i q) h = refl
  less_4 (rename i q n) h = fewer_names i n h
  less_4 (subscribe i b q) h = refl
  less_4 (grant i r) h = refl
  less_4 (arrive i u f z c) h = refl
  less_4 (expunge i u c) h = refl
  less_4 (reflag i u f c) h = refl
  less_4 (select i) h = refl
  less_4 (ended c) h = refl
  less_4 (command x) h = refl
  less_4 (drained n) h = refl
  less_4 record_of_none h = refl

  less : (l k l' k' : ℕ) → l' ≡ l → k' ≤ k → leb l k ≡ false → leb l' k' ≡ false
  less l k l' k' e f h = let z = leb-false l k h in lt-leb l' k' (omega arith)

  pub less_7 : (r : Record) → table_full s r ≡ false → table_full t r ≡ false
  less_7 (create i at q v c n) h = less (length s.rows) (length (boxes s)) (length t.rows) (length (boxes t)) a.rows (rw a.box (filter-length (stays_box H) (boxes s))) h
  less_7 (delete i q) h = refl
  less_7 (rename i q n) h = refl
  less_7 (subscribe i b q) h = refl
  less_7 (grant i r) h = refl
  less_7 (arrive i u f z c) h = less (length s.entries) (length (mails s)) (length t.entries) (length (mails t)) a.entries (rw a.mail (filter-length (stays_mail H) (mails s))) h
  less_7 (expunge i u c) h = refl
  less_7 (reflag i u f c) h = refl
  less_7 (select i) h = refl
  less_7 (ended c) h = refl
  less_7 (command x) h = refl
  less_7 (drained n) h = refl
  less_7 record_of_none h = refl

  -- ---- accepted
  hushed : Alike H (silence s) (silence t)
  hushed = alike-silence H h0 s t a

  -- an event of a message, once its mailbox has the counter
  told-raised : (i : ℕ) → H i ≡ false → (c : ℕ) (event : Memory → Event) → (Alike H (raised s i c) (raised t i c) → AlikeEvent H (event (raised s i c)) (event (raised t i c)))
      → (Alike H (silence (raised s i c)) (silence (raised t i c)) → AlikeEvent H (event (silence (raised s i c))) (event (silence (raised t i c)))) → AlikeOutcome H (event_outcome (raised s i c) event) (event_outcome (raised t i c) event)
  told-raised i h c event now quiet =
      let k = raised_left H h0 s t a i h c in
      told_left H h0 (raised s i c) (raised t i c) k event (now k) (quiet (alike-silence H h0 (raised s i c) (raised t i c) k))

  pub accepted_left : Dark H s → filled s ≤ length s.queue → (r : Record) → H (subject r) ≡ false → wrong_state s r ≡ false → table_full s r ≡ false → AlikeOutcome H (accepted s r) (accepted t r)
  unfolding accepted
  accepted_left d f (create i at q v c n) h w full = told_left H h0 s t a _ (created_left H h0 s t a i h at q v c n d (leb-false _ _ full)) (created_left H h0 (silence s) (silence t) hushed i h at q v c n d (leb-false _ _ full))
  accepted_left d f (delete i q) h w full = told_left H h0 s t a _ (deleted_left H h0 s t a i h q d) (deleted_left H h0 (silence s) (silence t) hushed i h q d)
  accepted_left d f (rename i q n) h w full = told_left H h0 s t a _ (renamed_left H h0 s t a i h q n) (renamed_left H h0 (silence s) (silence t) hushed i h q n)
  accepted_left d f (subscribe i b q) h w full = told_left H h0 s t a _ (subscribed_left H h0 s t a i h b q) (subscribed_left H h0 (silence s) (silence t) hushed i h b q)
  accepted_left d f (grant i r) h w full = told_left H h0 s t a _ (granted_left H h0 s t a i h r d) (granted_left H h0 (silence s) (silence t) hushed i h r d)
  accepted_left d f (arrive i u g z c) h w full = told-raised i h c _ (λ k. arrived_left H h0 (raised s i c) (raised t i c) k i h u g z c (leb-false _ _ full)) (λ k. arrived_left H h0 (silence (raised s i c)) (silence (raised t i c)) k i h u g z c (leb-false _ _ full))
  accepted_left d f (expunge i u c) h w full = told-raised i h c _ (λ k. removed_left H h0 (raised s i c) (raised t i c) k i h u) (λ k. removed_left H h0 (silence (raised s i c)) (silence (raised t i c)) k i h u)
  accepted_left d f (reflag i u g c) h w full = told-raised i h c _ (λ k. reflagged_left H h0 (raised s i c) (raised t i c) k i h u g c) (λ k. reflagged_left H h0 (silence (raised s i c)) (silence (raised t i c)) k i h u g c)
  accepted_left d f (select i) h w full = record {
    answer = refl;
    after = alike-session H (change_mails (drop_mails s expunged) rested) (change_mails (drop_mails t expunged) rested)
        (alike-change H (drop_mails s expunged) (drop_mails t expunged) (alike-drop-mails H s t a expunged) rested (λ e. refl))
        _ _ (λ j. with_view (a.session j) i (same_box H s t a i h j).uidnext) h;
  }
  accepted_left d f (ended c) h w full =
      let e : end_lines t c ≡ end_lines s c = λ j. fitting (same-room H s t a j) (same-owed H s t a c j) in
      record {
        answer = λ j. Counted (length (same-owed H s t a c j) - length (e j));
        after = rw e (alike-say H s t a (end_lines s c));
      }
  accepted_left d f (command x) h w full = record { answer = refl; after = alike-answered H s t a d x }
  accepted_left d f (drained n) h w full = record { answer = refl; after = alike-dequeue H s t a n f (ltb-false _ _ w) }
  accepted_left d f record_of_none h w full = record { answer = refl; after = a }
