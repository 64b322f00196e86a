-- One taken call: a change of flags. Assumes nothing.
use Rattle.std.specs.Prelude.{◌≡◌, Bool, cond, ◌&&◌, ◌||◌, ℕ, suc, eqb, ltb, length}
use Rattle.std.proofs.Math.Path.{refl, sym, ap, subst}
use Rattle.std.proofs.Common.{◌∙◌, eqb-true}
use mathlib.Core.List.{List, [], ◌∷◌, map}
use Rattle.std.proofs.Math.Bool.{true, false, not}
use Rattle.model.specs.Laws.{or_true}
use Rattle.model.specs.Records.{Record, reflag}
use Rattle.model.specs.Memory.{Memory, boxes, mails, the_mailbox, with_counter, is_selected, is_message, with_states, with_flags, change_mails}
use Rattle.model.specs.Groups.{asks_flags}
use Rattle.model.specs.Lines.{Line, overflow, render_all}
use Rattle.model.specs.Queue.{enqueue, effects, say}
use Rattle.model.specs.View.{view, place_of, flags_line, flags_at_once, flags_wait}
use Rattle.model.specs.Events.{Event, message, reflag as reflag_one, mark, reflagged, changes_of, silence}
use Rattle.model.specs.Rules.{rested, event_outcome}
use Rattle.model.specs.Refusals.{absent}
use Rattle.demands.specs.Lasting.Law.{Law}
use Rattle.demands.specs.Isolation.Alike.{mails_with}
use Rattle.model.specs.declared.Mailbox.{Mailbox}
use Rattle.model.specs.declared.Message.{Message}
use Rattle.model.specs.Fates.{arrival, marking, Why, not_announced, reported, waits}
use Rattle.model.specs.Seen.{apparent}
use Rattle.model.specs.Due.{Account, waiting, nothing, at_once, later, message_due, status_due, arrivals, viewed, due}
use Rattle.model.specs.Account.{overflowed, owed_now}
use Rattle.demands.specs.Ledger.Each.{none, also, map_swap, map_over}
use Rattle.demands.specs.Ledger.Entries.{present, state_of, state-map, state_put, present-map}
use Rattle.demands.specs.Ledger.Books.{same_place, Books}
use Rattle.demands.specs.Ledger.Effects.{Below, Ended, ended_all, is-other}
use Rattle.demands.specs.Ledger.Steps.{plainly, page, turned, Step, told-step_by}
use Rattle.demands.specs.Ledger.Plain.{said_books, plain_over, Elsewhere, elsewhere_books, plain_by}
use Rattle.demands.specs.Ledger.Reach.{below}
use Rattle.demands.specs.Ledger.Messages.{hush-flags, message_none, status_by_lem, is-selected, message-once, turn-from, unremoved, there, seen_by}

-- ---- new flags
-- new flags change neither states nor places
module _ (i u f c : ℕ) where
  flags-keep : (s v : ℕ) (e : Message) (t : Bool) → is_message s v (cond t (with_flags e f c) e) ≡ is_message s v e
  flags-keep s v e true = refl
  flags-keep s v e false = refl

  flags_states : (e : Message) (t : Bool) → (cond t (with_flags e f c) e).states ≡ e.states
  flags_states e true = refl
  flags_states e false = refl

  flags-rested : (e : Message) (t : Bool) → cond t (with_flags (rested e) f c) (rested e) ≡ rested (cond t (with_flags e f c) e)
  flags-rested e true = refl
  flags-rested e false = refl

  pub flags-elsewhere : (m n : Memory) → mails n ≡ map (reflag_one i u f c) (mails m) → n.session.selected ≡ m.session.selected → n.session.told ≡ m.session.told → Elsewhere m n
  flags-elsewhere m n e s t = record {
    selected = s;
    told = t;
    states = λ v. rw e (state-map m.session.selected v (reflag_one i u f c) (λ d. flags-keep m.session.selected v d (is_message i u d)) (λ d _. flags_states d (is_message i u d)) (mails m));
    presents = λ v. rw e (present-map m.session.selected v (reflag_one i u f c) (λ d. flags-keep m.session.selected v d (is_message i u d)) (mails m));
  }

  pub flags-kept : (l : List Message) → map (reflag_one i u f c) (map rested l) ≡ map rested (map (reflag_one i u f c) l)
  flags-kept l = map_swap (reflag_one i u f c) rested rested (reflag_one i u f c) (λ e. flags-rested e (is_message i u e)) l

module _ (m : Memory) (k : Law m) (a : Account) (b : Books m a) where
  module _ (u f c : ℕ) where
    abbrev s : ℕ
    s = m.session.selected

    abbrev r : Record
    r = reflag m.session.selected u f c

    abbrev event : Memory → Event
    event x = reflagged x m.session.selected u f c

    -- not told: not announced, or dropped
    flags_untold : (y : Why) → due (apparent m) a r ≡ message_due (apparent m) asks_flags (nothing y) → due (silence (apparent m)) a r ≡ message_due (silence (apparent m)) asks_flags (nothing y)
        → (event m ≡ record { stored = change_mails m (reflag_one s u f c); lines = [] }) → (event (silence m) ≡ record { stored = change_mails (silence m) (reflag_one s u f c); lines = [] })
        → Step m a r (event_outcome m event)
    unfolding owed_now
    flags_untold y p q e g =
        let z = mails_with m (map (reflag_one s u f c) (mails m)) in
        let z' = mails_with (silence m) (map (reflag_one s u f c) (mails m)) in
        plain_by m a b r event (message_due (apparent m) asks_flags (nothing y)) (message_due (silence (apparent m)) asks_flags (nothing y)) p q
        (ap (λ (x : Event). x.lines) e ∙ sym (message-once (apparent m) asks_flags y)) (message_none (apparent m) asks_flags y) (message_none (silence (apparent m)) asks_flags y) (λ ls. refl)
        (λ d. refl)
        (subst (λ (x : Event). Elsewhere m x.stored) (sym e) (flags-elsewhere s u f c m (change_mails m (reflag_one s u f c)) z refl refl))
        (subst (λ (x : Event). Elsewhere m x.stored) (sym g) (flags-elsewhere s u f c m (change_mails (silence m) (reflag_one s u f c)) z' refl refl))
        (λ t ls _. ap (map (reflag_one s u f c)) b.kept ∙ (flags-kept s u f c (mails m) ∙ ap (map rested) (sym (ap (λ (x : Event). mails x.stored) e ∙ z))))
        (λ t ls _. ap (map (reflag_one s u f c)) b.kept ∙ (flags-kept s u f c (mails m) ∙ ap (map rested) (sym (ap (λ (x : Event). mails x.stored) g ∙ z'))))

    untold_at : (n : Memory) → mails n ≡ map (reflag_one s u f c) (mails m) → n.session.selected ≡ m.session.selected → n.session.told ≡ m.session.told → (y : Why)
        → Books n (page (apparent m) a r (overflow ∷ []) (overflowed (message_due (silence (apparent m)) asks_flags (nothing y))))
    untold_at n z i j y = elsewhere_books m n a b r (overflow ∷ []) (overflowed (message_due (silence (apparent m)) asks_flags (nothing y))) (flags-elsewhere s u f c m n z i j)
        (ap (map (reflag_one s u f c)) b.kept ∙ (flags-kept s u f c (mails m) ∙ ap (map rested) (sym z))) (also refl none) (λ d. refl)
        (plain_over (message_due (silence (apparent m)) asks_flags (nothing y)) (message_none (silence (apparent m)) asks_flags y))

    -- told at once
    flags_told : (y : Why) → eqb (state_of s u (mails m)) 1 ≡ false → due (apparent m) a r ≡ at_once (flags_line (place_of u (viewed (apparent m) a)).0 (message s u f 0 c) ∷ [])
        → due (silence (apparent m)) a r ≡ message_due (silence (apparent m)) asks_flags (nothing y)
        → (event m ≡ record { stored = change_mails m (reflag_one s u f c); lines = flags_line (place_of u (view m)).0 (message s u f 0 c) ∷ [] })
        → (event (silence m) ≡ record { stored = change_mails (silence m) (reflag_one s u f c); lines = [] }) → Step m a r (event_outcome m event)
    unfolding owed_now
    flags_told y x p q e g =
        told-step_by m a r event (at_once ds) (message_due (silence (apparent m)) asks_flags (nothing y)) p q
        (ap (λ (x : Event). x.lines) e ∙ ap (λ (j : _). flags_line j.0 (message s u f 0 c) ∷ []) (sym (same_place m k a b u))) (also (refl, refl) none) (λ ls. refl)
        (subst (λ (x : Event). Books (say x.stored ds) (page (apparent m) a r ds (reported (suc (length a.fates))))) (sym e) spoken)
        (subst (λ (x : Event). Books x.stored (page (apparent m) a r (overflow ∷ []) (overflowed (message_due (silence (apparent m)) asks_flags (nothing y))))) (sym g)
        (untold_at (change_mails (silence m) (reflag_one s u f c)) (mails_with (silence m) (map (reflag_one s u f c) (mails m))) refl refl y))
      where
        ds : List Line
        ds = flags_line (place_of u (viewed (apparent m) a)).0 (message s u f 0 c) ∷ []

        n : Memory
        n = enqueue (change_mails m (reflag_one s u f c)) (render_all (flags_line (place_of u (viewed (apparent m) a)).0 (message s u f 0 c) ∷ []))

        z : mails n ≡ map (reflag_one s u f c) (mails m)
        z = mails_with m (map (reflag_one s u f c) (mails m))

        moved : Elsewhere m n
        moved = flags-elsewhere s u f c m n z refl refl

        bl : Below n
        bl = record { reach = λ v h. (below m k).reach v (sym (moved.presents v) ∙ h); wide = (below m k).wide }

        end : Ended n (effects n ds) ds
        end = ended_all n bl ds (also (ap (λ (j : ℕ). eqb j 1) (moved.states u) ∙ x) none)

        spoken : Books (effects n ds) (page (apparent m) a r ds (reported (suc (length a.fates))))
        spoken = turned m (effects n ds) (apparent m) a b r ds (reported (suc (length a.fates)))
            (ap (map (reflag_one s u f c)) b.kept ∙ (flags-kept s u f c (mails m) ∙ (ap (map rested) (sym z) ∙ sym (unremoved n (effects n ds) ds (λ v. refl) end))))
            (turn-from m n (effects n ds) (apparent m) r ds (reported (suc (length a.fates))) moved end (λ d. refl) (λ d. refl))

    -- it waits as a mark
    mark-keep : (v w : ℕ) (e : Message) (c : Bool) → is_message v w (cond c (with_states e 2) e) ≡ is_message v w e
    mark-keep v w e true = refl
    mark-keep v w e false = refl

    mark-rested : (e : Message) (c : Bool) → rested (cond c (with_states e 2) e) ≡ rested e
    mark-rested e true = refl
    mark-rested e false = refl

    flags-waiting : (y : Why) → present s u (mails m) ≡ true → eqb (state_of s u (mails m)) 1 ≡ false → due (apparent m) a r ≡ later (marking u)
        → due (silence (apparent m)) a r ≡ message_due (silence (apparent m)) asks_flags (nothing y)
        → (event m ≡ record { stored = change_mails (change_mails m (reflag_one s u f c)) (mark s u); lines = [] })
        → (event (silence m) ≡ record { stored = change_mails (silence m) (reflag_one s u f c); lines = [] }) → Step m a r (event_outcome m event)
    unfolding owed_now
    flags-waiting y here x p q e g =
        told-step_by m a r event (later (marking u)) (message_due (silence (apparent m)) asks_flags (nothing y)) p q (ap (λ (x : Event). x.lines) e) tt (λ ls. refl)
        (subst (λ (x : Event). Books (say x.stored []) (page (apparent m) a r [] (waits (marking u)))) (sym e) (said_books n (page (apparent m) a r [] (waits (marking u))) [] none
        (turned m n (apparent m) a b r [] (waits (marking u))
        (ap (map (reflag_one s u f c)) b.kept
        ∙ (flags-kept s u f c (mails m) ∙ (sym (map_over rested (mark s u) rested (λ e. mark-rested e (is_message s u e)) (map (reflag_one s u f c) (mails m))) ∙ ap (map rested) (sym z))))
        (record {
          removals = λ v. rw z (gone v (eqb v u) refl);
          markings = λ v. rw z (marks v (eqb v u) refl);
          arrivals = λ v. rw (z, present-map s v (mark s u) (λ e. mark-keep s v e (is_message s u e)) (map (reflag_one s u f c) (mails m)), presents v)
              (plainly (present s v (mails m) && not (ltb v m.session.told)));
        }))))
        (subst (λ (x : Event). Books x.stored (page (apparent m) a r (overflow ∷ []) (overflowed (message_due (silence (apparent m)) asks_flags (nothing y))))) (sym g)
        (untold_at (change_mails (silence m) (reflag_one s u f c)) (mails_with (silence m) (map (reflag_one s u f c) (mails m))) refl refl y))
      where
        n : Memory
        n = change_mails (change_mails m (reflag_one m.session.selected u f c)) (mark m.session.selected u)

        z : mails n ≡ map (mark s u) (map (reflag_one s u f c) (mails m))
        z = mails_with (change_mails m (reflag_one s u f c)) (map (mark s u) (mails (change_mails m (reflag_one s u f c)))) ∙ ap (map (mark s u)) (mails_with m (map (reflag_one s u f c) (mails m)))

        presents : (v : ℕ) → present s v (map (reflag_one s u f c) (mails m)) ≡ present s v (mails m)
        presents v = present-map s v (reflag_one s u f c) (λ d. flags-keep s u f c s v d (is_message s u d)) (mails m)

        states : (v : ℕ) → state_of s v (map (reflag_one s u f c) (mails m)) ≡ state_of s v (mails m)
        states v = state-map s v (reflag_one s u f c) (λ d. flags-keep s u f c s v d (is_message s u d)) (λ d _. flags_states s u f c d (is_message s u d)) (mails m)

        put : (v : ℕ) → eqb v u ≡ true → state_of s v (map (mark s u) (map (reflag_one s u f c) (mails m))) ≡ 2
        put v h = state_put s v 2 (mark s u) (λ e. mark-keep s v e (is_message s u e)) (λ e g. rw (sym (eqb-true v u h), g)) (map (reflag_one s u f c) (mails m)) ∙ rw (presents v, eqb-true v u h, here)

        left : (v : ℕ) → eqb v u ≡ false → state_of s v (map (mark s u) (map (reflag_one s u f c) (mails m))) ≡ state_of s v (mails m)
        left v h = state-map s v (mark s u) (λ e. mark-keep s v e (is_message s u e)) (λ e g. rw (is-other s v u h e g)) (map (reflag_one s u f c) (mails m)) ∙ states v

        gone : (v : ℕ) (t : Bool) → eqb v u ≡ t → ((eqb (state_of s v (mails m)) 1 && true) || false) ≡ eqb (state_of s v (map (mark s u) (map (reflag_one s u f c) (mails m)))) 1
        gone v true h = rw (put v h, eqb-true v u h, x)
        gone v false h = rw (left v h) (plainly (eqb (state_of s v (mails m)) 1))

        marks : (v : ℕ) (t : Bool) → eqb v u ≡ t → ((eqb (state_of s v (mails m)) 2 && true) || t) ≡ eqb (state_of s v (map (mark s u) (map (reflag_one s u f c) (mails m)))) 2
        marks v true h = rw (put v h) (or_true (eqb (state_of s v (mails m)) 2 && true))
        marks v false h = rw (left v h) (plainly (eqb (state_of s v (mails m)) 2))

    flags-selected : is_selected m s ≡ true → absent m s u ≡ false → Step m a r (event_outcome m event)
    unfolding due
    flags-selected h n = go (ltb u m.session.told) refl (flags_at_once m) refl (flags_wait m) refl
      where
        t : (present s u (mails m) ≡ true) × (eqb (state_of s u (mails m)) 1 ≡ false)
        t = there m k a b u n

        go : (c : Bool) → ltb u m.session.told ≡ c → (d : Bool) → flags_at_once m ≡ d → (e : Bool) → flags_wait m ≡ e → Step m a r (event_outcome m event)
        go false x d y e z =
            let v : waiting a.fates (arrival u) ≡ true = seen_by m k a b u t.0 ∙ rw x in
            flags_untold not_announced (rw (h, v)) (rw (h, v)) (rw (h, x)) (rw (h, x))
        go true x true y e z =
            let v : waiting a.fates (arrival u) ≡ false = seen_by m k a b u t.0 ∙ rw x in
            flags_told not_announced t.1 (rw (h, v, y)) (rw (h, v, hush-flags m)) (rw (h, x, y)) (rw (h, x, hush-flags m))
        go true x false y true z =
            let v : waiting a.fates (arrival u) ≡ false = seen_by m k a b u t.0 ∙ rw x in
            flags-waiting not_announced t.0 t.1 (rw (h, v, y, z)) (rw (h, v, hush-flags m)) (rw (h, x, y, z)) (rw (h, x, hush-flags m))
        go true x false y false z =
            let v : waiting a.fates (arrival u) ≡ false = seen_by m k a b u t.0 ∙ rw x in
            flags_untold not_announced (rw (h, v, y, z)) (rw (h, v, hush-flags m)) (rw (h, x, y, z)) (rw (h, x, hush-flags m))

  -- the row has the record's counter already
  pub reflagged-step : (i u f c : ℕ) → absent m i u ≡ false → with_counter (the_mailbox i (boxes m)) c ≡ the_mailbox i (boxes m)
      → Step m a (reflag i u f c) (event_outcome m (λ (x : Memory). reflagged x i u f c))
  unfolding due owed_now
  reflagged-step i u f c n has = go (is_selected m i) refl
    where
      go : (d : Bool) → is_selected m i ≡ d → Step m a (reflag i u f c) (event_outcome m (λ (x : Memory). reflagged x i u f c))
      go true h =
          let p = is-selected m k i h in
          subst (λ (j : ℕ). Step m a (reflag j u f c) (event_outcome m (λ (x : Memory). reflagged x j u f c))) (sym p) (flags-selected u f c (rw p at h) (rw p at n))
      go false h =
          let x = the_mailbox i (boxes m) in
          let z = mails_with m (map (reflag_one i u f c) (mails m)) in
          let z' = mails_with (silence m) (map (reflag_one i u f c) (mails m)) in
          status_by_lem m a b (reflag i u f c) (λ (x : Memory). reflagged x i u f c) x asks_flags (changes_of x)
          (rw h (ap (λ (y : Mailbox). status_due (apparent m) y asks_flags (changes_of y)) has))
          (rw h (ap (λ (y : Mailbox). status_due (silence (apparent m)) y asks_flags (changes_of y)) has)) (rw h) refl (λ ls. refl) (λ d. refl)
          (rw h (flags-elsewhere i u f c m (change_mails m (reflag_one i u f c)) z refl refl)) (rw h (flags-elsewhere i u f c m (change_mails (silence m) (reflag_one i u f c)) z' refl refl))
          (λ t ls _. rw h (ap (map (reflag_one i u f c)) b.kept ∙ (flags-kept i u f c (mails m) ∙ ap (map rested) (sym z))))
          (λ t ls _. rw h (ap (map (reflag_one i u f c)) b.kept ∙ (flags-kept i u f c (mails m) ∙ ap (map rested) (sym z'))))
