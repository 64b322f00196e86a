-- One taken call: an expunge. Assumes nothing.
use Rattle.std.specs.Prelude.{◌≡◌, Bool, true, cond, ◌&&◌, ◌||◌, eqb, ltb, length}
use Rattle.std.proofs.Math.Path.{refl, sym, ap}
use Rattle.std.proofs.Common.{◌∙◌, subst, eqb-true, eq-eqb}
use mathlib.Core.List.{List, [], ◌∷◌, map}
use Rattle.std.proofs.Math.Bool.{false, not}
use Prim.Native.Nat.{ℕ, suc}
use Rattle.std.proofs.lemmas.List.{length-map}
use Rattle.model.specs.Lists.{filterb, anyb}
use Rattle.model.specs.Laws.{or_true, filter_map, and_false}
use Rattle.model.specs.Records.{Record, expunge}
use Rattle.model.specs.Memory.{Memory, boxes, mails, known, the_mailbox, counter_of, with_counter, is_selected, is_message, messages_of, existing, with_states, drop_mails, change_mails}
use Rattle.model.specs.Groups.{asked_of, asks_expunge}
use Rattle.model.specs.Lines.{Line, mail_items, expunge as expunge_line, overflow, render_all}
use Rattle.model.specs.Queue.{enqueue, effects, say}
use Rattle.model.specs.View.{view, place_of, expunge_at_once}
use Rattle.model.specs.Events.{Event, status_lines, expire, removed, silence}
use Rattle.model.specs.Rules.{rested, event_outcome}
use Rattle.model.specs.Refusals.{absent}
use Rattle.demands.specs.Lasting.Law.{Law}
use Rattle.demands.specs.Isolation.Erase.{box_id}
use Rattle.demands.specs.Isolation.Alike.{mails_with}
use Rattle.model.specs.declared.Mailbox.{Mailbox}
use Rattle.model.specs.declared.Message.{Message}
use Rattle.model.specs.Fates.{arrival, removal, marking, Why, not_announced, Fate, reported, waits, is_exists, is_removal, is_marking}
use Rattle.model.specs.Seen.{apparent}
use Rattle.model.specs.Due.{Account, waiting, nothing, at_once, later, message_due, status_due, counts_due, arrivals, viewed, due}
use Rattle.model.specs.Account.{overflowed, owed_now}
use Rattle.demands.specs.Ledger.Each.{none, also, all-kept, map_over}
use Rattle.demands.specs.Ledger.Entries.{present, state_of, state-kept, state-gone, state-map, state_put, present-kept, present-gone, present-map}
use Rattle.demands.specs.Ledger.Books.{same_place, Books}
use Rattle.demands.specs.Ledger.Effects.{flip, is-other}
use Rattle.demands.specs.Ledger.Steps.{plainly, page, turned, Unending, Unwaiting, Step, once, fate_now, told-step_by}
use Rattle.demands.specs.Ledger.Plain.{Inert, inert_removal, inert_marking, inert-exists, said_books, plain_fair, plain_inert, plain_now, plain_over, drop-elsewhere}
use Rattle.demands.specs.Ledger.Reach.{not_selected, not_of}
use Rattle.demands.specs.Ledger.Messages.{hush-expunge, message_none, still_none, status_by_lem, messages-rested, existing_all, rest_of, is-selected, message-once, there, seen_by}

module _ (m : Memory) (k : Law m) (a : Account) (b : Books m a) where
  module _ (u c : ℕ) where
    abbrev s : ℕ
    s = m.session.selected

    abbrev r : Record
    r = expunge m.session.selected u c

    abbrev event : Memory → Event
    event x = removed x m.session.selected u

    cut : (c : Bool) → ((c && false) || false) ≡ false
    cut true = refl
    cut false = refl

    kept_fewer : filterb (λ (e : Message). not (is_message s u e)) a.kept ≡ map rested (filterb (λ (e : Message). not (is_message s u e)) (mails m))
    kept_fewer = rw b.kept (filter_map rested (λ (e : Message). not (is_message s u e)) (λ e. refl) (mails m))

    -- the message leaves
    leaves : is_selected m s ≡ true → eqb (state_of s u (mails m)) 1 ≡ false → (n : Memory) → mails n ≡ filterb (λ (e : Message). not (is_message s u e)) (mails m) → n.session.selected ≡ s
        → n.session.told ≡ m.session.told
        → (ls : List Line) → ((v : ℕ) → eqb v u ≡ false → anyb (is_removal v) ls ≡ false) → ((v : ℕ) → anyb (is_marking v) ls ≡ false) → anyb is_exists ls ≡ false → (f : Fate) → Unwaiting f
        → Books n (page (apparent m) a r ls f)
    leaves h x n z i j ls tr tm te f q = turned m n (apparent m) a b r ls f (rw (still_none f q) (kept_fewer ∙ ap (map rested) (sym z)))
        (record {
          removals = λ v. rw (q (removal v), i, z, h) (gone v (eqb v u) refl);
          markings = λ v. rw (q (marking v), i, z, tm v, h) (marks v (eqb v u) refl);
          arrivals = λ v. rw (q (arrival v), i, j, z, te, h) (seen v (eqb v u) refl);
        })
      where
        others : (v : ℕ) → eqb v u ≡ false → (e : Message) → is_message s v e ≡ true → not (is_message s u e) ≡ true
        others v g e y = rw (is-other s v u g e y)

        itself : (v : ℕ) → eqb v u ≡ true → (e : Message) → is_message s v e ≡ true → not (is_message s u e) ≡ false
        itself v g e y = rw (sym (eqb-true v u g), y)

        gone : (v : ℕ) (c : Bool) → eqb v u ≡ c
            → ((eqb (state_of s v (mails m)) 1 && (not (anyb (is_removal v) ls) && true)) || false) ≡ eqb (state_of s v (filterb (λ (e : Message). not (is_message s u e)) (mails m))) 1
        gone v true g = rw (state-gone s v (λ (e : Message). not (is_message s u e)) (itself v g) (mails m), eqb-true v u g, x)
        gone v false g = rw (tr v g, state-kept s v (λ (e : Message). not (is_message s u e)) (others v g) (mails m)) (plainly (eqb (state_of s v (mails m)) 1))

        marks : (v : ℕ) (c : Bool) → eqb v u ≡ c → ((eqb (state_of s v (mails m)) 2 && not (eqb u v)) || false) ≡ eqb (state_of s v (filterb (λ (e : Message). not (is_message s u e)) (mails m))) 2
        marks v true g = rw (state-gone s v (λ (e : Message). not (is_message s u e)) (itself v g) (mails m), eqb-true v u g, eq-eqb u u refl) (cut (eqb (state_of s u (mails m)) 2))
        marks v false g = rw (flip u v g, state-kept s v (λ (e : Message). not (is_message s u e)) (others v g) (mails m)) (plainly (eqb (state_of s v (mails m)) 2))

        seen : (v : ℕ) (c : Bool) → eqb v u ≡ c
            → (((present s v (mails m) && not (ltb v m.session.told)) && not (eqb u v)) || false)
            ≡ (present s v (filterb (λ (e : Message). not (is_message s u e)) (mails m)) && not (ltb v m.session.told))
        seen v true g = rw (present-gone s v (λ (e : Message). not (is_message s u e)) (itself v g) (mails m), eqb-true v u g, eq-eqb u u refl)
            (cut (present s u (mails m) && not (ltb u m.session.told)))
        seen v false g = rw (flip u v g, present-kept s v (λ (e : Message). not (is_message s u e)) (others v g) (mails m)) (plainly (present s v (mails m) && not (ltb v m.session.told)))

    -- the removal waits
    expire-keep : (v w : ℕ) (e : Message) (c : Bool) → is_message v w (cond c (with_states e 1) e) ≡ is_message v w e
    expire-keep v w e true = refl
    expire-keep v w e false = refl

    expire-rested : (e : Message) (c : Bool) → rested (cond c (with_states e 1) e) ≡ rested e
    expire-rested e true = refl
    expire-rested e false = refl

    lingers : is_selected m s ≡ true → present s u (mails m) ≡ true → ltb u m.session.told ≡ true → (n : Memory) → mails n ≡ map (expire s u) (mails m) → n.session.selected ≡ s
        → n.session.told ≡ m.session.told
        → (ls : List Line) → Inert ls → Books n (page (apparent m) a r ls (waits (removal u)))
    lingers h here y n z i j ls il = turned m n (apparent m) a b r ls (waits (removal u))
        (b.kept ∙ (sym (map_over rested (expire s u) rested (λ e. expire-rested e (is_message s u e)) (mails m)) ∙ ap (map rested) (sym z)))
        (record {
          removals = λ v. rw (inert_removal m v il, i, z, h) (gone v (eqb v u) refl);
          markings = λ v. rw (inert_marking m v il, i, z, h) (marks v (eqb v u) refl);
          arrivals = λ v. rw (inert-exists m il, i, j, z, h, present-map s v (expire s u) (λ e. expire-keep s v e (is_message s u e)) (mails m)) (seen v (eqb v u) refl);
        })
      where
        put : (v : ℕ) → eqb v u ≡ true → state_of s v (map (expire s u) (mails m)) ≡ 1
        put v g = state_put s v 1 (expire s u) (λ e. expire-keep s v e (is_message s u e)) (λ e y. rw (sym (eqb-true v u g), y)) (mails m) ∙ rw (eqb-true v u g, here)

        left : (v : ℕ) → eqb v u ≡ false → state_of s v (map (expire s u) (mails m)) ≡ state_of s v (mails m)
        left v g = state-map s v (expire s u) (λ e. expire-keep s v e (is_message s u e)) (λ e y. rw (is-other s v u g e y)) (mails m)

        gone : (v : ℕ) (c : Bool) → eqb v u ≡ c → ((eqb (state_of s v (mails m)) 1 && true) || c) ≡ eqb (state_of s v (map (expire s u) (mails m))) 1
        gone v true g = rw (put v g) (or_true (eqb (state_of s v (mails m)) 1 && true))
        gone v false g = rw (left v g) (plainly (eqb (state_of s v (mails m)) 1))

        marks : (v : ℕ) (c : Bool) → eqb v u ≡ c → ((eqb (state_of s v (mails m)) 2 && not (eqb u v)) || false) ≡ eqb (state_of s v (map (expire s u) (mails m))) 2
        marks v true g = rw (put v g, eqb-true v u g, eq-eqb u u refl) (cut (eqb (state_of s u (mails m)) 2))
        marks v false g = rw (left v g, flip u v g) (plainly (eqb (state_of s v (mails m)) 2))

        seen : (v : ℕ) (c : Bool) → eqb v u ≡ c → (((present s v (mails m) && not (ltb v m.session.told)) && not (eqb u v)) || false) ≡ (present s v (mails m) && not (ltb v m.session.told))
        seen v true g = rw (eqb-true v u g, y, eq-eqb u u refl, and_false (present s u (mails m)))
        seen v false g = rw (flip u v g) (plainly (present s v (mails m) && not (ltb v m.session.told)))

    -- not announced: it leaves without a line
    expunge_untold : (y : Why) → is_selected m s ≡ true → eqb (state_of s u (mails m)) 1 ≡ false → due (apparent m) a r ≡ message_due (apparent m) asks_expunge (nothing y)
        → due (silence (apparent m)) a r ≡ message_due (silence (apparent m)) asks_expunge (nothing y)
        → (event m ≡ record { stored = drop_mails m (is_message s u); lines = [] }) → (event (silence m) ≡ record { stored = drop_mails (silence m) (is_message s u); lines = [] })
        → Step m a r (event_outcome m event)
    unfolding owed_now
    expunge_untold y h x p q e g =
        let d = message_due (apparent m) asks_expunge (nothing y) in
        let d' = message_due (silence (apparent m)) asks_expunge (nothing y) in
        let n = suc (length a.fates) in
        let i : Inert (once d) = plain_inert d (message_none (apparent m) asks_expunge y) in
        told-step_by m a r event d d' p q (ap (λ (x : Event). x.lines) e ∙ sym (message-once (apparent m) asks_expunge y)) (plain_fair d (message_none (apparent m) asks_expunge y)) (λ ls. refl)
        (subst (λ (x : Event). Books (say x.stored (once d)) (page (apparent m) a r (once d) (fate_now n d))) (sym e)
        (said_books (drop_mails m (is_message s u)) (page (apparent m) a r (once d) (fate_now n d)) (once d) i
        (leaves h x (drop_mails m (is_message s u)) (mails_with m (filterb (λ (e : Message). not (is_message s u e)) (mails m))) refl refl (once d) (λ v _. inert_removal m v i)
        (λ v. inert_marking m v i) (inert-exists m i) (fate_now n d) (plain_now n d (message_none (apparent m) asks_expunge y)))))
        (subst (λ (x : Event). Books x.stored (page (apparent m) a r (overflow ∷ []) (overflowed d'))) (sym g)
        (leaves h x (drop_mails (silence m) (is_message s u)) (mails_with (silence m) (filterb (λ (e : Message). not (is_message s u e)) (mails m))) refl refl (overflow ∷ []) (λ v _. refl)
        (λ v. refl) refl (overflowed d') (plain_over d' (message_none (silence (apparent m)) asks_expunge y))))

    -- told at once
    expunge_told : is_selected m s ≡ true → present s u (mails m) ≡ true → eqb (state_of s u (mails m)) 1 ≡ false → ltb u m.session.told ≡ true
        → due (apparent m) a r ≡ at_once (expunge_line (place_of u (viewed (apparent m) a)) (record { 0 = u }) ∷ []) → due (silence (apparent m)) a r ≡ later (removal u)
        → (event m ≡ record { stored = m; lines = expunge_line (place_of u (view m)) (record { 0 = u }) ∷ [] })
        → (event (silence m) ≡ record { stored = change_mails (silence m) (expire s u); lines = [] }) → Step m a r (event_outcome m event)
    unfolding owed_now effects
    expunge_told h here x y p q e g =
        told-step_by m a r event (at_once ds) (later (removal u)) p q
        (ap (λ (x : Event). x.lines) e ∙ ap (λ (j : _). expunge_line j (record { 0 = u }) ∷ []) (sym (same_place m k a b u))) (also (refl, refl) none) (λ ls. refl)
        (subst (λ (x : Event). Books (say x.stored ds) (page (apparent m) a r ds (reported (suc (length a.fates))))) (sym e)
        (leaves h x (drop_mails (enqueue m (render_all ds)) (is_message s u)) (mails_with (enqueue m (render_all ds)) (filterb (λ (e : Message). not (is_message s u e)) (mails m))) refl refl ds
        (λ v c. rw c) (λ v. refl) refl (reported (suc (length a.fates))) (λ d. refl)))
        (subst (λ (x : Event). Books x.stored (page (apparent m) a r (overflow ∷ []) (waits (removal u)))) (sym g)
        (lingers h here y (change_mails (silence m) (expire s u)) (mails_with (silence m) (map (expire s u) (mails m))) refl refl (overflow ∷ []) (also refl none)))
      where
        ds : List Line
        ds = expunge_line (place_of u (viewed (apparent m) a)) (record { 0 = u }) ∷ []

    -- it waits
    expunge-waiting : is_selected m s ≡ true → present s u (mails m) ≡ true → ltb u m.session.told ≡ true → due (apparent m) a r ≡ later (removal u)
        → due (silence (apparent m)) a r ≡ later (removal u)
        → (event m ≡ record { stored = change_mails m (expire s u); lines = [] }) → (event (silence m) ≡ record { stored = change_mails (silence m) (expire s u); lines = [] })
        → Step m a r (event_outcome m event)
    unfolding owed_now
    expunge-waiting h here y p q e g =
        told-step_by m a r event (later (removal u)) (later (removal u)) p q (ap (λ (x : Event). x.lines) e) tt (λ ls. refl)
        (subst (λ (x : Event). Books (say x.stored []) (page (apparent m) a r [] (waits (removal u)))) (sym e)
        (said_books (change_mails m (expire s u)) (page (apparent m) a r [] (waits (removal u))) [] none
        (lingers h here y (change_mails m (expire s u)) (mails_with m (map (expire s u) (mails m))) refl refl [] none)))
        (subst (λ (x : Event). Books x.stored (page (apparent m) a r (overflow ∷ []) (waits (removal u)))) (sym g)
        (lingers h here y (change_mails (silence m) (expire s u)) (mails_with (silence m) (map (expire s u) (mails m))) refl refl (overflow ∷ []) (also refl none)))

    expunge-selected : is_selected m s ≡ true → absent m s u ≡ false → Step m a r (event_outcome m event)
    unfolding due
    expunge-selected h n = go (ltb u m.session.told) refl (expunge_at_once m) refl
      where
        t : (present s u (mails m) ≡ true) × (eqb (state_of s u (mails m)) 1 ≡ false)
        t = there m k a b u n

        go : (c : Bool) → ltb u m.session.told ≡ c → (d : Bool) → expunge_at_once m ≡ d → Step m a r (event_outcome m event)
        go false x d y =
            let v : waiting a.fates (arrival u) ≡ true = seen_by m k a b u t.0 ∙ rw x in
            expunge_untold not_announced h t.1 (rw (h, v)) (rw (h, v)) (rw (h, x)) (rw (h, x))
        go true x true y =
            let v : waiting a.fates (arrival u) ≡ false = seen_by m k a b u t.0 ∙ rw x in
            expunge_told h t.0 t.1 x (rw (h, v, y)) (rw (h, v, hush-expunge m)) (rw (h, x, y)) (rw (h, x, hush-expunge m))
        go true x false y =
            let v : waiting a.fates (arrival u) ≡ false = seen_by m k a b u t.0 ∙ rw x in
            expunge-waiting h t.0 x (rw (h, v, y)) (rw (h, v, hush-expunge m)) (rw (h, x, y)) (rw (h, x, hush-expunge m))

  -- the row has the record's counter already
  pub removed-step : (i u c : ℕ) → known i (boxes m) ≡ true → absent m i u ≡ false → with_counter (the_mailbox i (boxes m)) c ≡ the_mailbox i (boxes m)
      → Step m a (expunge i u c) (event_outcome m (λ (x : Memory). removed x i u))
  unfolding due owed_now
  removed-step i u c kn n has = go (is_selected m i) refl
    where
      ends_not : is_selected m i ≡ false → Unending (apparent m) (expunge i u c)
      ends_not h d = rw h

      go : (d : Bool) → is_selected m i ≡ d → Step m a (expunge i u c) (event_outcome m (λ (x : Memory). removed x i u))
      go true h =
          let p = is-selected m k i h in
          subst (λ (j : ℕ). Step m a (expunge j u c) (event_outcome m (λ (x : Memory). removed x j u))) (sym p) (expunge-selected u c (rw p at h) (rw p at n))
      go false h =
          let x = the_mailbox i (boxes m) in
          let z = mails_with m (filterb (λ (e : Message). not (is_message i u e)) (mails m)) in
          let z' = mails_with (silence m) (filterb (λ (e : Message). not (is_message i u e)) (mails m)) in
          let o = not_selected m k i kn h in
          let kf : filterb (λ (e : Message). not (is_message i u e)) a.kept
          ≡ map rested (filterb (λ (e : Message). not (is_message i u e)) (mails m)) = rw b.kept (filter_map rested (λ (e : Message). not (is_message i u e)) (λ e. refl) (mails m)) in
          let other : (v : ℕ) (e : Message) → is_message m.session.selected v e ≡ true → not (is_message i u e) ≡ true = λ v e g. rw (not_of m.session.selected i o v e g) in
          let count : length (existing x.id (mails (drop_mails m (is_message i u)))) ≡ length (messages_of x.id (filterb (λ (e : Message). not (is_message i u e)) a.kept)) =
          ap (λ (l : List Message). length (existing x.id l)) z
          ∙ (ap length (existing_all x.id (all-kept (λ (e : Message). not (is_message i u e)) (rest_of m k x.id (rw (box_id i (boxes m) kn) o))))
          ∙ (sym (length-map (messages_of x.id (filterb (λ (e : Message). not (is_message i u e)) (mails m))) rested)
          ∙ ap length (sym (ap (messages_of x.id) kf ∙ messages-rested x.id (filterb (λ (e : Message). not (is_message i u e)) (mails m)))))) in
          let es = filterb (λ (e : Message). not (is_message i u e)) a.kept in
          status_by_lem m a b (expunge i u c) (λ (x : Memory). removed x i u) x asks_expunge (counts_due x es)
          (rw h (ap (λ (y : Mailbox). status_due (apparent m) y asks_expunge (counts_due y es)) has))
          (rw h (ap (λ (y : Mailbox). status_due (silence (apparent m)) y asks_expunge (counts_due y es)) has))
          (rw h (ap (λ (n : ℕ). status_lines x (asked_of m.session x asks_expunge) (mail_items x.uidnext n (counter_of x))) count)) refl
          (λ ls. refl) (ends_not h)
          (rw h (drop-elsewhere m (drop_mails m (is_message i u)) (λ (e : Message). not (is_message i u e)) z refl refl other))
          (rw h (drop-elsewhere m (drop_mails (silence m) (is_message i u)) (λ (e : Message). not (is_message i u e)) z' refl refl other))
          (λ f ls q. rw (h, still_none f q) (kf ∙ ap (map rested) (sym z))) (λ f ls q. rw (h, still_none f q) (kf ∙ ap (map rested) (sym z')))
