-- One taken call: a new message. Assumes nothing.
use Rattle.std.specs.Prelude.{◌≡◌, Bool, not, cond, ◌&&◌, ◌||◌, ℕ, suc, ◌+◌, eqb, ltb, length, set}
use Rattle.std.proofs.Math.Path.{refl}
use Rattle.std.proofs.Common.{sym, ◌∙◌, ap, ap₂, subst, arith, eqb-true, eq-eqb, ne_eqb, ltb-false, le-ltb}
use mathlib.Core.List.{List, [], ◌∷◌, ◌++◌, map}
use Rattle.std.proofs.Math.Bool.{true, false}
use Rattle.std.proofs.lemmas.Bool.{eqb-false, not-true}
use Rattle.std.proofs.lemmas.List.{length-map}
use Rattle.model.specs.Lists.{filterb, anyb}
use Rattle.model.specs.Laws.{tf, or_l, or_r, or_true, or-false, filter_map, filter-append, any_snoc, and_false}
use Rattle.model.specs.Records.{Record, arrive}
use Rattle.model.specs.Memory.{Memory, boxes, mails, known, place, the_mailbox, selected_box, is_selected, uid_of, is_message, in_mailbox, by_uid, messages_of, existing, with_next, counter_of, with_counter, put_box}
use Rattle.model.specs.Groups.{asked_of, asks_new}
use Rattle.model.specs.Lines.{Line, modseq, mail_items, fetch, overflow, render_all}
use Rattle.model.specs.Queue.{enqueue, effects}
use Rattle.model.specs.View.{announced, selected_messages, view, unannounced, exists_line, new_at_once, shown_items, shows_any, new_lines, announcing}
use Rattle.model.specs.Events.{Event, message, with_arrived, arrived, status_lines, counts_of, silence}
use Rattle.model.specs.Rules.{rested, event_outcome}
use Rattle.model.specs.Lawful.{state_ok}
use Rattle.demands.specs.Lasting.Law.{Law}
use Rattle.demands.specs.Lasting.Rows.{row-set, told_next}
use Rattle.demands.specs.Isolation.Erase.{box_id}
use Rattle.demands.specs.Isolation.Alike.{mails_with, boxes_with}
use Rattle.model.specs.declared.Mailbox.{Mailbox}
use Rattle.model.specs.declared.Message.{Message}
use Rattle.model.specs.declared.Session.{Session}
use Rattle.model.specs.Fates.{arrival, reported, waits, is_exists, is_removal, is_marking}
use Rattle.model.specs.Seen.{apparent}
use Rattle.model.specs.Due.{Account, waiting, at_once, later, status_due, counts_due, arrivals, is_new, due}
use Rattle.model.specs.Account.{owed_now}
use Rattle.demands.specs.Ledger.Each.{twice, All, none, also, all_yes, all_to, all_with, all_pass, all_ordered, filter-agree, all_append, any_ordered, any_passed}
use Rattle.demands.specs.Ledger.Entries.{present, state_of, state-snoc, found, present-snoc}
use Rattle.demands.specs.Ledger.Books.{exists_some, Books, same-exists}
use Rattle.demands.specs.Ledger.Effects.{flip, Calm, Ended, ended_all}
use Rattle.demands.specs.Ledger.Steps.{plainly, page, turned, Step, FairLine, told-step_by}
use Rattle.demands.specs.Ledger.Plain.{Inert, inert_removal, inert_marking, inert-exists, said_books}
use Rattle.demands.specs.Ledger.Reach.{not_selected, below}
use Rattle.demands.specs.Ledger.Calm.{calm-exists, calm_same}
use Rattle.demands.specs.Ledger.Messages.{hush-new, status_by_lem, messages-rested, map-append, existing_all, rest_of, is-selected, unremoved}

any-front : (p : Line → Bool) (l r : List Line) → anyb p l ≡ true → anyb p (l ++ r) ≡ true
any-front p [] r h = tf false h refl
any-front p (x ∷ l) r h = go (p x) h (any-front p l r)
  where
    go : (c : Bool) → (c || anyb p l) ≡ true → (anyb p l ≡ true → anyb p (l ++ r) ≡ true) → (c || anyb p (l ++ r)) ≡ true
    go true q ih = refl
    go false q ih = ih q

any-neither : (p : Line → Bool) (l r : List Line) → anyb p l ≡ false → anyb p r ≡ false → anyb p (l ++ r) ≡ false
any-neither p [] r g h = h
any-neither p (x ∷ l) r g h = rw (or_l (p x) _ g) (any-neither p l r (or_r (p x) _ g) h)

unremoving-new : (v : ℕ) (s : Session) (n : ℕ) (l : List Message) → anyb (is_removal v) (new_lines s n l) ≡ false
unfolding new_lines
unremoving-new v s n [] = refl
unremoving-new v s n (e ∷ l) = unremoving-new v s (n + 1) l

unremoving-exists : (v n : ℕ) (l : List Message) → anyb (is_removal v) (exists_line n l) ≡ false
unremoving-exists v n [] = refl
unremoving-exists v n (e ∷ l) = refl

fair-exists : (n : ℕ) (l : List Message) → All FairLine (exists_line n l)
fair-exists n [] = none
fair-exists n (e ∷ l) = also (refl, refl) none

fair-new : (s : Session) (n : ℕ) (l : List Message) → All FairLine (new_lines s n l)
unfolding new_lines
fair-new s n [] = none
fair-new s n (e ∷ l) = also (refl, refl) (fair-new s (n + 1) l)

calm-new : (m : Memory) (s : Session) (n : ℕ) {l : List Message} → All (λ (e : Message). eqb (state_of m.session.selected (uid_of e) (mails m)) 1 ≡ false) l → All (Calm m) (new_lines s n l)
unfolding new_lines
calm-new m s n none = none
calm-new m s n (also {x = e} p h) = also {x = fetch (record { 0 = n }) e.uid (shown_items s e ++ (modseq e.counter ∷ []))} p (calm-new m s (n + 1) h)

same_new : (s : Session) (n : ℕ) (l : List Message) → new_lines s n (map rested l) ≡ new_lines s n l
unfolding new_lines
same_new s n [] = refl
same_new s n (e ∷ l) = ap (λ (t : List Line). fetch (record { 0 = n }) e.uid (shown_items s e ++ (modseq e.counter ∷ [])) ∷ t) (same_new s (n + 1) l)

same-arrivals : (w : Memory) (old new : List Message) → arrivals w (map rested old) (map rested new) ≡ arrivals w old new
same-arrivals w old new =
    ap (λ (j : ℕ). exists_line j (map rested new) ++ cond (shows_any w.session) (new_lines w.session (j + 1) (map rested new)) []) (length-map old rested)
    ∙ ap₂ ◌++◌ (same-exists (length old) new) (ap (λ (ls : List Line). cond (shows_any w.session) ls []) (same_new w.session (length old + 1) new))

session-new : (m : Memory) (n : ℕ) (l : List Message) → new_lines (apparent m).session n l ≡ new_lines m.session n l
unfolding new_lines
session-new m n [] = refl
session-new m n (e ∷ l) = ap (λ (t : List Line). fetch (record { 0 = n }) e.uid (shown_items m.session e ++ (modseq e.counter ∷ [])) ∷ t) (session-new m (n + 1) l)

session-arrivals : (m : Memory) (old new : List Message) → arrivals (apparent m) old new ≡ (exists_line (length old) new ++ cond (shows_any m.session) (new_lines m.session (length old + 1) new) [])
session-arrivals m old new = ap (λ (ls : List Line). exists_line (length old) new ++ cond (shows_any m.session) ls []) (session-new m (length old + 1) new)

module _ (m : Memory) (k : Law m) (a : Account) (b : Books m a) where
  module _ (u f z c : ℕ) (law : Law (with_arrived m m.session.selected u f z c)) (fresh : ltb u (selected_box m).uidnext ≡ false) where
    abbrev s : ℕ
    s = m.session.selected

    abbrev r : Record
    r = arrive m.session.selected u f z c

    abbrev event : Memory → Event
    event x = arrived x m.session.selected u f z c

    abbrev x : Memory
    x = with_arrived m m.session.selected u f z c

    abbrev e₀ : Message
    e₀ = message m.session.selected u f z c

    stored-mails : mails x ≡ mails m ++ (e₀ ∷ [])
    stored-mails = mails_with (put_box m s (with_next (the_mailbox s (boxes m)) (u + 1))) (mails m ++ (e₀ ∷ []))

    unseen_yet : ltb u m.session.told ≡ false
    unseen_yet = le-ltb u m.session.told (let t = told_next (boxes m) k.box m.session k.view in let g = ltb-false u (selected_box m).uidnext fresh in omega arith)

    kept_more : (n : Memory) → mails n ≡ mails m ++ (e₀ ∷ []) → a.kept ++ (e₀ ∷ []) ≡ map rested (mails n)
    kept_more n q = ap (λ (l : List Message). l ++ (e₀ ∷ [])) b.kept ∙ (sym (map-append rested (mails m) (e₀ ∷ [])) ∙ ap (map rested) (sym q))

    own-place : (v : ℕ) → is_message s v e₀ ≡ eqb u v
    own-place v = rw (eq-eqb s s refl)

    -- it waits
    awaits : (n : Memory) → mails n ≡ mails m ++ (e₀ ∷ []) → n.session.selected ≡ s → n.session.told ≡ m.session.told → (ls : List Line) → Inert ls
        → Books n (page (apparent m) a r ls (waits (arrival u)))
    awaits n q i j ls il = turned m n (apparent m) a b r ls (waits (arrival u)) (kept_more n q)
        (record {
          removals = λ v. rw (inert_removal m v il, i, q, state-snoc s v (mails m) e₀ refl) (plainly (eqb (state_of s v (mails m)) 1));
          markings = λ v. rw (inert_marking m v il, i, q, state-snoc s v (mails m) e₀ refl) (plainly (eqb (state_of s v (mails m)) 2));
          arrivals = λ v. rw (inert-exists m il, i, j, q, present-snoc s v (mails m) e₀, own-place v) (seen v (eqb v u) refl);
        })
      where
        seen : (v : ℕ) (c : Bool) → eqb v u ≡ c → (((present s v (mails m) && not (ltb v m.session.told)) && true) || c) ≡ ((present s v (mails m) || eqb u v) && not (ltb v m.session.told))
        seen v true h = rw (eqb-true v u h, eq-eqb u u refl, unseen_yet, or_true (present s u (mails m)), or_true ((present s u (mails m) && true) && true))
        seen v false h = rw (flip u v h, or-false (present s v (mails m))) (plainly (present s v (mails m) && not (ltb v m.session.told)))

    hushed_arrival : Books (with_arrived (silence m) s u f z c) (page (apparent m) a r (overflow ∷ []) (waits (arrival u)))
    hushed_arrival = awaits (with_arrived (silence m) s u f z c) (mails_with (put_box (silence m) s (with_next (the_mailbox s (boxes m)) (u + 1))) (mails m ++ (e₀ ∷ []))) refl refl (overflow ∷ [])
        (also refl none)

    arrive-waiting : due (apparent m) a r ≡ later (arrival u) → due (silence (apparent m)) a r ≡ later (arrival u) → (event m).lines ≡ [] → Step m a r (event_outcome m event)
    unfolding owed_now
    arrive-waiting p q e =
        told-step_by m a r event (later (arrival u)) (later (arrival u)) p q e tt (λ ls. refl)
        (said_books x (page (apparent m) a r [] (waits (arrival u))) [] none (awaits x stored-mails refl refl [] none))
        hushed_arrival

    -- told at once
    new_booked : All (λ (e : Message). is_new a.fates u e ≡ not (announced x e)) (selected_messages x)
    new_booked = all_ordered by_uid (all_to (λ e p. one e (p.0 p.1).1) (all_pass (in_mailbox s) (found s (mails x) law.twins)))
      where
        one : (e : Message) → present s (uid_of e) (mails x) ≡ true → is_new a.fates u e ≡ not (announced x e)
        one e here = go (eqb (uid_of e) u) refl
          where
            go : (c : Bool) → eqb (uid_of e) u ≡ c → (c || waiting a.fates (arrival (uid_of e))) ≡ not (ltb (uid_of e) m.session.told)
            go true h = rw (eqb-true (uid_of e) u h, unseen_yet)
            go false h =
                let p : (present s (uid_of e) (mails m) || is_message s (uid_of e) e₀) ≡ true = sym (ap (present s (uid_of e)) stored-mails ∙ present-snoc s (uid_of e) (mails m) e₀) ∙ here in
                let q : present s (uid_of e) (mails m) ≡ true = sym (or-false (present s (uid_of e) (mails m))) ∙ (rw (own-place (uid_of e), flip u (uid_of e) h) at p) in
                b.arrivals (uid_of e) ∙ rw q

    all_of : messages_of s (a.kept ++ (e₀ ∷ [])) ≡ map rested (selected_messages x)
    all_of = ap (messages_of s) (kept_more x stored-mails) ∙ messages-rested s (mails x)

    news : filterb (is_new a.fates u) (messages_of s (a.kept ++ (e₀ ∷ []))) ≡ map rested (unannounced x)
    news = ap (filterb (is_new a.fates u)) all_of
        ∙ (filter_map rested (is_new a.fates u) (λ e. refl) (selected_messages x)
        ∙ ap (map rested) (filter-agree (is_new a.fates u) (λ (e : Message). not (announced x e)) (selected_messages x) new_booked))

    olds : filterb (λ (e : Message). not (is_new a.fates u e)) (messages_of s (a.kept ++ (e₀ ∷ []))) ≡ map rested (view x)
    olds = ap (filterb (λ (e : Message). not (is_new a.fates u e))) all_of
        ∙ (filter_map rested (λ (e : Message). not (is_new a.fates u e)) (λ e. refl) (selected_messages x)
        ∙ ap (map rested) (filter-agree (λ (e : Message). not (is_new a.fates u e)) (announced x) (selected_messages x) (all_to (λ e h. ap not h ∙ twice (announced x e)) new_booked)))

    same-announcing : arrivals (apparent m) (filterb (λ (e : Message). not (is_new a.fates u e)) (messages_of s (a.kept ++ (e₀ ∷ []))))
        (filterb (is_new a.fates u) (messages_of s (a.kept ++ (e₀ ∷ [])))) ≡ announcing x
    same-announcing = ap₂ (arrivals (apparent m)) olds news ∙ (same-arrivals (apparent m) (view x) (unannounced x) ∙ session-arrivals m (view x) (unannounced x))

    -- of those not announced nothing waits but their arrival
    new-rest : All (λ (e : Message). eqb (state_of s (uid_of e) (mails x)) 1 ≡ false) (unannounced x)
    new-rest = all_to (λ e p. p.0 (not-true (announced x e) p.1))
        (all_pass (λ (e : Message). not (announced x e))
        (all_ordered by_uid (all_to (λ e p. p.0 p.1) (all_pass (in_mailbox s) (all_with one (found s (mails x) law.twins) (all_yes (state_ok m.session) (mails x) law.states))))))
      where
        one : (e : Message) → (in_mailbox s e ≡ true → (state_of s (uid_of e) (mails x) ≡ e.states) × (present s (uid_of e) (mails x) ≡ true)) → state_ok m.session e ≡ true
            → in_mailbox s e ≡ true → announced x e ≡ false → eqb (state_of s (uid_of e) (mails x)) 1 ≡ false
        one e g o i h =
            let q : e.states ≡ 0 = eqb-true e.states 0 (sym (or-false (eqb e.states 0)) ∙ (rw (i, h) at o)) in
            rw ((g i).0, q)

    -- one at least is new
    some-new : anyb is_exists (announcing x) ≡ true
    some-new = any-front is_exists (exists_line (length (view x)) (unannounced x)) _
        (exists_some (length (view x)) (unannounced x)
        ∙ (any_passed (λ (e : Message). not (announced x e)) (selected_messages x) ∙ (any_ordered by_uid (λ (e : Message). not (announced x e)) (filterb (in_mailbox s) (mails x)) ∙ last)))
      where
        last : anyb (λ (e : Message). not (announced x e)) (filterb (in_mailbox s) (mails x)) ≡ true
        last = rw (stored-mails, filter-append (in_mailbox s) (mails m) (e₀ ∷ []), eq-eqb s s refl)
            (any_snoc (λ (e : Message). not (announced x e)) (filterb (in_mailbox s) (mails m)) e₀
            ∙ (rw unseen_yet (or_true (anyb (λ (e : Message). not (announced x e)) (filterb (in_mailbox s) (mails m))))))

    arrive_told : due (apparent m) a r ≡ at_once (announcing x) → due (silence (apparent m)) a r ≡ later (arrival u) → (event m).lines ≡ announcing x → Step m a r (event_outcome m event)
    unfolding owed_now
    arrive_told p q e =
        told-step_by m a r event (at_once (announcing x)) (later (arrival u)) p q e
        (all_append (fair-exists (length (view x)) (unannounced x)) (fair (shows_any m.session))) (λ ls. refl) spoken hushed_arrival
      where
        fair : (c : Bool) → All FairLine (cond c (new_lines m.session (length (view x) + 1) (unannounced x)) [])
        fair true = fair-new m.session (length (view x) + 1) (unannounced x)
        fair false = none

        calm : (c : Bool) → All (Calm x) (cond c (new_lines m.session (length (view x) + 1) (unannounced x)) [])
        calm true = calm-new x m.session (length (view x) + 1) new-rest
        calm false = none

        fewer : (v : ℕ) (c : Bool) → anyb (is_removal v) (cond c (new_lines m.session (length (view x) + 1) (unannounced x)) []) ≡ false
        fewer v true = unremoving-new v m.session (length (view x) + 1) (unannounced x)
        fewer v false = refl

        unremoving : (v : ℕ) → anyb (is_removal v) (announcing x) ≡ false
        unremoving v = any-neither (is_removal v) (exists_line (length (view x)) (unannounced x)) _ (unremoving-exists v (length (view x)) (unannounced x)) (fewer v (shows_any m.session))

        n : Memory
        n = enqueue (with_arrived m m.session.selected u f z c) (render_all (announcing (with_arrived m m.session.selected u f z c)))

        end : Ended n (effects n (announcing x)) (announcing x)
        end = ended_all n (record { reach = (below x law).reach; wide = (below x law).wide }) (announcing x)
            (all_to (calm_same x n refl refl refl) (all_append (calm-exists x (length (view x)) (unannounced x)) (calm (shows_any m.session))))

        simply : (c t : Bool) → ((c && (not t && true)) || false) ≡ (c && not t)
        simply true true = refl
        simply true false = refl
        simply false t = refl

        spoken : Books (effects n (announcing x)) (page (apparent m) a r (announcing x) (reported (suc (length a.fates))))
        spoken = turned m (effects n (announcing x)) (apparent m) a b r (announcing x) (reported (suc (length a.fates)))
            (kept_more n stored-mails ∙ sym (unremoved n (effects n (announcing x)) (announcing x) unremoving end))
            (record {
              removals = λ v. simply (eqb (state_of s v (mails m)) 1) (anyb (is_removal v) (announcing x))
                  ∙ (ap (λ (j : ℕ). eqb j 1 && not (anyb (is_removal v) (announcing x))) (sym (ap (state_of s v) stored-mails ∙ state-snoc s v (mails m) e₀ refl))
                  ∙ (sym (end.removals v) ∙ ap (λ (j : ℕ). eqb (state_of j v (mails (effects n (announcing x)))) 1) (sym end.selected)));
              markings = λ v. simply (eqb (state_of s v (mails m)) 2) (anyb (is_marking v) (announcing x))
                  ∙ (ap (λ (j : ℕ). eqb j 2 && not (anyb (is_marking v) (announcing x))) (sym (ap (state_of s v) stored-mails ∙ state-snoc s v (mails m) e₀ refl))
                  ∙ (sym (end.markings v) ∙ ap (λ (j : ℕ). eqb (state_of j v (mails (effects n (announcing x)))) 2) (sym end.selected)));
              arrivals = λ v. simply (present s v (mails m) && not (ltb v m.session.told)) (anyb is_exists (announcing x))
                  ∙ (ap (λ (c : Bool). (present s v (mails m) && not (ltb v m.session.told)) && not c) some-new
                  ∙ (and_false (present s v (mails m) && not (ltb v m.session.told))
                  ∙ (sym (end.arrivals v ∙ (ap (λ (c : Bool). (present s v (mails n) && not (ltb v m.session.told)) && not c) some-new
                  ∙ and_false (present s v (mails n) && not (ltb v m.session.told))))
                  ∙ ap (λ (j : ℕ). present j v (mails (effects n (announcing x))) && not (ltb v (effects n (announcing x)).session.told)) (sym end.selected))));
            })

    arrive-selected : is_selected m s ≡ true → Step m a r (event_outcome m event)
    unfolding due
    arrive-selected h = go (new_at_once m) refl
      where
        go : (c : Bool) → new_at_once m ≡ c → Step m a r (event_outcome m event)
        go true y = arrive_told (rw (h, y) (ap at_once same-announcing)) (rw (h, hush-new m)) (rw (h, y))
        go false y = arrive-waiting (rw (h, y)) (rw (h, hush-new m)) (rw (h, y))

  -- the row has the record's counter already
  pub arrived-step : (i u f z c : ℕ) → known i (boxes m) ≡ true → Law (with_arrived m i u f z c) → ltb u (the_mailbox i (boxes m)).uidnext ≡ false
      → with_counter (the_mailbox i (boxes m)) c ≡ the_mailbox i (boxes m) → Step m a (arrive i u f z c) (event_outcome m (λ (x : Memory). arrived x i u f z c))
  unfolding due owed_now
  arrived-step i u f z c kn law fresh has = go (is_selected m i) refl
    where
      y : Mailbox
      y = with_next (the_mailbox i (boxes m)) (u + 1)

      row : the_mailbox i (boxes (with_arrived m i u f z c)) ≡ with_next (the_mailbox i (boxes m)) (u + 1)
      row = ap (the_mailbox i) (boxes_with m (set (boxes m) (place i (boxes m)) (with_next (the_mailbox i (boxes m)) (u + 1))))
          ∙ row-set i (with_next (the_mailbox i (boxes m)) (u + 1)) (box_id i (boxes m) kn) (boxes m) kn

      go : (d : Bool) → is_selected m i ≡ d → Step m a (arrive i u f z c) (event_outcome m (λ (x : Memory). arrived x i u f z c))
      go true h =
          let p = is-selected m k i h in
          subst (λ (j : ℕ). Step m a (arrive j u f z c) (event_outcome m (λ (x : Memory). arrived x j u f z c))) (sym p)
          (arrive-selected u f z c (subst (λ (j : ℕ). Law (with_arrived m j u f z c)) p law) (subst (λ (j : ℕ). ltb u (the_mailbox j (boxes m)).uidnext ≡ false) p fresh) (rw p at h))
      go false h =
          let e = message i u f z c in
          let q = mails_with (put_box m i (with_next (the_mailbox i (boxes m)) (u + 1))) (mails m ++ (e ∷ [])) in
          let q' = mails_with (put_box (silence m) i (with_next (the_mailbox i (boxes m)) (u + 1))) (mails m ++ (e ∷ [])) in
          let o = not_selected m k i kn h in
          let j = (the_mailbox i (boxes m)).id in
          let o' : eqb m.session.selected j ≡ false = rw (box_id i (boxes m) kn) o in
          let more : a.kept ++ (e ∷ []) ≡ map rested (mails m ++ (e ∷ [])) = ap (λ (l : List Message). l ++ (e ∷ [])) b.kept ∙ sym (map-append rested (mails m) (e ∷ [])) in
          let away : (v : ℕ) → is_message m.session.selected v e ≡ false = λ v. rw (ne_eqb i m.session.selected (λ w. eqb-false m.session.selected i o (sym w))) in
          let count : length (existing j (mails (with_arrived m i u f z c))) ≡ length (messages_of j (a.kept ++ (e ∷ []))) =
          ap (λ (l : List Message). length (existing j l)) q
          ∙ (ap length (existing_all j (all_append (rest_of m k j o') (also {x = e} (λ _. refl) none)))
          ∙ (sym (length-map (messages_of j (mails m ++ (e ∷ []))) rested)
          ∙ ap length (sym (ap (messages_of j) more ∙ messages-rested j (mails m ++ (e ∷ [])))))) in
          let es = a.kept ++ (e ∷ []) in
          status_by_lem m a b (arrive i u f z c) (λ (x : Memory). arrived x i u f z c) y asks_new (counts_due y es)
          (rw h (ap (λ (x : Mailbox). status_due (apparent m) (with_next x (u + 1)) asks_new (counts_due (with_next x (u + 1)) es)) has))
          (rw h (ap (λ (x : Mailbox). status_due (silence (apparent m)) (with_next x (u + 1)) asks_new (counts_due (with_next x (u + 1)) es)) has))
          (rw h (ap (λ (x : Mailbox). status_lines x (asked_of m.session x asks_new) (counts_of (with_arrived m i u f z c) x)) row
          ∙ ap (λ (n : ℕ). status_lines y (asked_of m.session y asks_new) (mail_items (u + 1) n (counter_of y))) count)) refl
          (λ ls. refl) (λ d. refl)
          (record {
            selected = refl;
            told = refl;
            states = λ v. rw q (state-snoc m.session.selected v (mails m) e refl);
            presents = λ v. rw (q, present-snoc m.session.selected v (mails m) e, away v) (or-false (present m.session.selected v (mails m)));
          })
          (record {
            selected = refl;
            told = refl;
            states = λ v. rw q' (state-snoc m.session.selected v (mails m) e refl);
            presents = λ v. rw (q', present-snoc m.session.selected v (mails m) e, away v) (or-false (present m.session.selected v (mails m)));
          })
          (λ f ls _. more ∙ ap (map rested) (sym q)) (λ f ls _. more ∙ ap (map rested) (sym q'))
