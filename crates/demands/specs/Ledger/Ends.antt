-- One taken call: a command end, a select, a drain. Assumes nothing.
use Rattle.std.specs.Prelude.{◌≡◌, Bool, ◌&&◌, ◌||◌, ℕ, suc, eqb, ltb, length}
use Rattle.std.proofs.Math.Path.{refl, sym, ap}
use Rattle.std.proofs.Common.{◌∙◌, subst, eqb-true}
use mathlib.Core.List.{List, [], map}
use Rattle.std.proofs.Math.Bool.{true, false, not}
use Rattle.model.specs.Lists.{filterb, anyb}
use Rattle.model.specs.Laws.{tf, or-false, cond_same, filter_map}
use Rattle.model.specs.Records.{Record, select, ended, drained, record_of_none}
use Rattle.model.specs.Memory.{Memory, boxes, mails, the_mailbox, uid_of, expunged, in_mailbox, drop_mails}
use Rattle.model.specs.Lines.{Line, answer, render_all}
use Rattle.model.specs.Queue.{room, fitting, enqueue, dequeue, effects}
use Rattle.model.specs.Events.{silence}
use Rattle.model.specs.Rules.{Outcome, rested, selecting, end_lines, ended_at}
use Rattle.model.specs.Lawful.{message_ok, state_ok}
use Rattle.model.specs.Reasoned.{changes}
use Rattle.demands.specs.Lasting.Law.{Law}
use Rattle.demands.specs.Isolation.Alike.{mails_with}
use Rattle.model.specs.declared.Answer.TheVariants.{Done}
use Rattle.model.specs.declared.Message.{Message}
use Rattle.model.specs.Fates.{removal, no_event, Fate, unowed, is_removal, is_silent}
use Rattle.model.specs.Seen.{apparent}
use Rattle.model.specs.Due.{Account, waiting, Due, nothing, due}
use Rattle.model.specs.Account.{notices, own, kept_by, posted, owed_now}
use Rattle.demands.specs.Ledger.Each.{All, none, all_yes, all_to, all_with, map_over, filter-agree}
use Rattle.demands.specs.Ledger.Entries.{present, state_of, state_put, present-map, found}
use Rattle.demands.specs.Ledger.Books.{Books, same-owing, noticed_all, all-fitting, noticed-owed, small_states, two_bits}
use Rattle.demands.specs.Ledger.Effects.{Calm, Ended, ended_all, present_fewer}
use Rattle.demands.specs.Ledger.Steps.{page, turned, same_books, Unending, Unwaiting, lines_turn, Step}
use Rattle.demands.specs.Ledger.Plain.{elsewhere_books, unmoved}
use Rattle.demands.specs.Ledger.Reach.{reached, below}
use Rattle.demands.specs.Ledger.Calm.{calm-owed, calm_same}

-- ---- lines of a call that changes nothing else
module _ (m : Memory) (k : Law m) (a : Account) (b : Books m a) where
  pub spoken_books : (r : Record) (f : Fate) (ls : List Line) → All (Calm m) ls → Unending (apparent m) r → Unwaiting f
      → kept_by (apparent m) a r f ls ≡ filterb (λ (e : Message). not (in_mailbox m.session.selected e && anyb (is_removal (uid_of e)) ls)) a.kept
      → (t : List ℕ) → Books (effects (enqueue m t) ls) (page (apparent m) a r ls f)
  spoken_books r f ls c d q z t =
      let e : Ended (enqueue m t) (effects (enqueue m t) ls) ls = ended_all (enqueue m t) (record { reach = (below m k).reach; wide = (below m k).wide }) ls
      (all_to (calm_same m (enqueue m t) refl refl refl) c) in
      turned (enqueue m t) (effects (enqueue m t) ls) (apparent m) a (same_books m (enqueue m t) a refl refl refl b) r ls f
      (z ∙ (ap (filterb (λ (e : Message). not (in_mailbox m.session.selected e && anyb (is_removal (uid_of e)) ls))) b.kept ∙ sym e.kept))
      (lines_turn (enqueue m t) (effects (enqueue m t) ls) (apparent m) r ls f e d q)

  pub ended-step : (c : ℕ) → Step m a (ended c) (ended_at m c)
  unfolding due owed_now
  ended-step c = record {
    exact = noticed_all (all-fitting (room m) (noticed-owed m c)) ∙ ap (fitting (room m)) (sym (same-owing m k a b c));
    whole = λ h. tf false h refl;
    books = spoken_books (ended c) (unowed no_event) (end_lines m c) (all-fitting (room m) (calm-owed m k c)) (λ d. refl) (λ d. refl) refl (render_all (end_lines m c));
    heard = refl;
  }

  still-step : (r : Record) (x : Outcome) → x.lines ≡ [] → mails x.after ≡ mails m → x.after.session.selected ≡ m.session.selected → x.after.session.told ≡ m.session.told
      → changes r ≡ false → due (apparent m) a r ≡ nothing no_event
      → owed_now (apparent m) a r [] ≡ [] → Unending (apparent m) r → kept_by (apparent m) a r (unowed no_event) [] ≡ a.kept → Step m a r x
  still-step r x l e s t c q o d z = record {
    exact = ap notices l ∙ sym (ap (owed_now (apparent m) a r) l ∙ o);
    whole = λ h. tf (changes r) h c;
    books = subst (λ (p : Account). Books x.after p)
        (sym (ap (posted (apparent m) a r) l ∙ ap (page (apparent m) a r []) (ap (λ (y : Due). own (suc (length a.fates)) y (due (silence (apparent m)) a r) []) q)))
        (elsewhere_books m x.after a b r [] (unowed no_event) (unmoved m x.after e s t) (z ∙ (b.kept ∙ ap (map rested) (sym e))) none d (λ y. refl));
    heard = ap (λ (y : Due). is_silent (own (suc (length a.fates)) y (due (silence (apparent m)) a r) x.lines)) q;
  }

  pub drained-step : (n : ℕ) → Step m a (drained n) (record { answer = Done; lines = []; after = dequeue m n })
  unfolding due owed_now
  drained-step n = still-step (drained n) _ refl refl refl refl refl refl refl (λ d. refl) refl

  pub none-step : Step m a record_of_none (record { answer = Done; lines = []; after = m })
  unfolding due owed_now
  none-step = still-step record_of_none _ refl refl refl refl refl refl refl (λ d. refl) refl

  -- `SE`: all that waits is dropped, the expunged messages leave, the view is all
  gone_by : All (λ (e : Message). not (in_mailbox m.session.selected e && waiting a.fates (removal (uid_of e))) ≡ not (expunged e)) (mails m)
  gone_by = all_with one (all_with both (found m.session.selected (mails m) k.twins) (all_yes message_ok (mails m) k.mail)) (all_yes (state_ok m.session) (mails m) k.states)
    where
      both : (e : Message) → (in_mailbox m.session.selected e ≡ true
          → (state_of m.session.selected (uid_of e) (mails m) ≡ e.states) × (present m.session.selected (uid_of e) (mails m) ≡ true)) → message_ok e ≡ true
          → (in_mailbox m.session.selected e ≡ true → waiting a.fates (removal (uid_of e)) ≡ expunged e)
      both e f o h = b.removals (uid_of e) ∙ (rw (f h).0 (two_bits e.states (small_states e o)).0)

      one : (e : Message) → (in_mailbox m.session.selected e ≡ true → waiting a.fates (removal (uid_of e)) ≡ expunged e) → state_ok m.session e ≡ true
          → not (in_mailbox m.session.selected e && waiting a.fates (removal (uid_of e))) ≡ not (expunged e)
      one e f o = go (in_mailbox m.session.selected e) refl
        where
          go : (c : Bool) → in_mailbox m.session.selected e ≡ c → not (c && waiting a.fates (removal (uid_of e))) ≡ not (expunged e)
          go true h = ap not (f h)
          go false h =
              let z : e.states ≡ 0 = eqb-true e.states 0 (sym (or-false (eqb e.states 0)) ∙ (rw h at o)) in
              rw z

  selected-mails : (i : ℕ) → mails (selecting m i) ≡ map rested (filterb (λ (e : Message). not (expunged e)) (mails m))
  selected-mails i = mails_with (drop_mails m expunged) (map rested (mails (drop_mails m expunged))) ∙ ap (map rested) (mails_with m (filterb (λ (e : Message). not (expunged e)) (mails m)))

  pub selected_step : (i : ℕ) → Step m a (select i) (record { answer = Done; lines = []; after = selecting m i })
  unfolding due owed_now
  selected_step i = record {
    exact = refl;
    whole = λ h. tf false h refl;
    books = turned m (selecting m i) (apparent m) a b (select i) [] (unowed no_event)
        (ap (filterb (λ (e : Message). not (in_mailbox m.session.selected e && waiting a.fates (removal (uid_of e))))) b.kept
        ∙ (filter_map rested (λ (e : Message). not (in_mailbox m.session.selected e && waiting a.fates (removal (uid_of e)))) (λ e. refl) (mails m)
        ∙ (ap (map rested) (filter-agree (λ (e : Message). not (in_mailbox m.session.selected e && waiting a.fates (removal (uid_of e)))) (λ (e : Message). not (expunged e)) (mails m) gone_by)
        ∙ (sym (map_over rested rested rested (λ e. refl) (filterb (λ (e : Message). not (expunged e)) (mails m))) ∙ ap (map rested) (sym (selected-mails i))))))
        (record {
          removals = λ u. rw (none_left u) (ended' (eqb (state_of m.session.selected u (mails m)) 1));
          markings = λ u. rw (none_left u) (ended' (eqb (state_of m.session.selected u (mails m)) 2));
          arrivals = λ u. ended' (present m.session.selected u (mails m) && not (ltb u m.session.told)) ∙ sym (all_seen u (present i u (mails (selecting m i))) refl);
        });
    heard = refl;
  }
    where
      ended' : (c : Bool) → ((c && false) || false) ≡ false
      ended' true = refl
      ended' false = refl

      none_left : (u : ℕ) → state_of i u (mails (selecting m i)) ≡ 0
      none_left u = ap (state_of i u) (selected-mails i)
          ∙ (state_put i u 0 rested (λ e. refl) (λ e h. refl) (filterb (λ (e : Message). not (expunged e)) (mails m))
          ∙ cond_same (present i u (filterb (λ (e : Message). not (expunged e)) (mails m))) 0)

      all_seen : (u : ℕ) (c : Bool) → present i u (mails (selecting m i)) ≡ c → (c && not (ltb u (the_mailbox i (boxes m)).uidnext)) ≡ false
      all_seen u true h =
          let p : present i u (filterb (λ (e : Message). not (expunged e)) (mails m))
          ≡ true = sym (present-map i u rested (λ e. refl) (filterb (λ (e : Message). not (expunged e)) (mails m))) ∙ (sym (ap (present i u) (selected-mails i)) ∙ h) in
          rw (reached m k i u (present_fewer i u (λ (e : Message). not (expunged e)) (mails m) p))
      all_seen u false h = refl
