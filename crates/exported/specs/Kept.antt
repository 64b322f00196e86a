-- A call leaves as many rows as there were: they are the host's. Assumes nothing.
use Rattle.std.specs.Prelude.{◌≡◌, refl, List, [], ◌∷◌, ◌++◌, Bool, true, false, not, cond, ℕ, ◌<◌, eqb, length, set}
use Rattle.std.proofs.Common.{◌∙◌, arith, length-set, length-append, leb-false}
use Rattle.model.specs.Lists.{filterb}
use Rattle.model.specs.Laws.{filter-length}
use Rattle.model.specs.Records.{Record, create, delete, rename, subscribe, grant, arrive, expunge, reflag, select, ended, command, drained, record_of_none, is_record, record_of}
use Rattle.model.specs.Memory.{Memory, boxes, place, put_box, add_box, drop_box}
use Rattle.model.specs.Lawful.{lawful}
use Rattle.model.specs.Lines.{Line, status, list, renamed, exists, expunge, fetch, found, overflow, answer, render_all}
use Rattle.model.specs.Queue.{effect, effects, enqueue, say, fits, shows_flags}
use Rattle.model.specs.Events.{Event, created, deleted, renamed_to, subscribed_to, granted, arrived, removed, reflagged, in_view, silence, settled, tellings}
use Rattle.model.specs.View.{expunge_at_once, flags_at_once, flags_wait}
use Rattle.model.specs.Answering.{answered, reply, is_accepted, answer_lines}
use Rattle.model.specs.Refusals.{wrong_id, name_held, wrong_uid, wrong_state, table_full}
use Rattle.model.specs.Rules.{Outcome, accepted, raised, event_outcome, end_lines}
use Rattle.model.specs.Call.{call, roomless, refuse}
use Rattle.model.specs.declared.Mailbox.{Mailbox}
use Rattle.model.specs.declared.Refusal.{Refusal}
use Rattle.demands.specs.Isolation.Alike.{boxes_fit, rows_with}

-- as many rows as m has
abbrev AsMany : Memory → Memory → Type 0
AsMany m n = length n.rows ≡ length m.rows

-- one or the other
either : (m : Memory) (b : Bool) (x y : Memory) → AsMany m x → AsMany m y → AsMany m (cond b x y)
either m true x y p q = p
either m false x y p q = q

either-event : (m : Memory) (b : Bool) (x y : Event) → AsMany m x.stored → AsMany m y.stored → AsMany m (cond b x y).stored
either-event m true x y p q = p
either-event m false x y p q = q

-- ---- the writing of lines changes no row
effect-rows : (m : Memory) (l : Line) → AsMany m (effect m l)
effect-rows m (exists n) = refl
effect-rows m (expunge n u) = refl
effect-rows m (fetch n u is) = either m (shows_flags is) _ _ refl refl
effect-rows m (status n is) = refl
effect-rows m (list k n) = refl
effect-rows m (renamed k new old) = refl
effect-rows m (found t n v rs) = refl
effect-rows m overflow = refl
effect-rows m (answer t v r) = refl

effects-rows : (m : Memory) (ls : List Line) → AsMany m (effects m ls)
unfolding effects
effects-rows m [] = refl
effects-rows m (l ∷ ls) = effects-rows (effect m l) ls ∙ effect-rows m l

say-rows : (m : Memory) (ls : List Line) → AsMany m (say m ls)
say-rows m ls = effects-rows (enqueue m (render_all ls)) ls

-- ---- the mailboxes become others, no more than there are rows
put-rows : (m : Memory) (i : ℕ) (x : Mailbox) → AsMany m (put_box m i x)
put-rows m i x = let a = length-set (boxes m) (place i (boxes m)) x in let b = boxes_fit m in rows_with m (set (boxes m) (place i (boxes m)) x) (omega arith)

add-rows : (m : Memory) (x : Mailbox) → length (boxes m) < length m.rows → AsMany m (add_box m x)
add-rows m x h = let a = length-append (boxes m) (x ∷ []) in rows_with m (boxes m ++ (x ∷ [])) (omega arith)

drop-rows : (m : Memory) (i : ℕ) → AsMany m (drop_box m i)
drop-rows m i =
    let a = filter-length (λ (x : Mailbox). not (eqb x.id i)) (boxes m) in
    let b = boxes_fit m in rows_with m (filterb (λ (x : Mailbox). not (eqb x.id i)) (boxes m)) (omega arith)

-- ---- an event, told or with the overflow line
told-rows : (m : Memory) (event : Memory → Event) → AsMany m (event m).stored → AsMany m (event (silence m)).stored → AsMany m (event_outcome m event).after
unfolding settled
told-rows m event p q = say-rows (settled m event) (tellings m event) ∙ either m (fits m (event m).lines) _ _ p q

-- an event of a mailbox that has the record's counter by then
raised-rows : (m : Memory) (i c : ℕ) (event : Memory → Event) → AsMany (raised m i c) (event (raised m i c)).stored → AsMany (raised m i c) (event (silence (raised m i c))).stored → AsMany m (event_outcome (raised m i c) event).after
raised-rows m i c event p q = told-rows (raised m i c) event p q ∙ put-rows m i _

removed-rows : (m : Memory) (i u : ℕ) → AsMany m (removed m i u).stored
removed-rows m i u = either-event m (in_view m i u) _ _ (either-event m (expunge_at_once m) _ _ refl refl) refl

reflagged-rows : (m : Memory) (i u f c : ℕ) → AsMany m (reflagged m i u f c).stored
reflagged-rows m i u f c = either-event m (in_view m i u) _ _ (either-event m (flags_at_once m) _ _ refl (either-event m (flags_wait m) _ _ refl refl)) refl

answered-rows : (m : Memory) (t : List ℕ) → AsMany m (answered m t)
unfolding answered
answered-rows m t = either m (is_accepted (reply m t)) _ _ (say-rows m (answer_lines m t)) (say-rows m (answer_lines m t))

accepted-rows : (m : Memory) (r : Record) → table_full m r ≡ false → AsMany m (accepted m r).after
unfolding accepted
accepted-rows m (create i a q v c n) h =
    let free = leb-false (length m.rows) (length (boxes m)) h in told-rows m (λ (k : Memory). created k i a q v c n) (add-rows m _ free) (add-rows (silence m) _ free)
accepted-rows m (delete i q) h = told-rows m (λ (k : Memory). deleted k i q) (drop-rows m i) (drop-rows (silence m) i)
accepted-rows m (rename i q n) h = told-rows m (λ (k : Memory). renamed_to k i q n) (put-rows m i _) (put-rows (silence m) i _)
accepted-rows m (subscribe i s q) h = told-rows m (λ (k : Memory). subscribed_to k i s q) (put-rows m i _) (put-rows (silence m) i _)
accepted-rows m (grant i r) h = told-rows m (λ (k : Memory). granted k i r) (put-rows m i _) (put-rows (silence m) i _)
accepted-rows m (arrive i u f z c) h = raised-rows m i c (λ (k : Memory). arrived k i u f z c) (put-rows (raised m i c) i _) (put-rows (silence (raised m i c)) i _)
accepted-rows m (expunge i u c) h = raised-rows m i c (λ (k : Memory). removed k i u) (removed-rows (raised m i c) i u) (removed-rows (silence (raised m i c)) i u)
accepted-rows m (reflag i u f c) h = raised-rows m i c (λ (k : Memory). reflagged k i u f c) (reflagged-rows (raised m i c) i u f c) (reflagged-rows (silence (raised m i c)) i u f c)
accepted-rows m (select i) h = refl
accepted-rows m (ended c) h = say-rows m (end_lines m c)
accepted-rows m (command t) h = answered-rows m t
accepted-rows m (drained n) h = refl
accepted-rows m record_of_none h = refl

-- ---- a call
module _ (m : Memory) where
  rung : (b : Bool) (r : Refusal) (y : Outcome) → (b ≡ false → AsMany m y.after) → AsMany m (cond b (refuse m r) y).after
  rung true r y f = refl
  rung false r y f = f refl

  pub call_rows : (o : List ℕ) → AsMany m (call m o).after
  unfolding call
  call_rows o =
      rung (not (lawful m)) _ _ λ _.
      rung (not (is_record o)) _ _ λ _.
      rung (wrong_id m (record_of o)) _ _ λ _.
      rung (name_held m (record_of o)) _ _ λ _.
      rung (wrong_uid m (record_of o)) _ _ λ _.
      rung (wrong_state m (record_of o)) _ _ λ _.
      rung (table_full m (record_of o)) _ _ λ h.
      rung (roomless m (record_of o)) _ _ λ _. accepted-rows m (record_of o) h
