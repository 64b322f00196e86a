-- What the queue holds: the octets of the lines written, in order, less what was drained; and that its length stays. Assumes nothing.
use Rattle.std.specs.Prelude.{◌≡◌, Bool, not, cond, ℕ, ◌+◌, ◌-◌, ◌≤◌, eqb, leb, ltb, take, drop}
use Rattle.std.proofs.Math.Path.{refl, sym, ap}
use Rattle.std.proofs.Common.{◌∙◌, ap₂, arith}
use mathlib.Core.List.{List, [], ◌∷◌, ◌++◌, append-nil}
use Rattle.std.proofs.Math.Bool.{true, false}
use borrow.Author.Tests.{ltb-false, leb-true, le-leb, eqb-true, not-false}
use Rattle.std.proofs.Math.Dec.{leb-zero}
use Rattle.std.proofs.Math.ListN.{length}
use Rattle.model.specs.Commands.{command_of}
use Rattle.model.specs.Records.{Record, create, delete, rename, subscribe, grant, arrive, expunge, reflag, select, ended, command, drained, record_of_none, is_record, record_of}
use Rattle.model.specs.Memory.{Memory, boxes, filled, held, the_mailbox, change_mails}
use Rattle.model.specs.Lines.{Line, status, list, renamed, exists, expunge as expunge_line, fetch, found, overflow, answer, render, render_all}
use Rattle.model.specs.Queue.{room, fits, enqueue, unmark, shows_flags, effect, effects, say}
use Rattle.model.specs.View.{owed, expunge_at_once, flags_at_once, flags_wait}
use Rattle.model.specs.Events.{Event, created, deleted, renamed_to, subscribed_to, granted, arrived, in_view, removed, reflagged, silence, tellings, settled}
use Rattle.model.specs.Answering.{no_room, is_accepted, reply, answer_lines, with_asked, answered}
use Rattle.model.specs.Answers.{number_of}
use Rattle.model.specs.Lawful.{lawful}
use Rattle.model.specs.Refusals.{wrong_id, name_held, absent, stale, wrong_uid, wrong_state, table_full}
use Rattle.model.specs.Rules.{Outcome, end_lines, raised, event_outcome, accepted}
use Rattle.model.specs.Call.{call, refuse, roomless}
use Rattle.model.specs.Hidden.{Octets}
use Rattle.model.specs.Laws.{tf, and_r, or_r}
use Rattle.demands.specs.Lasting.Law.{Law, inside, big}
use Rattle.demands.specs.Lasting.Ranges.{InRange, in_range_lem}
use Rattle.demands.specs.Lasting.Spoken.{fitting-fits}
use Rattle.demands.specs.Lasting.Kinds.{raised_law}
use Rattle.demands.specs.Lasting.Unasked.{created_none, deleted_none, renamed_none, subscribed_none, granted_none, arrived_none, removed_none, reflagged_none}
use Rattle.demands.specs.Isolation.Alike.{held-written, held-shifted, length-written, length-shifted}
use Rattle.model.specs.declared.Refusal.{Refusal}
use Rattle.model.specs.declared.Refusal.TheVariants.{UnlawfulMemory, BadRecord, WrongId, NameHeld, WrongUid, WrongState, TableFull, NoRoom}
use Rattle.model.specs.Fates.{drained_by}
use Rattle.model.specs.Seen.{held_by}
use Rattle.demands.specs.Ledger.Each.{of_two}
use Rattle.demands.specs.Counted.Taken.{Unrefused}

-- ---- F and the queue are as they were
record Untouched (m n : Memory) : Type 0 where
  fill : filled n ≡ filled m
  queue : n.queue ≡ m.queue

same_held : (m n : Memory) → Untouched m n → held n ≡ held m
same_held m n u = ap₂ (λ (f : ℕ) (q : List ℕ). take f q) u.fill u.queue

-- after what lines end
untouched_line : (m : Memory) (l : Line) → Untouched m (effect m l)
untouched_line m (exists n) = record { fill = refl; queue = refl }
untouched_line m (expunge_line n u) = record { fill = refl; queue = refl }
untouched_line m (fetch n u is) = go (shows_flags is)
  where
    go : (c : Bool) → Untouched m (cond c (change_mails m (unmark m.session.selected u.0)) m)
    go true = record { fill = refl; queue = refl }
    go false = record { fill = refl; queue = refl }
untouched_line m (status n is) = record { fill = refl; queue = refl }
untouched_line m (list k n) = record { fill = refl; queue = refl }
untouched_line m (renamed k new old) = record { fill = refl; queue = refl }
untouched_line m (found t n v rs) = record { fill = refl; queue = refl }
untouched_line m overflow = record { fill = refl; queue = refl }
untouched_line m (answer t v r) = record { fill = refl; queue = refl }

untouched-lines : (m : Memory) (ls : List Line) → Untouched m (effects m ls)
unfolding effects
untouched-lines m [] = record { fill = refl; queue = refl }
untouched-lines m (l ∷ ls) =
    let u = untouched-lines (effect m l) ls in
    let v = untouched_line m l in
    record { fill = u.fill ∙ v.fill; queue = u.queue ∙ v.queue }

-- after an expunge, and after a change of flags
abbrev Stays : Memory → Event → Type 0
Stays x e = Untouched x e.stored

untouched-removed : (x : Memory) (i u : ℕ) → Stays x (removed x i u)
untouched-removed x i u = of_two (Stays x) (in_view x i u) _ _
    (of_two (Stays x) (expunge_at_once x) _ _ (record { fill = refl; queue = refl }) (record { fill = refl; queue = refl }))
    (record { fill = refl; queue = refl })

untouched-reflagged : (x : Memory) (i u g c : ℕ) → Stays x (reflagged x i u g c)
untouched-reflagged x i u g c = of_two (Stays x) (in_view x i u) _ _
    (of_two (Stays x) (flags_at_once x) _ _ (record { fill = refl; queue = refl })
    (of_two (Stays x) (flags_wait x) _ _ (record { fill = refl; queue = refl }) (record { fill = refl; queue = refl })))
    (record { fill = refl; queue = refl })

-- ---- lines are written
held-say : (m : Memory) (ls : List Line) → held (say m ls) ≡ held m ++ render_all ls
held-say m ls = same_held (enqueue m (render_all ls)) (say m ls) (untouched-lines (enqueue m (render_all ls)) ls) ∙ held-written m.queue (filled m) (render_all ls)

length-say : (m : Memory) (ls : List Line) → filled m + length (render_all ls) ≤ length m.queue → length (say m ls).queue ≡ length m.queue
length-say m ls h = ap length (untouched-lines (enqueue m (render_all ls)) ls).queue ∙ (let w = length-written m.queue (filled m) (render_all ls) in omega arith)

-- lines that fit lie inside the queue
fits_inside : (m : Memory) → Law m → (ls : List Line) → fits m ls ≡ true → filled m + length (render_all ls) ≤ length m.queue
fits_inside m k ls h =
    let a = leb-true (length (render_all ls)) (room m) h in
    let i = inside m k in
    omega arith

-- so does the overflow line, where a group stands
overflow_short : length (render_all (overflow ∷ [])) ≡ 37
unfolding render_all render
overflow_short = refl

overflow_inside : (m : Memory) → Law m → eqb m.session.groupcount 0 ≡ false → filled m + length (render_all (overflow ∷ [])) ≤ length m.queue
overflow_inside m k z =
    let b = big m k in
    let w = overflow_short in
    let f = leb-true (filled m) (length m.queue - 64) (rw z at (and_r (leb (filled m) (length m.queue)) _ k.fill)) in
    omega arith

-- ---- an event is told
module _ (m : Memory) (event : Memory → Event) (same : (x : Memory) → Untouched x (event x).stored) where
  told_held : held (event_outcome m event).after ≡ held m ++ render_all (event_outcome m event).lines
  unfolding tellings settled
  told_held = go (fits m (event m).lines)
    where
      go : (c : Bool) → held (say (cond c (event m).stored (event (silence m)).stored) (cond c (event m).lines (overflow ∷ []))) ≡ held m ++ render_all (cond c (event m).lines (overflow ∷ []))
      go true = held-say (event m).stored (event m).lines ∙ ap (λ (q : List ℕ). q ++ render_all (event m).lines) (same_held m (event m).stored (same m))
      go false = held-say (event (silence m)).stored (overflow ∷ []) ∙ ap (λ (q : List ℕ). q ++ render_all (overflow ∷ [])) (same_held (silence m) (event (silence m)).stored (same (silence m)))

  told-length : Law m → (m.session.groupcount ≡ 0 → (event m).lines ≡ []) → length (event_outcome m event).after.queue ≡ length m.queue
  unfolding tellings settled render_all
  told-length k none = go (fits m (event m).lines) refl
    where
      within : (x n : Memory) → Untouched x n → (ls : List Line) → filled x + length (render_all ls) ≤ length x.queue → length (say n ls).queue ≡ length x.queue
      within x n u ls h = length-say n ls (rw (u.fill, u.queue) h) ∙ ap length u.queue

      stands : fits m (event m).lines ≡ false → (c : Bool) → eqb m.session.groupcount 0 ≡ c → c ≡ false
      stands h true z = tf (fits m (event m).lines) (rw (none (eqb-true m.session.groupcount 0 z)) (leb-zero (room m))) h
      stands h false z = refl

      go : (c : Bool) → fits m (event m).lines ≡ c → length (say (cond c (event m).stored (event (silence m)).stored) (cond c (event m).lines (overflow ∷ []))).queue ≡ length m.queue
      go true h = within m (event m).stored (same m) (event m).lines (fits_inside m k (event m).lines h)
      go false h = within (silence m) (event (silence m)).stored (same (silence m)) (overflow ∷ []) (overflow_inside m k (stands h (eqb m.session.groupcount 0) refl))

-- ---- every kind
pub record Queued (m n : Memory) (r : Record) (ls : List Line) : Type 0 where
  pub octets : held n ≡ held_by (held m) r ls
  pub wide : length n.queue ≡ length m.queue

told : (m : Memory) → Law m → (event : Memory → Event) → ((x : Memory) → Untouched x (event x).stored) → (m.session.groupcount ≡ 0 → (event m).lines ≡ [])
    → {r : Record} → drained_by r ≡ 0 → Queued m (event_outcome m event).after r (event_outcome m event).lines
told m k event same none {r} z = record { octets = rw z (told_held m event same); wide = told-length m event same k none }

module _ (m : Memory) (k : Law m) where
  command_queued : (t : List ℕ) → no_room m t ≡ false → Queued m (answered m t) (command t) (answer_lines m t)
  unfolding answered
  command_queued t h = go (is_accepted (reply m t))
    where
      wide' : length (say m (answer_lines m t)).queue ≡ length m.queue
      wide' = length-say m (answer_lines m t) (fits_inside m k (answer_lines m t) (not-false (fits m (answer_lines m t)) h))

      go : (c : Bool) → Queued m (cond c (with_asked (say m (answer_lines m t)) (command_of t)) (say m (answer_lines m t))) (command t) (answer_lines m t)
      go true = record { octets = held-say m (answer_lines m t); wide = wide' }
      go false = record { octets = held-say m (answer_lines m t); wide = wide' }

  -- queue, F and session are those of the memory with the raised row
  lift : (i c : ℕ) {n : Memory} {r : Record} {ls : List Line} → Queued (raised m i c) n r ls → Queued m n r ls
  lift i c q = record { octets = q.octets; wide = q.wide }

  kind_queued : (r : Record) → InRange r → wrong_id m r ≡ false → wrong_uid m r ≡ false → wrong_state m r ≡ false → roomless m r ≡ false → Queued m (accepted m r).after r (accepted m r).lines
  unfolding accepted render_all
  kind_queued (create i a q v c n) o d e f g = told m k (λ (x : Memory). created x i a q v c n) (λ x. record { fill = refl; queue = refl }) (λ z. created_none m z i a q v c n) refl
  kind_queued (delete i q) o d e f g = told m k (λ (x : Memory). deleted x i q) (λ x. record { fill = refl; queue = refl }) (λ z. deleted_none m z i q) refl
  kind_queued (rename i q n) o d e f g = told m k (λ (x : Memory). renamed_to x i q n) (λ x. record { fill = refl; queue = refl }) (λ z. renamed_none m z i q n) refl
  kind_queued (subscribe i b q) o d e f g = told m k (λ (x : Memory). subscribed_to x i b q) (λ x. record { fill = refl; queue = refl }) (λ z. subscribed_none m z i b q) refl
  kind_queued (grant i r) o d e f g = told m k (λ (x : Memory). granted x i r) (λ x. record { fill = refl; queue = refl }) (λ z. granted_none m z i r) refl
  kind_queued (arrive i u c z h) o d e f g =
      let l : Law (raised m i h) = raised_law m k i (not-false _ d) h o.3 (or_r (ltb u (the_mailbox i (boxes m)).uidnext) (stale m i h) e) in
      lift i h (told (raised m i h) l (λ (x : Memory). arrived x i u c z h) (λ x. record { fill = refl; queue = refl }) (λ w. arrived_none (raised m i h) w i u c z h) refl)
  kind_queued (expunge i u h) o d e f g =
      let l : Law (raised m i h) = raised_law m k i (not-false _ d) h o (or_r (absent m i u) (stale m i h) e) in
      lift i h (told (raised m i h) l (λ (x : Memory). removed x i u) (λ x. untouched-removed x i u) (λ z. removed_none (raised m i h) z i u) refl)
  kind_queued (reflag i u c h) o d e f g =
      let l : Law (raised m i h) = raised_law m k i (not-false _ d) h o.1 (or_r (absent m i u) (stale m i h) e) in
      lift i h (told (raised m i h) l (λ (x : Memory). reflagged x i u c h) (λ x. untouched-reflagged x i u c h) (λ z. reflagged_none (raised m i h) z i u c h) refl)
  kind_queued (select i) o d e f g = record { octets = sym (append-nil (held m)); wide = refl }
  kind_queued (ended c) o d e f g = record {
    octets = held-say m (end_lines m c);
    wide = length-say m (end_lines m c) (fits_inside m k (end_lines m c) (le-leb (length (render_all (end_lines m c))) (room m) (fitting-fits (room m) (owed m c))));
  }
  kind_queued (command t) o d e f g = command_queued t g
  kind_queued (drained n) o d e f g =
      let p = ltb-false _ _ f in
      record {
        octets = held-shifted m.queue (filled m) n (inside m k) p ∙ sym (append-nil (drop n (held m)));
        wide = length-shifted m.queue (filled m) n (inside m k) p;
      }
  kind_queued record_of_none o d e f g = record { octets = sym (append-nil (held m)); wide = refl }

-- ---- a call
pub record Sent (m : Memory) (o : Octets) (x : Outcome) : Type 0 where
  pub octets : held x.after ≡ cond (eqb (number_of x.answer) 0) (held_by (held m) (record_of o) x.lines) (held m)
  pub wide : length x.after.queue ≡ length m.queue

module _ (m : Memory) (k : Law m) (o : Octets) where
  rung : (c : Bool) (x y : Outcome) → Sent m o x → (c ≡ false → Sent m o y) → Sent m o (cond c x y)
  rung true x y l r = l
  rung false x y l r = r refl

  taken_sent : Queued m (accepted m (record_of o)).after (record_of o) (accepted m (record_of o)).lines → Sent m o (accepted m (record_of o))
  taken_sent q = record { octets = rw (Unrefused m (record_of o)) q.octets; wide = q.wide }

  refused_sent : (r : Refusal) → eqb (number_of (refuse m r).answer) 0 ≡ false → Sent m o (refuse m r)
  refused_sent r h = record { octets = rw h; wide = refl }

  pub call_sent : Sent m o (call m o)
  unfolding call
  call_sent =
      rung (not (lawful m)) _ _ (refused_sent UnlawfulMemory refl) λ _.
      rung (not (is_record o)) _ _ (refused_sent BadRecord refl) λ r.
      rung (wrong_id m (record_of o)) _ _ (refused_sent WrongId refl) λ d.
      rung (name_held m (record_of o)) _ _ (refused_sent NameHeld refl) λ _.
      rung (wrong_uid m (record_of o)) _ _ (refused_sent WrongUid refl) λ e.
      rung (wrong_state m (record_of o)) _ _ (refused_sent WrongState refl) λ f.
      rung (table_full m (record_of o)) _ _ (refused_sent TableFull refl) λ _.
      rung (roomless m (record_of o)) _ _ (refused_sent NoRoom refl) λ g. taken_sent (kind_queued m k (record_of o) (in_range_lem o (not-false (is_record o) r)) d e f g)
