-- A mailbox's change counter is the last that it was given, and the highest (02, 1). Assumes nothing.
use Rattle.std.specs.Prelude.{◌≡◌, Bool, not, ℕ, suc, ◌+◌, max, leb, ltb, length, set}
use Rattle.std.proofs.Math.Path.{refl}
use Rattle.std.proofs.Common.{sym, ◌∙◌, ap, subst, arith}
use mathlib.Core.List.{List, [], ◌∷◌, ◌++◌, append-nil}
use Rattle.std.proofs.Math.Bool.{true, false, cond}
use borrow.Author.Tests.{leb-false, lt-ltb, le-ltb, ltb-false, eqb-true, eq-eqb, not-false}
use Rattle.std.proofs.Math.Dec.{eqb}
use Rattle.model.specs.Lists.{keep}
use Rattle.model.specs.Laws.{tf, or_r, filter-append, filter-filter}
use Rattle.model.specs.Records.{Record, create, delete, rename, subscribe, grant, arrive, expunge, reflag, select, ended, command, drained, record_of_none, record_of}
use Rattle.model.specs.Memory.{Memory, boxes, place, known, the_mailbox, counter_of, with_counter, with_name, with_next, with_attributes, with_boxes}
use Rattle.model.specs.Lines.{Line}
use Rattle.model.specs.Queue.{say}
use Rattle.model.specs.View.{expunge_at_once, flags_at_once, flags_wait}
use Rattle.model.specs.Events.{Event, new_box, with_subscribed, with_rights, created, deleted, renamed_to, subscribed_to, granted, arrived, removed, reflagged, in_view, silence}
use Rattle.model.specs.Refusals.{absent, stale, wrong_id, wrong_uid}
use Rattle.model.specs.Rules.{raised, end_lines, accepted}
use Rattle.model.specs.Call.{call}
use Rattle.model.specs.Hidden.{Octets}
use Rattle.model.specs.Seen.{seen, history, final}
use Rattle.model.specs.Counters.{given_by, given, last, highest, CounterHighest}
use Rattle.model.specs.declared.Mailbox.{Mailbox}
use Rattle.demands.specs.Isolation.Erase.{boxes_off, stays_box, known_off, box_off, set-gone, box_id}
use Rattle.demands.specs.Isolation.Alike.{boxes_with}
use Rattle.demands.specs.Isolation.Off.{boxes-say}
use Rattle.demands.specs.Lasting.Clash.{eqb_sym}
use Rattle.demands.specs.Lasting.Rows.{row-set, others}
use Rattle.demands.specs.Lasting.Raised.{counter_halves, raised-known}
use Rattle.demands.specs.Ledger.Each.{of_two}
use Rattle.demands.specs.Counted.Taken.{by_call, by_told, by-answered}

module _ (i : ℕ) where
  -- ---- where the mailbox is known, its row has the last counter of g, and the highest
  abbrev Stands : List ℕ → List Mailbox → Type 0
  Stands g l = known i l ≡ true → (counter_of (the_mailbox i l) ≡ last g) × (counter_of (the_mailbox i l) ≡ highest g)

  -- a row with other fields and the same counter
  same_row : (g : List ℕ) (k l : List Mailbox) → known i l ≡ true → counter_of (the_mailbox i k) ≡ counter_of (the_mailbox i l) → Stands g l → Stands g k
  same_row g k l h e s n = (e ∙ (s h).0, e ∙ (s h).1)

  -- rows that differ at another id j
  module _ (j : ℕ) (other : eqb j i ≡ false) where
    abbrev away : ℕ → Bool
    away o = eqb o j

    off : away i ≡ false
    off = eqb_sym i j ∙ other

    elsewhere : (g : List ℕ) (k l : List Mailbox) → boxes_off away k ≡ boxes_off away l → Stands g l → Stands g k
    elsewhere g k l e s n = same_row g k l
        (sym (known_off away i off l) ∙ (ap (known i) (sym e) ∙ (known_off away i off k ∙ n)))
        (ap counter_of (sym (box_off away i off k) ∙ (ap (the_mailbox i) e ∙ box_off away i off l))) s n

    elsewhere_put : (g : List ℕ) (y : Mailbox) → y.id ≡ j → (l : List Mailbox) → Stands g l → Stands g (set l (place j l) y)
    elsewhere_put g y q l = elsewhere g (set l (place j l) y) l (set-gone away j (eq-eqb j j refl) y (eq-eqb y.id j q) l)

  -- ---- a row is set: with the counter that it had, or with one above it
  kept_own : (g : List ℕ) (y : Mailbox) (l : List Mailbox) → known i l ≡ true → y.id ≡ i → counter_of y ≡ counter_of (the_mailbox i l) → Stands g l → Stands g (set l (place i l) y)
  kept_own g y l h q e = same_row g (set l (place i l) y) l h (ap counter_of (row-set i y q l h) ∙ e)

  kept_row : (g : List ℕ) (j : ℕ) (y : Mailbox) (l : List Mailbox) → known j l ≡ true → y.id ≡ j → counter_of y ≡ counter_of (the_mailbox j l) → Stands g l → Stands g (set l (place j l) y)
  kept_row g j y l h q e s = go (eqb j i) refl
    where
      go : (b : Bool) → eqb j i ≡ b → Stands g (set l (place j l) y)
      go true f = let z : j ≡ i = eqb-true j i f in rw z (kept_own g y l (rw z at h) (q ∙ z) (rw z at e) s)
      go false f = elsewhere_put j f g y q l s

  raised_own : (g : List ℕ) (c : ℕ) (l : List Mailbox) → known i l ≡ true → leb c (counter_of (the_mailbox i l)) ≡ false → Stands g l → Stands (c ∷ g) (set l (place i l) (with_counter (the_mailbox i l) c))
  raised_own g c l h t s n =
      let e : counter_of (the_mailbox i (set l (place i l) (with_counter (the_mailbox i l) c))) ≡ c = ap counter_of (row-set i (with_counter (the_mailbox i l) c) (box_id i l h) l h) ∙ counter_halves c in
      let a = (s h).1 in
      let b = leb-false c (counter_of (the_mailbox i l)) t in
      let d : c ≡ max c (highest g) = omega arith in
      (e, e ∙ d)

  raised_row : (g : List ℕ) (j c : ℕ) (l : List Mailbox) → known j l ≡ true → leb c (counter_of (the_mailbox j l)) ≡ false → Stands g l
      → Stands (cond (eqb j i) (c ∷ g) g) (set l (place j l) (with_counter (the_mailbox j l) c))
  raised_row g j c l h t s = go (eqb j i) refl
    where
      go : (b : Bool) → eqb j i ≡ b → Stands (cond b (c ∷ g) g) (set l (place j l) (with_counter (the_mailbox j l) c))
      go true f = let z : j ≡ i = eqb-true j i f in rw z (raised_own g c l (rw z at h) (rw z at t) s)
      go false f = elsewhere_put j f g (with_counter (the_mailbox j l) c) (box_id j l h) l s

  -- ---- a row more
  last_row : (x : Mailbox) → x.id ≡ i → (l : List Mailbox) → known i l ≡ false → the_mailbox i (l ++ (x ∷ [])) ≡ x
  unfolding place
  last_row x q [] h = rw (eq-eqb x.id i q)
  last_row x q (y ∷ l) h = go (eqb y.id i) refl (last_row x q l)
    where
      go : (c : Bool) → eqb y.id i ≡ c → (known i l ≡ false → the_mailbox i (l ++ (x ∷ [])) ≡ x) → the_mailbox i ((y ∷ l) ++ (x ∷ [])) ≡ x
      go true f ih = tf (known i (y ∷ l)) (rw f (lt-ltb 0 (suc (length l)) (omega arith))) h
      go false f ih = rw f (ih (le-ltb (place i l) (length l) (let z = ltb-false (suc (place i l)) (suc (length l)) (rw f at h) in omega arith)))

  made_own : (x : Mailbox) (c : ℕ) → counter_of x ≡ c → x.id ≡ i → (l : List Mailbox) → known i l ≡ false → Stands (c ∷ []) (l ++ (x ∷ []))
  made_own x c e q l h n =
      let a : counter_of (the_mailbox i (l ++ (x ∷ []))) ≡ c = ap counter_of (last_row x q l h) ∙ e in
      let d : c ≡ max c 0 = omega arith in
      (a, a ∙ d)

  made_row : (g : List ℕ) (j : ℕ) (x : Mailbox) (c : ℕ) → counter_of x ≡ c → x.id ≡ j → (l : List Mailbox) → known j l ≡ false → Stands g l → Stands (cond (eqb j i) (c ∷ []) g) (l ++ (x ∷ []))
  made_row g j x c e q l h s = go (eqb j i) refl
    where
      go : (b : Bool) → eqb j i ≡ b → Stands (cond b (c ∷ []) g) (l ++ (x ∷ []))
      go true f = let z : j ≡ i = eqb-true j i f in made_own x c e (q ∙ z) l (rw z at h)
      go false f = elsewhere j f g (l ++ (x ∷ [])) l
          (filter-append (stays_box (away j f)) l (x ∷ []) ∙ rw (eq-eqb x.id j q) (append-nil (boxes_off (away j f) l))) s

  -- ---- a row less
  none_left : (l : List Mailbox) → known i (others i l) ≡ false
  unfolding place
  none_left [] = refl
  none_left (x ∷ l) = go (eqb x.id i) refl (none_left l)
    where
      go : (c : Bool) → eqb x.id i ≡ c → known i (others i l) ≡ false → known i (keep (not c) x (others i l)) ≡ false
      go true f ih = ih
      go false f ih = rw f (le-ltb (suc (place i (others i l))) (suc (length (others i l))) (let z = ltb-false (place i (others i l)) (length (others i l)) ih in omega arith))

  gone_row : (g : List ℕ) (j : ℕ) (l : List Mailbox) → Stands g l → Stands (cond (eqb j i) [] g) (others j l)
  gone_row g j l s = go (eqb j i) refl
    where
      go : (b : Bool) → eqb j i ≡ b → Stands (cond b [] g) (others j l)
      go true f = λ n. tf (known i (others j l)) n (ap (λ (o : ℕ). known i (others o l)) (eqb-true j i f) ∙ none_left l)
      go false f = elsewhere j f g (others j l) l (filter-filter (stays_box (away j f)) (stays_box (away j f)) l (λ x h. h)) s

  -- ---- memory
  abbrev Has : List ℕ → Memory → Type 0
  Has g m = Stands g (boxes m)

  written : (g : List ℕ) (n : Memory) (ls : List Line) → Has g n → Has g (say n ls)
  written g n ls = subst (Stands g) (sym (boxes-say n ls))

  with_rows : (g : List ℕ) (n : Memory) (l : List Mailbox) → Stands g l → Has g (with_boxes n l)
  with_rows g n l = subst (Stands g) (sym (boxes_with n l))

  -- a row is set, with its counter
  put : (g : List ℕ) (m : Memory) (j : ℕ) (y : Mailbox) → known j (boxes m) ≡ true → y.id ≡ (the_mailbox j (boxes m)).id → counter_of y ≡ counter_of (the_mailbox j (boxes m)) → Has g m
      → (n : Memory) → Has g (with_boxes n (set (boxes m) (place j (boxes m)) y))
  put g m j y h q e s n = with_rows g n (set (boxes m) (place j (boxes m)) y) (kept_row g j y (boxes m) h (q ∙ box_id j (boxes m) h) e s)

  -- a record about a message raises its counter first
  up : (g : List ℕ) (m : Memory) (j c : ℕ) → known j (boxes m) ≡ true → stale m j c ≡ false → Has g m → Has (cond (eqb j i) (c ∷ g) g) (raised m j c)
  up g m j c h t s = with_rows (cond (eqb j i) (c ∷ g) g) m (set (boxes m) (place j (boxes m)) (with_counter (the_mailbox j (boxes m)) c)) (raised_row g j c (boxes m) h t s)

  -- what is stored of it then leaves the rows
  removing : (g : List ℕ) (n : Memory) (j u : ℕ) → Has g n → Has g (removed n j u).stored
  removing g n j u s = of_two (λ (x : Event). Has g x.stored) (in_view n j u) _ _ (of_two (λ (x : Event). Has g x.stored) (expunge_at_once n) _ _ s s) s

  reflagging : (g : List ℕ) (n : Memory) (j u f c : ℕ) → Has g n → Has g (reflagged n j u f c).stored
  reflagging g n j u f c s = of_two (λ (x : Event). Has g x.stored) (in_view n j u) _ _
      (of_two (λ (x : Event). Has g x.stored) (flags_at_once n) _ _ s (of_two (λ (x : Event). Has g x.stored) (flags_wait n) _ _ s s)) s

  -- ---- every kind
  kind : (g : List ℕ) (m : Memory) (r : Record) → wrong_id m r ≡ false → wrong_uid m r ≡ false → Has g m → Has (given_by i g r) (accepted m r).after
  unfolding accepted
  kind g m (create j a q v c n) d e s =
      let p = cond (eqb j i) (c ∷ []) g in
      let l = boxes m ++ (new_box j a v c n ∷ []) in
      let w = made_row g j (new_box j a v c n) c (counter_halves c) refl (boxes m) d s in
      by_told (Has p) (written p) m (λ (k : Memory). created k j a q v c n) (with_rows p m l w) (with_rows p (silence m) l w)
  kind g m (delete j q) d e s =
      let p = cond (eqb j i) [] g in
      let w = gone_row g j (boxes m) s in
      by_told (Has p) (written p) m (λ (k : Memory). deleted k j q) (with_rows p m (others j (boxes m)) w) (with_rows p (silence m) (others j (boxes m)) w)
  kind g m (rename j q n) d e s =
      let w = put g m j (with_name (the_mailbox j (boxes m)) n) (not-false (known j (boxes m)) d) refl refl s in
      by_told (Has g) (written g) m (λ (k : Memory). renamed_to k j q n) (w m) (w (silence m))
  kind g m (subscribe j b q) d e s =
      let w = put g m j (with_attributes (the_mailbox j (boxes m)) (with_subscribed (the_mailbox j (boxes m)).attributes b)) (not-false (known j (boxes m)) d) refl refl s in
      by_told (Has g) (written g) m (λ (k : Memory). subscribed_to k j b q) (w m) (w (silence m))
  kind g m (grant j r) d e s =
      let w = put g m j (with_rights (the_mailbox j (boxes m)) r) (not-false (known j (boxes m)) d) refl refl s in
      by_told (Has g) (written g) m (λ (k : Memory). granted k j r) (w m) (w (silence m))
  kind g m (arrive j u f z c) d e s =
      let h = not-false (known j (boxes m)) d in
      let k = raised m j c in
      let p = cond (eqb j i) (c ∷ g) g in
      let w = put p k j (with_next (the_mailbox j (boxes k)) (u + 1)) (raised-known m j c h) refl refl (up g m j c h (or_r (ltb u (the_mailbox j (boxes m)).uidnext) (stale m j c) e) s) in
      by_told (Has p) (written p) k (λ (n : Memory). arrived n j u f z c) (w k) (w (silence k))
  kind g m (expunge j u c) d e s =
      let k = raised m j c in
      let p = cond (eqb j i) (c ∷ g) g in
      let w = up g m j c (not-false (known j (boxes m)) d) (or_r (absent m j u) (stale m j c) e) s in
      by_told (Has p) (written p) k (λ (n : Memory). removed n j u) (removing p k j u w) (removing p (silence k) j u w)
  kind g m (reflag j u f c) d e s =
      let k = raised m j c in
      let p = cond (eqb j i) (c ∷ g) g in
      let w = up g m j c (not-false (known j (boxes m)) d) (or_r (absent m j u) (stale m j c) e) s in
      by_told (Has p) (written p) k (λ (n : Memory). reflagged n j u f c) (reflagging p k j u f c w) (reflagging p (silence k) j u f c w)
  kind g m (select j) d e s = s
  kind g m (ended c) d e s = written g m (end_lines m c) s
  kind g m (command t) d e s = by-answered (Has g) (written g) m (λ n z h. h) t s
  kind g m (drained n) d e s = s
  kind g m record_of_none d e s = s

  -- ---- a stream
  stream : (g : List ℕ) (m : Memory) → Has g m → (os : List Octets) → Has (given i g (history m os)) (final m os)
  stream g m s [] = s
  stream g m s (o ∷ os) = stream (cond (seen m o).taken (given_by i g (record_of o)) g) (call m o).after
      (by_call (λ (b : Bool). Has (cond b (given_by i g (record_of o)) g)) m o s (λ _ d e. kind g m (record_of o) d e s)) os

pub last-highest : CounterHighest
unfolding place
last-highest m z os i = stream i [] m (λ h. tf false (rw z at h) refl) os
