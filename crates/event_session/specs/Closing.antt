-- `CE`: what the code leaves is the memory that the rule gives. Assumes nothing.
use Rattle.std.specs.Prelude.{◌≡◌, Bool, ◌&&◌, ◌||◌, eqb, leb, ltb, take, get_or}
use Rattle.std.proofs.Math.Path.{refl, ap}
use Rattle.std.proofs.Common.{ap₂, sym, ◌∙◌, arith, eqb-true, leb-true, le-ltb}
use Rattle.std.proofs.Math.Bool.{true, false, not, cond}
use mathlib.Core.List.{List, [], ◌∷◌, ◌++◌, map, append_assoc}
use Prim.Native.Nat.{ℕ, zero, suc, ◌+◌, ◌-◌, ◌<◌, ◌≤◌, ◌/◌, ◌%◌, min}
use Rattle.std.proofs.Math.ListN.{length}
use Rattle.model.specs.Lists.{filterb, keep, anyb, allb}
use Rattle.model.specs.Laws.{tf, and_l, and_r, and_false, each, filter-within, all_filtered, all-sorted}
use Rattle.model.specs.Text.{bit}
use Rattle.model.specs.Memory.{Memory, boxes, mails, filled, the_mailbox, selected_box, both_rights, no_message, uid_of, is_message, in_mailbox, by_uid, messages_of, expunged, marked, with_states, with_view, refill}
use Rattle.model.specs.Lines.{Line, render_all}
use Rattle.model.specs.Queue.{room, fitting, written, enqueue, effects, say}
use Rattle.model.specs.View.{expunge_lines, marked_lines, exists_line, owed}
use Rattle.model.specs.Rules.{accepted}
use Rattle.model.specs.Records.{ended}
use Rattle.model.specs.Lawful.{state_ok, message_ok, counter_ok}
use Rattle.demands.specs.Lasting.Law.{Law}
use Rattle.demands.specs.Lasting.Owing.{fitting-take}
use Rattle.model.specs.declared.Message.{Message}
use Rattle.model.specs.declared.Session.{Session}
use Rattle.model.specs.Rendered.{effects-append}
use Rattle.laws.specs.Changing.{used_long}
use Rattle.laws.specs.Telling.{say_none}
use Rattle.laws.specs.Fitting.{size}
use Rattle.table_sweep.specs.Swept.{kept, goes, calm as calm_to}
use Rattle.event_session.specs.After.{told_to}
use Rattle.event_session.specs.After.{left}
use Rattle.event_view.specs.Speaking.{first, second, third}
use Rattle.event_session.specs.Ending.{end_after}
use Rattle.event_session.specs.Sunk.{top_of}
use Rattle.order_messages.specs.Counts.{stays}
use Rattle.event_view.specs.Saying.{State}
use Rattle.event_session.specs.Runs.{seen, view_of, stayers, uids, zeros}
use Rattle.event_session.specs.Cut.{stands}
use Rattle.event_session.specs.Effects.{fit-min, take_split, take_min, drop_each, clear_all, drop_all, clear_all_lem, calm, drop-length, over, over_self, eff_E, eff_M, eff_X}
use Rattle.event_session.specs.Accepted.{part_a, us_a, fresher, part_b, part_c, sunk_a, sunk_b, sunk_c, owed_is, fits_in}

-- ---- what the first N of the lines end
module _ (k : Memory) (n : length (mails k) ≡ k.counts.messages) (v f w : List Message) (j : ℕ) where
  abbrev s : Session
  s = k.session

  abbrev next : ℕ
  next = (the_mailbox k.session.selected (boxes k)).uidnext

  first_end : (c : Bool) (N : ℕ) → effects (over k (mails k) k.session) (take N (cond c (expunge_lines 1 v) [])) ≡ over k (drop_each k.session.selected (take N (cond c (uids (filterb expunged v)) [])) (mails k)) k.session
  unfolding effects drop_each
  first_end true N = eff_E k N 1 v (mails k) k.session (omega arith)
  first_end false zero = refl
  first_end false (suc N) = refl

  last_end : (M : ℕ) (l : List Message) → length l ≤ length (mails k) → (b : Bool)
      → effects (over k l (cond b (with_view k.session k.session.selected next) k.session)) (take M (marked_lines 1 w)) ≡ over k
      (clear_all k.session.selected (take M (uids (filterb marked w))) l) (cond b (with_view k.session k.session.selected next) k.session)
  last_end M l h true = eff_M k M 1 w l (with_view k.session k.session.selected next) h
  last_end M l h false = eff_M k M 1 w l k.session h

  pub parts_end : (c : Bool) (N : ℕ)
      → effects k (take N ((cond c (expunge_lines 1 v) [] ++ exists_line j f) ++ marked_lines 1 w))
      ≡ over k (clear_all k.session.selected (take (N - length (cond c (expunge_lines 1 v) [] ++ exists_line j f)) (uids (filterb marked w))) (drop_each k.session.selected (take N (cond c (uids (filterb expunged v)) [])) (mails k)))
      (cond (eqb (top_of 0 (take (N - length (cond c (expunge_lines 1 v) [])) (zeros f))) 1) (with_view k.session k.session.selected next) k.session)
  parts_end c N =
      let A : List Line = cond c (expunge_lines 1 v) [] in
      let B : List Line = exists_line j f in
      let C : List Line = marked_lines 1 w in
      let l : List Message = drop_each k.session.selected (take N (cond c (uids (filterb expunged v)) [])) (mails k) in
      ap (effects k) (take_split N (A ++ B) C ∙ ap (λ (t : List Line). t ++ take (N - length (A ++ B)) C) (take_split N A B))
      ∙ (effects-append k (take N A ++ take (N - length A) B) (take (N - length (A ++ B)) C)
      ∙ (ap (λ (x : Memory). effects x (take (N - length (A ++ B)) C))
      (effects-append k (take N A) (take (N - length A) B)
      ∙ (ap (λ (x : Memory). effects x (take (N - length A) B)) (ap (λ (x : Memory). effects x (take N A)) (sym (over_self k n)) ∙ first_end c N)
      ∙ eff_X k (N - length A) j f l k.session))
      ∙ last_end (N - length (A ++ B)) l (drop-length k.session.selected (take N (cond c (uids (filterb expunged v)) [])) (mails k)) (eqb (top_of 0 (take (N - length A) (zeros f))) 1)))

-- ---- pointwise
both_ext : (f g : Message → Bool) (a b : Message → Message) (l : List Message) → ((i : ℕ) → i < length l → (f (get_or l i no_message) ≡ g (get_or l i no_message)) × (a (get_or l i no_message) ≡ b (get_or l i no_message))) → map a (filterb f l) ≡ map b (filterb g l)
both_ext f g a b [] h = refl
both_ext f g a b (x ∷ l) h = ap (λ (c : Bool). map a (keep c x (filterb f l))) (h 0 (omega arith)).0 ∙ go (g x) (both_ext f g a b l (λ i k. h (suc i) (omega arith)))
  where
    go : (c : Bool) → map a (filterb f l) ≡ map b (filterb g l) → map a (keep c x (filterb f l)) ≡ map b (keep c x (filterb g l))
    go true ih = ap₂ ◌∷◌ (h 0 (omega arith)).1 ih
    go false ih = ih

all_at : (p : Message → Bool) (l : List Message) (k : ℕ) → allb p l ≡ true → k < length l → p (get_or l k no_message) ≡ true
all_at p [] k a h = absurd (let z : ⊥ = omega arith in z)
all_at p (x ∷ l) zero a h = and_l (p x) _ a
all_at p (x ∷ l) (suc k) a h = all_at p l k (and_r (p x) _ a) (omega arith)

all_imply : (p q : Message → Bool) → ((x : Message) → p x ≡ true → q x ≡ true) → (l : List Message) → allb p l ≡ true → allb q l ≡ true
all_imply p q f [] a = refl
all_imply p q f (x ∷ l) a = rw (f x (and_l (p x) _ a)) (all_imply p q f l (and_r (p x) _ a))

waits : (s : Session) (p : Message → Bool) (x : Message) → state_ok s x ≡ true → (x.states ≡ 0 → p x ≡ false) → p x ≡ true → (in_mailbox s.selected x ≡ true) × (seen s.told x ≡ true)
waits s p x q z h = go (eqb x.states 0) refl q
  where
    go : (b : Bool) → eqb x.states 0 ≡ b → (b || (in_mailbox s.selected x && ltb (uid_of x) s.told)) ≡ true → (in_mailbox s.selected x ≡ true) × (seen s.told x ≡ true)
    go true e q = tf (p x) h (z (eqb-true x.states 0 e))
    go false e q = (and_l (in_mailbox s.selected x) _ q, and_r (in_mailbox s.selected x) _ q)

not_both : (x : Message) → message_ok x ≡ true → (not (marked x) || not (expunged x)) ≡ true
not_both x h = go (marked x) refl (expunged x) refl
  where
    go : (a : Bool) → marked x ≡ a → (b : Bool) → expunged x ≡ b → (not a || not b) ≡ true
    go true e true f =
        let u = leb-true x.states 2 (each (leb 1 (uid_of x) ∷ leb x.flags 31 ∷ leb x.size 4294967295 ∷ leb x.states 2 ∷ counter_ok x.counter ∷ []) h).1.1.1.0 in
        let v = eqb-true (x.states / 2 % 2) 1 e in
        let w = eqb-true (x.states % 2) 1 f in
        absurd (let z : ⊥ = omega arith in z)
    go true e false f = refl
    go false e b f = refl

nobody : (g : ℕ → Bool) (p i : Bool) (u N : ℕ) → anyb g (take N []) ≡ (p && (i && ltb u (top_of 0 (take N []))))
unfolding top_of
nobody g p i u zero = sym (ap (λ (b : Bool). p && (i && b)) (le-ltb u 0 (omega arith)) ∙ (ap (λ (b : Bool). p && b) (and_false i) ∙ and_false p))
nobody g p i u (suc N) = sym (ap (λ (b : Bool). p && (i && b)) (le-ltb u 0 (omega arith)) ∙ (ap (λ (b : Bool). p && b) (and_false i) ∙ and_false p))

module _ (m : Memory) (law : Law m) where
  abbrev id : ℕ
  id = m.session.selected

  abbrev vw : List Message
  vw = view_of m.session.told (messages_of m.session.selected (mails m))

  marked_same : (c : Bool) → filterb marked (stayers c vw) ≡ filterb marked vw
  marked_same true = filter-within marked (λ (e : Message). not (expunged e)) vw
      (all_filtered (λ (x : Message). not (marked x) || not (expunged x)) (seen m.session.told) (messages_of id (mails m))
      (all-sorted (λ (x : Message). not (marked x) || not (expunged x)) by_uid (filterb (in_mailbox id) (mails m))
      (all_filtered (λ (x : Message). not (marked x) || not (expunged x)) (in_mailbox id) (mails m)
      (all_imply message_ok (λ (x : Message). not (marked x) || not (expunged x)) not_both (mails m) law.mail))))
  marked_same false = refl

  gone_is : (c : Bool) (N i : ℕ) → i < length (mails m)
      → anyb (λ (u : ℕ). is_message id u (get_or (mails m) i no_message))
      (take N (cond c (uids (filterb expunged vw)) [])) ≡ (expunged
      (get_or (mails m) i no_message) && (in_mailbox id (get_or (mails m) i no_message) && ltb (uid_of (get_or (mails m) i no_message))
      (top_of 0 (take N (cond c (uids (filterb expunged vw)) [])))))
  gone_is true N i h = stands id m.session.told expunged (mails m) i N law.twins h (waits m.session expunged (get_or (mails m) i no_message) (all_at (state_ok m.session) (mails m) i law.states h) (λ e. ap (bit 0) e))
  gone_is false N i h = nobody (λ (u : ℕ). is_message id u (get_or (mails m) i no_message)) (expunged (get_or (mails m) i no_message)) (in_mailbox id (get_or (mails m) i no_message)) (uid_of (get_or (mails m) i no_message)) N

  shown_is : (N i : ℕ) → i < length (mails m) → anyb (λ (u : ℕ). is_message id u (get_or (mails m) i no_message)) (take N (uids (filterb marked vw))) ≡ (marked (get_or (mails m) i no_message) && (in_mailbox id (get_or (mails m) i no_message) && ltb (uid_of (get_or (mails m) i no_message)) (top_of 0 (take N (uids (filterb marked vw))))))
  shown_is N i h = stands id m.session.told marked (mails m) i N law.twins h (waits m.session marked (get_or (mails m) i no_message) (all_at (state_ok m.session) (mails m) i law.states h) (λ e. ap (bit 1) e))

  pub kept_is : (c : Bool) (N M : ℕ) → clear_all id (take M (uids (filterb marked (stayers c vw)))) (drop_each id (take N (cond c (uids (filterb expunged vw)) [])) (mails m)) ≡ kept (told_to id (top_of 0 (take N (cond c (uids (filterb expunged vw)) []))) (top_of 0 (take M (uids (filterb marked (stayers c vw)))))) (mails m)
  unfolding kept
  kept_is c N M =
      rw (marked_same c)
      (ap (clear_all id (take M (uids (filterb marked vw)))) (drop_all id (take N (cond c (uids (filterb expunged vw)) [])) (mails m))
      ∙ (clear_all_lem id (take M (uids (filterb marked vw))) (filterb (λ (e : Message). not (anyb (λ (u : ℕ). is_message id u e) (take N (cond c (uids (filterb expunged vw)) [])))) (mails m))
      ∙ both_ext (λ (e : Message). not (anyb (λ (u : ℕ). is_message id u e) (take N (cond c (uids (filterb expunged vw)) []))))
      (λ (e : Message). not (goes (told_to id (top_of 0 (take N (cond c (uids (filterb expunged vw)) []))) 0) e)) (calm id (take M (uids (filterb marked vw))))
      (calm_to (told_to id 0 (top_of 0 (take M (uids (filterb marked vw)))))) (mails m)
      (λ i h. (ap not (gone_is c N i h), ap (λ (b : Bool). cond b (with_states (get_or (mails m) i no_message) 0) (get_or (mails m) i no_message)) (shown_is M i h)))))

-- ---- the rule
fitting_none : (f : ℕ) → fitting f [] ≡ []
unfolding fitting
fitting_none f = refl

module _ (m : Memory) (law : Law m) (c : ℕ) where
  abbrev lim : ℕ
  lim = length m.queue - 64

  abbrev free : ℕ
  free = length m.queue - 64 - filled m

  abbrev told : ℕ
  told = m.session.told

  abbrev all : List Message
  all = messages_of m.session.selected (mails m)

  abbrev A : List Line
  A = part_a told (eqb c 1) lim all m.queue (filled m) (fits_in m c)

  abbrev B : List Line
  B = part_b told (eqb c 1) lim all m.queue (filled m) (fits_in m c)

  abbrev C : List Line
  C = part_c told (eqb c 1) lim all m.queue (filled m) (fits_in m c)

  abbrev u_a : List ℕ
  u_a = us_a told (eqb c 1) lim all m.queue (filled m) (fits_in m c)

  abbrev new : List Message
  new = fresher told (eqb c 1) lim all m.queue (filled m) (fits_in m c)

  abbrev N : ℕ
  N = length (fitting free ((A ++ B) ++ C))

  abbrev s_a : State
  s_a = first told (eqb c 1) lim all m.queue (filled m)

  abbrev s_b : State
  s_b = second told (eqb c 1) lim all m.queue (filled m)

  abbrev s_c : State
  s_c = third told (eqb c 1) lim all m.queue (filled m)

  bound_a : s_a.bound ≡ top_of 0 (take N u_a)
  bound_a =
      let x = sunk_a told (eqb c 1) lim all m.queue (filled m) (fits_in m c) in
      let y = fit-min free A (B ++ C) in
      let z = ap (λ (t : List Line). length (fitting free t)) (append_assoc A B C) in
      let g = x.long in
      let e : length (fitting free A) - 0 ≡ min N (length A) = omega arith in
      x.bound ∙ ap (top_of 0) (ap (λ (i : ℕ). take i u_a) e ∙ take_min N (length A) u_a (omega arith))

  bound_b : s_b.bound ≡ top_of 0 (take (N - length A) (zeros new))
  bound_b =
      let x = sunk_b told (eqb c 1) lim all m.queue (filled m) (fits_in m c) in
      let y = fit-min free (A ++ B) C in
      let g = x.long in
      let e : length (fitting free (A ++ B)) - length A ≡ min (N - length A) (length (zeros new)) = omega arith in
      x.bound ∙ ap (top_of 0) (ap (λ (i : ℕ). take i (zeros new)) e ∙ take_min (N - length A) (length (zeros new)) (zeros new) (omega arith))

  -- memory of its changing parts
  abbrev made : List Message → ℕ → Session → List ℕ → ℕ → Memory
  made l n s q f = record { rows = m.rows; entries = refill no_message m.entries n l; counts = record { mailboxes = m.counts.mailboxes; messages = length l; filled = f }; session = s; queue = q }

  abbrev after_all : ℕ
  after_all = (selected_box m).uidnext

  spoken_end : say m (fitting free ((A ++ B) ++ C)) ≡ made (kept (told_to m.session.selected s_a.bound s_c.bound) (mails m)) m.counts.messages (cond (eqb s_b.bound 1) (with_view m.session m.session.selected after_all) m.session) s_c.queue s_c.end
  spoken_end =
      let k : Memory = enqueue m (render_all (fitting free ((A ++ B) ++ C))) in
      let x = sunk_c told (eqb c 1) lim all m.queue (filled m) (fits_in m c) in
      ap (effects k) (fitting-take free ((A ++ B) ++ C))
      ∙ (parts_end k (used_long m law) (view_of told all) new (stayers (eqb c 1) (view_of told all)) (length (filterb (stays told (eqb c 1)) all)) (eqb c 1) N
      ∙ (ap (λ (l : List Message). made l (length (mails m))
      (cond (eqb (top_of 0 (take (N - length A) (zeros new))) 1) (with_view m.session m.session.selected after_all) m.session)
      (written m.queue (filled m) (render_all (fitting free ((A ++ B) ++ C)))) (filled m + size (fitting free ((A ++ B) ++ C))))
      (kept_is m law (eqb c 1) N (N - length (A ++ B)) ∙ ap₂ (λ (i j : ℕ). kept (told_to m.session.selected i j) (mails m)) (sym bound_a) (sym x.bound))
      ∙ (ap₂ (λ (n b : ℕ). made (kept (told_to m.session.selected s_a.bound s_c.bound) (mails m)) n (cond (eqb b 1) (with_view m.session m.session.selected after_all) m.session) (written m.queue (filled m) (render_all (fitting free ((A ++ B) ++ C)))) (filled m + size (fitting free ((A ++ B) ++ C)))) (used_long m law) (sym bound_b)
      ∙ ap₂ (λ (q : List ℕ) (f : ℕ). made (kept (told_to m.session.selected s_a.bound s_c.bound) (mails m)) m.counts.messages (cond (eqb s_b.bound 1) (with_view m.session m.session.selected after_all) m.session) q f) (sym x.queue) (sym x.ends))))

  none-owed : both_rights (selected_box m) ≡ false → owed m c ≡ []
  none-owed r = rw r

  pub end-accepted : (accepted m (ended c)).after ≡ left m (end_after m.entries m.counts.messages m.queue m.session (filled m) (eqb c 1) (both_rights (selected_box m)) (selected_box m).uidnext)
  unfolding accepted end_after
  end-accepted = go (both_rights (selected_box m)) refl
    where
      go : (r : Bool) → both_rights (selected_box m) ≡ r → say m (fitting (room m) (owed m c)) ≡ left m (cond r (record {
        entries = refill no_message m.entries m.counts.messages (kept (told_to m.session.selected s_a.bound s_c.bound) (mails m));
        used = length (kept (told_to m.session.selected s_a.bound s_c.bound) (mails m));
        queue = s_c.queue;
        session = cond (eqb s_b.bound 1) (with_view m.session m.session.selected after_all) m.session;
        filled = s_c.end;
      }) (record { entries = m.entries; used = m.counts.messages; queue = m.queue; session = m.session; filled = filled m }))
      go true r = ap (λ (l : List Line). say m (fitting free l)) (owed_is m c r) ∙ spoken_end
      go false r = ap (say m) (ap (fitting (room m)) (none-owed r) ∙ fitting_none (room m)) ∙ say_none m
