-- What written lines end in memory: each EXPUNGE its removal, each FETCH of flags its marking, EXISTS all arrivals, and nothing else. Assumes nothing.
use Rattle.std.specs.Prelude.{◌≡◌, refl, List, [], ◌∷◌, map, Bool, true, false, not, cond, ◌&&◌, ◌||◌, ℕ, eqb, ltb}
use Rattle.std.proofs.Common.{sym, ◌∙◌, ap, eqb-true, ne_eqb}
use Rattle.std.proofs.lemmas.Bool.{eqb-false}
use Rattle.model.specs.Lists.{filterb, keep, anyb}
use Rattle.model.specs.Laws.{tf, and_l, and_r, or-false, cond_same, any_fewer, and-true, and_false}
use Rattle.model.specs.Memory.{Memory, mails, selected_box, uid_of, is_message, in_mailbox, with_states, drop_mails, change_mails}
use Rattle.model.specs.Lines.{Line, status, list, renamed, exists, expunge, fetch, found as found_line, overflow, answer}
use Rattle.model.specs.Queue.{announce, unmark, shows_flags, effect, effects}
use Rattle.model.specs.Rules.{rested}
use Rattle.demands.specs.Isolation.Alike.{mails_with}
use Rattle.model.specs.declared.Message.{Message}
use Rattle.model.specs.Fates.{reported, is_exists, is_removal, is_marking}
use Rattle.demands.specs.Ledger.Each.{All, all_head, all_tail, all_to, map_over}
use Rattle.demands.specs.Ledger.Entries.{present, state_of, state-kept, state-gone, state-map, state_put, present-kept, present-gone, present-map}

-- ---- on memory's side: what the lines end
-- the messages of the selected mailbox lie below its UIDNEXT, and so does the view
pub record Below (m : Memory) : Type 0 where
  pub reach : (u : ℕ) → present m.session.selected u (mails m) ≡ true → ltb u (selected_box m).uidnext ≡ true
  pub wide : (u : ℕ) → ltb u m.session.told ≡ true → ltb u (selected_box m).uidnext ≡ true

-- no line ends what it does not tell: no EXPUNGE of a marked or unannounced message, no FETCH of an expunged one
abbrev pub Calm : Memory → Line → Type 0
Calm m (status n is) = Unit {0}
Calm m (list k n) = Unit {0}
Calm m (renamed k new old) = Unit {0}
Calm m (exists n) = Unit {0}
Calm m (expunge n v) = (eqb (state_of m.session.selected v.0 (mails m)) 2 ≡ false) × (ltb v.0 m.session.told ≡ true)
Calm m (fetch n v is) = eqb (state_of m.session.selected v.0 (mails m)) 1 ≡ false
Calm m (found_line t n v rs) = Unit {0}
Calm m overflow = Unit {0}
Calm m (answer t v r) = Unit {0}

-- what memory is after lines
pub record Ended (m n : Memory) (ls : List Line) : Type 0 where
  pub selected : n.session.selected ≡ m.session.selected
  pub kept : map rested (mails n) ≡ filterb (λ (e : Message). not (in_mailbox m.session.selected e && anyb (is_removal (uid_of e)) ls)) (map rested (mails m))
  pub removals : (u : ℕ) → eqb (state_of m.session.selected u (mails n)) 1 ≡ (eqb (state_of m.session.selected u (mails m)) 1 && not (anyb (is_removal u) ls))
  pub markings : (u : ℕ) → eqb (state_of m.session.selected u (mails n)) 2 ≡ (eqb (state_of m.session.selected u (mails m)) 2 && not (anyb (is_marking u) ls))
  pub arrivals : (u : ℕ) → (present m.session.selected u (mails n) && not (ltb u n.session.told))
      ≡ ((present m.session.selected u (mails m) && not (ltb u m.session.told)) && not (anyb is_exists ls))

pub filter_no : (p : Message → Bool) → ((e : Message) → p e ≡ false) → (s : ℕ) (es : List Message) → filterb (λ (e : Message). not (in_mailbox s e && p e)) es ≡ es
filter_no p h s [] = refl
filter_no p h s (e ∷ es) = rw (h e, and_false (in_mailbox s e)) (ap (λ (t : List Message). e ∷ t) (filter_no p h s es))

-- lines that end nothing
pub nothing-ended : (m n : Memory) → mails n ≡ mails m → n.session.selected ≡ m.session.selected → n.session.told ≡ m.session.told → (ls : List Line)
    → ((u : ℕ) → anyb (is_removal u) ls ≡ false) → ((u : ℕ) → anyb (is_marking u) ls ≡ false) → anyb is_exists ls ≡ false → Ended m n ls
nothing-ended m n e s t ls r k x = record {
  selected = s;
  kept = rw e (sym (filter_no (λ (d : Message). anyb (is_removal (uid_of d)) ls) (λ d. r (uid_of d)) m.session.selected (map rested (mails m))));
  removals = λ u. rw (e, r u) (sym (and-true (eqb (state_of m.session.selected u (mails m)) 1)));
  markings = λ u. rw (e, k u) (sym (and-true (eqb (state_of m.session.selected u (mails m)) 2)));
  arrivals = λ u. rw (e, t, x) (sym (and-true (present m.session.selected u (mails m) && not (ltb u m.session.told))));
}

-- two numbers that differ do so either way round; then a message has one of them
pub flip : (u v : ℕ) → eqb v u ≡ false → eqb u v ≡ false
flip u v h = ne_eqb u v (λ z. eqb-false v u h (sym z))

pub is-other : (s u v : ℕ) → eqb u v ≡ false → (e : Message) → is_message s u e ≡ true → is_message s v e ≡ false
is-other s u v h e k =
    let a : uid_of e ≡ u = eqb-true (uid_of e) u (and_r (eqb e.mailbox s) _ k) in
    rw (and_l (eqb e.mailbox s) _ k) (ne_eqb (uid_of e) v (λ z. eqb-false u v h (sym a ∙ z)))

ended-exists : (m : Memory) → Below m → (n : Line) → is_exists n ≡ true → ((u : ℕ) → is_removal u n ≡ false) → ((u : ℕ) → is_marking u n ≡ false) → Ended m (announce m) (n ∷ [])
ended-exists m b n x r k = record {
  selected = refl;
  kept = sym (filter_no (λ (d : Message). is_removal (uid_of d) n || false) (λ d. rw (r (uid_of d))) m.session.selected (map rested (mails m)));
  removals = λ u. rw (r u) (sym (and-true (eqb (state_of m.session.selected u (mails m)) 1)));
  markings = λ u. rw (k u) (sym (and-true (eqb (state_of m.session.selected u (mails m)) 2)));
  arrivals = λ u. rw x (all u (present m.session.selected u (mails m)) refl);
}
  where
    all : (u : ℕ) (c : Bool) → present m.session.selected u (mails m) ≡ c → (c && not (ltb u (selected_box m).uidnext)) ≡ ((c && not (ltb u m.session.told)) && false)
    all u true h = rw (b.reach u h) (sym (and_false (not (ltb u m.session.told))))
    all u false h = refl

module _ (m : Memory) (v : ℕ) where
  abbrev s : ℕ
  s = m.session.selected

  -- EXPUNGE
  ended-expunge : (n : Line) → ((u : ℕ) → is_removal u n ≡ eqb u v) → ((u : ℕ) → is_marking u n ≡ false) → is_exists n ≡ false → eqb (state_of s v (mails m)) 2 ≡ false → ltb v m.session.told ≡ true
      → Ended m (drop_mails m (is_message s v)) (n ∷ [])
  ended-expunge n r k x marked announced = record {
    selected = refl;
    kept = rw (mails_with m (filterb (λ (e : Message). not (is_message s v e)) (mails m))) (sym (fewer (mails m)));
    removals = λ u. rw (mails_with m (filterb (λ (e : Message). not (is_message s v e)) (mails m)), r u) (gone u (eqb u v) refl);
    markings = λ u. rw (mails_with m (filterb (λ (e : Message). not (is_message s v e)) (mails m)), k u) (unmarked u (eqb u v) refl);
    arrivals = λ u. rw (mails_with m (filterb (λ (e : Message). not (is_message s v e)) (mails m)), x) (seen u (eqb u v) refl);
  }
    where
      fewer : (es : List Message) → filterb (λ (e : Message). not (in_mailbox s e && (is_removal (uid_of e) n || false))) (map rested es)
          ≡ map rested (filterb (λ (e : Message). not (is_message s v e)) es)
      fewer [] = refl
      fewer (e ∷ es) = rw (r (uid_of e), or-false (eqb (uid_of e) v)) (go (is_message s v e) (fewer es))
        where
          go : (c : Bool) → filterb (λ (d : Message). not (in_mailbox s d && (is_removal (uid_of d) n || false))) (map rested es) ≡ map rested (filterb (λ (d : Message). not (is_message s v d)) es)
              → keep (not c) (rested e) (filterb (λ (d : Message). not (in_mailbox s d && (is_removal (uid_of d) n || false))) (map rested es))
              ≡ map rested (keep (not c) e (filterb (λ (d : Message). not (is_message s v d)) es))
          go true ih = ih
          go false ih = ap (λ (t : List Message). rested e ∷ t) ih

      same_u : (u : ℕ) → eqb u v ≡ true → (e : Message) → is_message s u e ≡ true → not (is_message s v e) ≡ false
      same_u u h e k = rw (sym (eqb-true u v h), k)

      other_u : (u : ℕ) → eqb u v ≡ false → (e : Message) → is_message s u e ≡ true → not (is_message s v e) ≡ true
      other_u u h e k = rw (is-other s u v h e k)

      gone : (u : ℕ) (c : Bool) → eqb u v ≡ c → eqb (state_of s u (filterb (λ (e : Message). not (is_message s v e)) (mails m))) 1 ≡ (eqb (state_of s u (mails m)) 1 && not (c || false))
      gone u true h = rw (state-gone s u (λ (e : Message). not (is_message s v e)) (same_u u h) (mails m)) (sym (and_false (eqb (state_of s u (mails m)) 1)))
      gone u false h = rw (state-kept s u (λ (e : Message). not (is_message s v e)) (other_u u h) (mails m)) (sym (and-true (eqb (state_of s u (mails m)) 1)))

      unmarked : (u : ℕ) (c : Bool) → eqb u v ≡ c → eqb (state_of s u (filterb (λ (e : Message). not (is_message s v e)) (mails m))) 2 ≡ (eqb (state_of s u (mails m)) 2 && true)
      unmarked u true h = rw (state-gone s u (λ (e : Message). not (is_message s v e)) (same_u u h) (mails m), eqb-true u v h, marked)
      unmarked u false h = rw (state-kept s u (λ (e : Message). not (is_message s v e)) (other_u u h) (mails m)) (sym (and-true (eqb (state_of s u (mails m)) 2)))

      seen : (u : ℕ) (c : Bool) → eqb u v ≡ c
          → (present s u (filterb (λ (e : Message). not (is_message s v e)) (mails m)) && not (ltb u m.session.told)) ≡ ((present s u (mails m) && not (ltb u m.session.told)) && true)
      seen u true h = rw (present-gone s u (λ (e : Message). not (is_message s v e)) (same_u u h) (mails m), eqb-true u v h, announced, and_false (present s v (mails m)))
      seen u false h = rw (present-kept s u (λ (e : Message). not (is_message s v e)) (other_u u h) (mails m)) (sym (and-true (present s u (mails m) && not (ltb u m.session.told))))

  -- a FETCH that shows the flags
  ended-fetch : (n : Line) → ((u : ℕ) → is_removal u n ≡ false) → ((u : ℕ) → is_marking u n ≡ eqb u v) → is_exists n ≡ false → eqb (state_of s v (mails m)) 1 ≡ false
      → Ended m (change_mails m (unmark s v)) (n ∷ [])
  ended-fetch n r k x expunged = record {
    selected = refl;
    kept = rw (mails_with m (map (unmark s v) (mails m)))
        (map_over rested (unmark s v) rested (λ e. calm e (is_message s v e)) (mails m)
        ∙ sym (filter_no (λ (d : Message). is_removal (uid_of d) n || false) (λ d. rw (r (uid_of d))) s (map rested (mails m))));
    removals = λ u. rw (mails_with m (map (unmark s v) (mails m)), r u) (stays u (eqb u v) refl);
    markings = λ u. rw (mails_with m (map (unmark s v) (mails m)), k u) (unmarked u (eqb u v) refl);
    arrivals = λ u. rw (mails_with m (map (unmark s v) (mails m)), x, present-map s u (unmark s v) (λ e. keeps u e (is_message s v e)) (mails m))
        (sym (and-true (present s u (mails m) && not (ltb u m.session.told))));
  }
    where
      calm : (e : Message) (c : Bool) → rested (cond c (with_states e 0) e) ≡ rested e
      calm e true = refl
      calm e false = refl

      keeps : (u : ℕ) (e : Message) (c : Bool) → is_message s u (cond c (with_states e 0) e) ≡ is_message s u e
      keeps u e true = refl
      keeps u e false = refl

      put : (u : ℕ) → eqb u v ≡ true → (e : Message) → is_message s u e ≡ true → (unmark s v e).states ≡ 0
      put u h e k = rw (sym (eqb-true u v h), k)

      left : (u : ℕ) → eqb u v ≡ false → (e : Message) → is_message s u e ≡ true → (unmark s v e).states ≡ e.states
      left u h e k = rw (is-other s u v h e k)

      zeroed : (u : ℕ) → eqb u v ≡ true → state_of s u (map (unmark s v) (mails m)) ≡ 0
      zeroed u h = state_put s u 0 (unmark s v) (λ e. keeps u e (is_message s v e)) (put u h) (mails m) ∙ cond_same (present s u (mails m)) 0

      same_state : (u : ℕ) → eqb u v ≡ false → state_of s u (map (unmark s v) (mails m)) ≡ state_of s u (mails m)
      same_state u h = state-map s u (unmark s v) (λ e. keeps u e (is_message s v e)) (left u h) (mails m)

      stays : (u : ℕ) (c : Bool) → eqb u v ≡ c → eqb (state_of s u (map (unmark s v) (mails m))) 1 ≡ (eqb (state_of s u (mails m)) 1 && true)
      stays u true h = rw (zeroed u h, eqb-true u v h, expunged)
      stays u false h = rw (same_state u h) (sym (and-true (eqb (state_of s u (mails m)) 1)))

      unmarked : (u : ℕ) (c : Bool) → eqb u v ≡ c → eqb (state_of s u (map (unmark s v) (mails m))) 2 ≡ (eqb (state_of s u (mails m)) 2 && not (c || false))
      unmarked u true h = rw (zeroed u h) (sym (and_false (eqb (state_of s u (mails m)) 2)))
      unmarked u false h = rw (same_state u h) (sym (and-true (eqb (state_of s u (mails m)) 2)))

-- ---- one line
pub ended_one : (m : Memory) → Below m → (l : Line) → Calm m l → Ended m (effect m l) (l ∷ [])
ended_one m b (exists n) c = ended-exists m b (exists n) refl (λ u. refl) (λ u. refl)
ended_one m b (expunge n v) c = ended-expunge m v.0 (expunge n v) (λ u. refl) (λ u. refl) refl c.0 c.1
ended_one m b (fetch n v is) c = go (shows_flags is) refl
  where
    go : (f : Bool) → shows_flags is ≡ f → Ended m (cond f (change_mails m (unmark m.session.selected v.0)) m) (fetch n v is ∷ [])
    go true h = ended-fetch m v.0 (fetch n v is) (λ u. refl) (λ u. rw (h, and-true (eqb u v.0))) refl c
    go false h = nothing-ended m m refl refl refl (fetch n v is ∷ []) (λ u. refl) (λ u. rw (h, and_false (eqb u v.0))) refl
ended_one m b (status n is) c = nothing-ended m m refl refl refl (status n is ∷ []) (λ u. refl) (λ u. refl) refl
ended_one m b (list k n) c = nothing-ended m m refl refl refl (list k n ∷ []) (λ u. refl) (λ u. refl) refl
ended_one m b (renamed k new old) c = nothing-ended m m refl refl refl (renamed k new old ∷ []) (λ u. refl) (λ u. refl) refl
ended_one m b (found_line t n v rs) c = nothing-ended m m refl refl refl (found_line t n v rs ∷ []) (λ u. refl) (λ u. refl) refl
ended_one m b overflow c = nothing-ended m m refl refl refl (overflow ∷ []) (λ u. refl) (λ u. refl) refl
ended_one m b (answer t v r) c = nothing-ended m m refl refl refl (answer t v r ∷ []) (λ u. refl) (λ u. refl) refl

-- and the next is calm still
calm-after : (m n : Memory) (l : Line) → Ended m n (l ∷ []) → ((u : ℕ) → ltb u m.session.told ≡ true → ltb u n.session.told ≡ true) → (k : Line) → Calm m k → Calm n k
calm-after m n l e w (status a is) h = tt
calm-after m n l e w (list a b) h = tt
calm-after m n l e w (renamed a b c) h = tt
calm-after m n l e w (exists a) h = tt
calm-after m n l e w (expunge a v) h = (rw (e.selected, e.markings v.0, h.0), w v.0 h.1)
calm-after m n l e w (fetch a v is) h = rw (e.selected, e.removals v.0, h)
calm-after m n l e w (found_line a b c d) h = tt
calm-after m n l e w overflow h = tt
calm-after m n l e w (answer a b c) h = tt

-- a message that is there was there
pub present_fewer : (s u : ℕ) (p : Message → Bool) (es : List Message) → present s u (filterb p es) ≡ true → present s u es ≡ true
unfolding present
present_fewer s u p es h = go (anyb (is_message s u) es) refl
  where
    go : (c : Bool) → anyb (is_message s u) es ≡ c → anyb (is_message s u) es ≡ true
    go true e = e
    go false e = tf (anyb (is_message s u) (filterb p es)) h (any_fewer (is_message s u) p es e)

below-after : (m : Memory) → Below m → (l : Line) → Below (effect m l)
below-after m b (exists n) = record { reach = b.reach; wide = λ u h. h }
below-after m b (expunge n v) = record {
  reach = λ u h. b.reach u (present_fewer m.session.selected u (λ (e : Message). not (is_message m.session.selected v.0 e)) (mails m)
      (rw (mails_with m (filterb (λ (e : Message). not (is_message m.session.selected v.0 e)) (mails m))) at h));
  wide = b.wide;
}
below-after m b (fetch n v is) = go (shows_flags is)
  where
    keeps : (u : ℕ) (e : Message) (c : Bool) → is_message m.session.selected u (cond c (with_states e 0) e) ≡ is_message m.session.selected u e
    keeps u e true = refl
    keeps u e false = refl

    go : (f : Bool) → Below (cond f (change_mails m (unmark m.session.selected v.0)) m)
    go true = record {
      reach = λ u h. b.reach u (rw (
        mails_with m (map (unmark m.session.selected v.0) (mails m)),
        present-map m.session.selected u (unmark m.session.selected v.0)
            (λ e. keeps u e (is_message m.session.selected v.0 e)) (mails m),
      ) at h);
      wide = b.wide;
    }
    go false = b
below-after m b (status n is) = b
below-after m b (list k n) = b
below-after m b (renamed k new old) = b
below-after m b (found_line t n v rs) = b
below-after m b overflow = b
below-after m b (answer t v r) = b

wider : (m : Memory) → Below m → (l : Line) → (u : ℕ) → ltb u m.session.told ≡ true → ltb u (effect m l).session.told ≡ true
wider m b (exists n) u h = b.wide u h
wider m b (expunge n v) u h = h
wider m b (fetch n v is) u h = go (shows_flags is)
  where
    go : (f : Bool) → ltb u (cond f (change_mails m (unmark m.session.selected v.0)) m).session.told ≡ true
    go true = h
    go false = h
wider m b (status n is) u h = h
wider m b (list k n) u h = h
wider m b (renamed k new old) u h = h
wider m b (found_line t n v rs) u h = h
wider m b overflow u h = h
wider m b (answer t v r) u h = h

-- one line, and then others
andnot : (a b c : Bool) → ((a && not (b || false)) && not c) ≡ (a && not (b || c))
andnot true true c = refl
andnot true false c = refl
andnot false b c = refl

filter_both : (s : ℕ) (p q : Message → Bool) (es : List Message)
    → filterb (λ (e : Message). not (in_mailbox s e && q e)) (filterb (λ (e : Message). not (in_mailbox s e && (p e || false))) es)
    ≡ filterb (λ (e : Message). not (in_mailbox s e && (p e || q e))) es
filter_both s p q [] = refl
filter_both s p q (e ∷ es) = go (in_mailbox s e) refl (p e) (q e) refl (filter_both s p q es)
  where
    go : (a : Bool) → in_mailbox s e ≡ a → (b c : Bool) → q e ≡ c
        → filterb (λ (d : Message). not (in_mailbox s d && q d)) (filterb (λ (d : Message). not (in_mailbox s d && (p d || false))) es)
        ≡ filterb (λ (d : Message). not (in_mailbox s d && (p d || q d))) es
        → filterb (λ (d : Message). not (in_mailbox s d && q d)) (keep (not (a && (b || false))) e (filterb (λ (d : Message). not (in_mailbox s d && (p d || false))) es))
        ≡ keep (not (a && (b || c))) e (filterb (λ (d : Message). not (in_mailbox s d && (p d || q d))) es)
    go true h true c f ih = ih
    go true h false true f ih = rw (h, f) ih
    go true h false false f ih = rw (h, f) (ap (λ (t : List Message). e ∷ t) ih)
    go false h b c f ih = rw h (ap (λ (t : List Message). e ∷ t) ih)

ended_then : (m n p : Memory) (l : Line) (ls : List Line) → Ended m n (l ∷ []) → Ended n p ls → Ended m p (l ∷ ls)
ended_then m n p l ls e f = record {
  selected = f.selected ∙ e.selected;
  kept = f.kept ∙ (rw (e.selected, e.kept) (filter_both m.session.selected (λ (d : Message). is_removal (uid_of d) l) (λ (d : Message). anyb (is_removal (uid_of d)) ls) (map rested (mails m))));
  removals = λ u. (rw e.selected at (f.removals u)) ∙ (rw (e.removals u) (andnot (eqb (state_of m.session.selected u (mails m)) 1) (is_removal u l) (anyb (is_removal u) ls)));
  markings = λ u. (rw e.selected at (f.markings u)) ∙ (rw (e.markings u) (andnot (eqb (state_of m.session.selected u (mails m)) 2) (is_marking u l) (anyb (is_marking u) ls)));
  arrivals = λ u. (rw e.selected at (f.arrivals u)) ∙ (rw (e.arrivals u) (andnot (present m.session.selected u (mails m) && not (ltb u m.session.told)) (is_exists l) (anyb is_exists ls)));
}

-- what lines end: each EXPUNGE its removal, each FETCH of flags its marking, EXISTS all arrivals, and nothing else
pub ended_all : (m : Memory) → Below m → (ls : List Line) → All (Calm m) ls → Ended m (effects m ls) ls
unfolding effects
ended_all m b [] h = nothing-ended m m refl refl refl [] (λ u. refl) (λ u. refl) refl
ended_all m b (l ∷ ls) h =
    let e = ended_one m b l (all_head h) in
    ended_then m (effect m l) (effects (effect m l) ls) l ls e (ended_all (effect m l) (below-after m b l) ls (all_to (λ k d. calm-after m (effect m l) l e (wider m b l) k d) (all_tail h)))
