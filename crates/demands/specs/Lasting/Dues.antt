-- The lines that a class is owed, as lists of messages make them: the first of them, once it is written, leaves the others. Assumes nothing.
use Rattle.std.proofs.Math.Path.{◌≡◌, refl, ap, sym}
use Rattle.std.proofs.Common.{ap₂, ◌∙◌, subst, eqb-true, eq-eqb, ne_eqb}
use mathlib.Core.List.{List, [], ◌∷◌, ◌++◌, map}
use Rattle.std.specs.Prelude.{Bool, not, ◌&&◌, ℕ, ◌+◌, ◌-◌, ◌≤◌, eqb, ltb, length}
use Rattle.std.proofs.Math.Bool.{true, false, cond}
use native.Mathlib.Omega.{arith}
use Rattle.std.proofs.lemmas.Bool.{not-true}
use Rattle.model.specs.Lists.{filterb, allb}
use Rattle.model.specs.Laws.{tf, and_l, and_r, and_false, filter-every, map_none}
use Rattle.model.specs.Memory.{uid_of, expunged, marked, is_message, in_mailbox, with_states}
use Rattle.model.specs.Lines.{Line, exists, expunge}
use Rattle.model.specs.Queue.{unmark}
use Rattle.model.specs.View.{expunge_lines, marked_lines, flags_line, exists_line}
use Rattle.model.specs.declared.Message.{Message}
use Rattle.model.specs.declared.MessageNumber.{MessageNumber}
use Rattle.model.specs.declared.Uid.{Uid}
use Rattle.demands.specs.Lasting.Rows.{all_imp, all_map, all_append}
use Rattle.demands.specs.Lasting.Rising.{Rising, rising-other}

-- a message that stays once the expunged ones are gone, and one that waits for nothing
abbrev pub stay : Message → Bool
stay e = not (expunged e)

abbrev pub waitless : Message → Bool
waitless e = eqb e.states 0

-- the lines that a class owes (class 1 where d is true), by the view v and by what is not announced, w
abbrev pub remaining : Bool → List Message → List Message
remaining d v = cond d (filterb stay v) v

abbrev pub dues : Bool → List Message → List Message → List Line
dues d v w = cond d (expunge_lines 1 v) [] ++ (exists_line (length (remaining d v)) w ++ marked_lines 1 (remaining d v))

-- ---- nothing expunged, nothing marked
no-expunge : (n : ℕ) (v : List Message) → allb stay v ≡ true → expunge_lines n v ≡ []
unfolding expunge_lines
no-expunge n [] h = refl
no-expunge n (e ∷ v) h = rw (not-true (expunged e) (and_l (stay e) _ h)) (no-expunge (n + 1) v (and_r (stay e) _ h))

all_stay : (n : ℕ) (v : List Message) → expunge_lines n v ≡ [] → allb stay v ≡ true
unfolding expunge_lines
all_stay n [] h = refl
all_stay n (e ∷ v) h = go (expunged e) h (all_stay (n + 1) v)
  where
    go : (c : Bool) → cond c (expunge (record { 0 = n }) e.uid ∷ expunge_lines n v) (expunge_lines (n + 1) v) ≡ []
        → (expunge_lines (n + 1) v ≡ [] → allb stay v ≡ true) → (not c && allb stay v) ≡ true
    go true q ih = let z : ◌≡◌ {A = ℕ} 0 1 = cc in absurd (let b : ⊥ = omega arith in b)
    go false q ih = ih q

no-mark : (n : ℕ) (v : List Message) → allb (λ (e : Message). not (marked e)) v ≡ true → marked_lines n v ≡ []
unfolding marked_lines
no-mark n [] h = refl
no-mark n (e ∷ v) h = rw (not-true (marked e) (and_l (not (marked e)) _ h)) (no-mark (n + 1) v (and_r (not (marked e)) _ h))

-- behind others
mark-append : (n : ℕ) (v w : List Message) → allb (λ (e : Message). not (marked e)) w ≡ true → marked_lines n (v ++ w) ≡ marked_lines n v
unfolding marked_lines
mark-append n [] w h = no-mark n w h
mark-append n (e ∷ v) w h = rw (mark-append (n + 1) v w h)

-- where nothing is expunged both classes owe the same
dues_calm : (d : Bool) (v w : List Message) → (d ≡ true → allb stay v ≡ true) → dues d v w ≡ exists_line (length v) w ++ marked_lines 1 v
dues_calm true v w h = rw (no-expunge 1 v (h refl), filter-every stay v (h refl))
dues_calm false v w h = refl

-- ---- the first line of each kind
module _ (i t : ℕ) where
  -- any message but this
  abbrev pub others : ℕ → Message → Bool
  others u e = not (is_message i u e)

  -- it is the message itself, and no other
  self : (x : Message) → in_mailbox i x ≡ true → is_message i (uid_of x) x ≡ true
  self x h = rw h (eq-eqb (uid_of x) (uid_of x) refl)

  another : (u : ℕ) (x : Message) → uid_of x + 1 ≤ u → is_message i u x ≡ false
  another u x h = rw (ne_eqb (uid_of x) u (λ q. (let z : ⊥ = omega arith in z))) (and_false (in_mailbox i x))

  all_others : (u : ℕ) (v : List Message) → Rising (u + 1) v → allb (others u) v ≡ true
  all_others u v r = all_imp (λ (e : Message). not (eqb (uid_of e) u)) (others u) one v (rising-other (u + 1) v r u (omega arith))
    where
      one : (e : Message) → not (eqb (uid_of e) u) ≡ true → others u e ≡ true
      one e h = rw (not-true (eqb (uid_of e) u) h, and_false (in_mailbox i e))

  -- EXPUNGE: its message is b at least and below t; without it the others are owed as before
  record Removed (b n : ℕ) (v : List Message) (l : Line) (ls : List Line) : Type 0 where
    place : MessageNumber
    uid : Uid
    is : expunge place uid ≡ l
    above : b ≤ uid.0
    below : ltb uid.0 t ≡ true
    rest : expunge_lines n (filterb (others uid.0) v) ≡ ls
    stayers : filterb stay (filterb (others uid.0) v) ≡ filterb stay v

  first-expunge : (b n : ℕ) (v : List Message) → Rising b v → allb (in_mailbox i) v ≡ true → allb (λ (e : Message). ltb (uid_of e) t) v ≡ true
      → (l : Line) (ls : List Line) → expunge_lines n v ≡ l ∷ ls → Removed b n v l ls
  unfolding expunge_lines
  first-expunge b n [] r a s l ls e = let z : ◌≡◌ {A = ℕ} 0 1 = cc in absurd (let f : ⊥ = omega arith in f)
  first-expunge b n (x ∷ v) r a s l ls e = go (expunged x) refl e (first-expunge (uid_of x + 1) (n + 1) v r.1 (and_r (in_mailbox i x) _ a) (and_r (ltb (uid_of x) t) _ s) l ls)
    where
      go : (c : Bool) → expunged x ≡ c → cond c (expunge (record { 0 = n }) x.uid ∷ expunge_lines n v) (expunge_lines (n + 1) v) ≡ l ∷ ls
          → (expunge_lines (n + 1) v ≡ l ∷ ls → Removed (uid_of x + 1) (n + 1) v l ls) → Removed b n (x ∷ v) l ls
      go true h q ih =
          let o = all_others (uid_of x) v r.1 in
          let gone : filterb (others (uid_of x)) (x ∷ v) ≡ v = rw (self x (and_l (in_mailbox i x) _ a)) (filter-every (others (uid_of x)) v o) in
          record {
            place = record { 0 = n };
            uid = x.uid;
            is = cc;
            above = r.0;
            below = and_l (ltb (uid_of x) t) _ s;
            rest = ap (expunge_lines n) gone ∙ (cc);
            stayers = ap (filterb stay) gone ∙ sym (rw h);
          }
      go false h q ih =
          let f = ih q in
          let k = r.0 in
          let j = f.above in
          let y = another f.uid.0 x f.above in
          record {
            place = f.place;
            uid = f.uid;
            is = f.is;
            above = omega arith;
            below = f.below;
            rest = rw (y, h) f.rest;
            stayers = rw (y, h) (ap (λ (k : List Message). x ∷ k) f.stayers);
          }

  -- FETCH: the same with its mark ended
  record Unmarked (b n : ℕ) (v : List Message) (l : Line) (ls : List Line) : Type 0 where
    place : ℕ
    message : Message
    is : flags_line place message ≡ l
    above : b ≤ uid_of message
    rest : marked_lines n (map (unmark i (uid_of message)) v) ≡ ls

  first-marked : (b n : ℕ) (v : List Message) → Rising b v → allb (in_mailbox i) v ≡ true
      → (l : Line) (ls : List Line) → marked_lines n v ≡ l ∷ ls → Unmarked b n v l ls
  unfolding marked_lines
  first-marked b n [] r a l ls e = let z : ◌≡◌ {A = ℕ} 0 1 = cc in absurd (let f : ⊥ = omega arith in f)
  first-marked b n (x ∷ v) r a l ls e = go (marked x) refl e (first-marked (uid_of x + 1) (n + 1) v r.1 (and_r (in_mailbox i x) _ a) l ls)
    where
      go : (c : Bool) → marked x ≡ c → cond c (flags_line n x ∷ marked_lines (n + 1) v) (marked_lines (n + 1) v) ≡ l ∷ ls
          → (marked_lines (n + 1) v ≡ l ∷ ls → Unmarked (uid_of x + 1) (n + 1) v l ls) → Unmarked b n (x ∷ v) l ls
      go true h q ih =
          let o = all_others (uid_of x) v r.1 in
          let same : map (unmark i (uid_of x)) v ≡ v = map_none (unmark i (uid_of x)) (others (uid_of x)) (λ e y. rw (not-true (is_message i (uid_of x) e) y)) v o in
          record {
            place = n;
            message = x;
            is = cc;
            above = r.0;
            rest = rw (self x (and_l (in_mailbox i x) _ a), same) (cc);
          }
      go false h q ih =
          let f = ih q in
          let k = r.0 in
          let j = f.above in
          record {
            place = f.place;
            message = f.message;
            is = f.is;
            above = omega arith;
            rest = rw (another (uid_of f.message) x f.above, h) f.rest;
          }

  -- the first of all lines, and how the others are owed once it is written
  pub data First (d : Bool) (v w : List Message) (ls : List Line) : Line → Type 0 where
    removes : (n : MessageNumber) (u : Uid) → ltb u.0 t ≡ true → dues d (filterb (others u.0) v) w ≡ ls → First d v w ls (expunge n u)
    announces : (n : MessageNumber) → dues d (v ++ w) [] ≡ ls → First d v w ls (exists n)
    unmarks : (n : ℕ) (e : Message) → dues d (map (unmark i (uid_of e)) v) (map (unmark i (uid_of e)) w) ≡ ls → First d v w ls (flags_line n e)

  module _ (v : List Message) (r : Rising 0 v) (a : allb (in_mailbox i) v ≡ true) where
    -- with nothing expunged it is EXISTS, or a FETCH
    first_calm : (d : Bool) → (d ≡ true → allb stay v ≡ true) → (w : List Message) → allb waitless w ≡ true → (l : Line) (ls : List Line)
        → exists_line (length v) w ++ marked_lines 1 v ≡ l ∷ ls → First d v w ls l
    first_calm d h [] z l ls q =
        let f = first-marked 0 1 v r a l ls q in
        let g = unmark i (uid_of f.message) in
        let s : d ≡ true → allb stay (map (unmark i (uid_of f.message)) v) ≡ true = λ y. all_map stay stay g (λ e k. calm (is_message i (uid_of f.message) e) e k) v (h y) in
        subst (First d v [] ls) f.is (unmarks f.place f.message (dues_calm d (map (unmark i (uid_of f.message)) v) [] s ∙ f.rest))
      where
        calm : (c : Bool) (e : Message) → stay e ≡ true → stay (cond c (with_states e 0) e) ≡ true
        calm true e k = refl
        calm false e k = k
    first_calm d h (x ∷ w) z l ls q =
        let s = all_imp waitless stay (λ e k. rw (eqb-true e.states 0 k)) (x ∷ w) z in
        let u = all_imp waitless (λ (e : Message). not (marked e)) (λ e k. rw (eqb-true e.states 0 k)) (x ∷ w) z in
        subst (First d v (x ∷ w) ls) (cc) (announces (record { 0 = length v + length (x ∷ w) })
        (dues_calm d (v ++ (x ∷ w)) [] (λ y. all_append stay v (x ∷ w) (h y) s) ∙ (mark-append 1 v (x ∷ w) u ∙ (cc))))

    -- the view lies below t, and what is not announced waits for nothing
    pub first_line : allb (λ (e : Message). ltb (uid_of e) t) v ≡ true → (d : Bool) (w : List Message) → allb waitless w ≡ true
        → (l : Line) (ls : List Line) → dues d v w ≡ l ∷ ls → First d v w ls l
    first_line s true w z l ls q = go (expunge_lines 1 v) refl q
      where
        go : (x : List Line) → expunge_lines 1 v ≡ x → x ++ (exists_line (length (filterb stay v)) w ++ marked_lines 1 (filterb stay v)) ≡ l ∷ ls → First true v w ls l
        go [] h p = first_calm true (λ y. all_stay 1 v h) w z l ls (sym (dues_calm true v w (λ y. all_stay 1 v h)) ∙ q)
        go (x ∷ xs) h p =
            let f = first-expunge 0 1 v r a s x xs h in
            subst (First true v w ls) (f.is ∙ (cc)) (removes f.place f.uid f.below
            (ap₂ (λ (k : List Line) (j : List Message). k ++ (exists_line (length j) w ++ marked_lines 1 j)) f.rest f.stayers ∙ (cc)))
    first_line s false w z l ls q = first_calm false (λ y. tf false y refl) w z l ls q
