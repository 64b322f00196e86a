-- What the code shows of a record's points: the tests of groups as whether one passes and as the number of the first. Assumes nothing.
use Rattle.std.specs.Prelude.{◌≡◌, Bool, cond, ◌&&◌, ◌||◌, List, ℕ, zero, suc, min, ltb, Option, Some, None}
use Rattle.std.proofs.Math.Path.{refl}
use Rattle.std.proofs.Common.{ap, ap₂, sym, ◌∙◌, arith, eqb-true, ne_eqb, ltb-true, ltb-false}
use Rattle.std.proofs.Math.Bool.{true, false, not}
use Rattle.std.proofs.Math.Dec.{eqb}
use Rattle.model.specs.Lists.{anyb}
use Rattle.model.specs.Laws.{tf, and_r, or-false}
use Rattle.model.specs.Names.{Name, valid, fold, argument, has_parent}
use Rattle.model.specs.Records.{Record, create, delete, rename, subscribe, grant, arrive, expunge, reflag, select, ended, command, drained, record_of_none}
use Rattle.model.specs.Memory.{Memory, boxes, name_of, may_list, both_rights, with_attributes, with_name, the_mailbox, is_selected}
use Rattle.model.specs.Groups.{groups_of, number, is_selecting, selected_asks, immediate_asks, asks_new, asks_expunge, asks_flags, asks_name}
use Rattle.model.specs.Events.{parent_row, new_box, with_subscribed, with_rights}
use Rattle.model.specs.Due.{is_quiet, switches}
use Rattle.model.specs.Reasons as R
use Rattle.model.specs.Reasons.{met_by, asks_of, points}
use Rattle.model.specs.Reasoned.{changes}
use Rattle.model.specs.declared.Group.{Group}
use Rattle.model.specs.declared.Mailbox.{Mailbox}
use Rattle.model.specs.declared.Session.{Session}
use Rattle.demands.specs.Reasons.Numbers.{lesser, number_or, number_held, any_or, any_held}
use Rattle.match_groups.specs.Asking.{numbered, asks_bit, asks_in, selected_in, matched_by}
use Rattle.reason_points.specs.declared.Points.{Points}

-- the class that is waited for, if it waits
abbrev pub waiting_for : Bool → ℕ → Option ℕ
waiting_for w c = cond w (Some c) None

-- the points as the code has them: the number of the first group that asks, if one does
abbrev pub shown : Session → R.Points → Points
shown s p = record {
  quiet = p.quiet;
  event = p.event;
  rights = p.rights;
  met = anyb p.meets (groups_of s);
  asking = numbered (number p.asks (groups_of s));
  unannounced = p.unannounced;
  waiting = waiting_for p.waits p.class;
}

abbrev pub plain : (quiet event rights met : Bool) (asking : Option ℕ) → Points
plain q e r g n = record { quiet = q; event = e; rights = r; met = g; asking = n; unannounced = false; waiting = None }

-- ---- of a row: a group matches it, and the number of the first that asks for event k of it
abbrev pub is_here : Session → ℕ → Bool
is_here s i = not (eqb i 0) && eqb i s.selected

abbrev pub met_of : Session → Mailbox → Bool
met_of s x = anyb (matched_by s (name_of x) x.attributes (is_here s x.id)) (groups_of s)

abbrev pub asking_of : Session → Mailbox → ℕ → Option ℕ
asking_of s x k = numbered (number (asks_in s (name_of x) x.attributes k) (groups_of s))

-- the lesser of two numbers that there may be
abbrev pub lesser_of : Option ℕ → Option ℕ → Option ℕ
lesser_of None b = b
lesser_of (Some m) None = Some m
lesser_of (Some m) (Some n) = Some (min m n)

lesser_none : (n : ℕ) → n ≡ lesser n 0
lesser_none n = go (eqb n 0) refl
  where
    go : (b : Bool) → eqb n 0 ≡ b → n ≡ cond b 0 n
    go true e = eqb-true n 0 e
    go false e = refl

lesser_numbered : (m n : ℕ) → lesser_of (numbered m) (numbered n) ≡ numbered (lesser m n)
lesser_numbered zero n = refl
lesser_numbered (suc m) zero = ap numbered (lesser_none (suc m))
lesser_numbered (suc m) (suc n) = rw (ne_eqb (suc m) 0 (λ e. let z : ⊥ = omega arith in z), ne_eqb (suc n) 0 (λ e. let z : ⊥ = omega arith in z)) (go (ltb (suc n) (suc m)) refl)
  where
    go : (b : Bool) → ltb (suc n) (suc m) ≡ b → Some (min (suc m) (suc n)) ≡ numbered (cond b (suc n) (suc m))
    go true e = let h = ltb-true (suc n) (suc m) e in ap Some (let z : min (suc m) (suc n) ≡ suc n = omega arith in z)
    go false e = let h = ltb-false (suc n) (suc m) e in ap Some (let z : min (suc m) (suc n) ≡ suc m = omega arith in z)

-- ---- by kind
abbrev pub either_of : Session → (quiet event : Bool) → Mailbox → Option Mailbox → Points
either_of s q e x None = plain q e (both_rights x) (met_of s x) (asking_of s x 3)
either_of s q e x (Some y) = plain q e (both_rights x) (met_of s x || met_of s y) (lesser_of (asking_of s x 3) (asking_of s y 3))

abbrev pub subscribing_by : Session → (quiet event : Bool) → Mailbox → Points
subscribing_by s q e x = let y = with_attributes x (with_subscribed x.attributes 1) in plain q e (both_rights x) (met_of s y) (asking_of s y 4)

abbrev pub subscribing_of : Session → Bool → Mailbox → ℕ → Points
subscribing_of s q x b = subscribing_by s q (switches x b) x

abbrev pub named_of : Session → List Mailbox → (quiet event : Bool) → Mailbox → Points
named_of s l q e x = either_of s q e x (cond (has_parent (name_of x)) (Some (parent_row l x)) None)

abbrev pub granting_of : Session → List Mailbox → Mailbox → ℕ → Points
granting_of s l x r = let y = with_rights x r in cond (may_list x) (named_of s l false (not (may_list y)) x) (named_of s l false (may_list y) y)

abbrev pub elsewhere_of : Session → Mailbox → ℕ → Points
elsewhere_of s x k = plain false true (both_rights x) (met_of s x) (asking_of s x k)

abbrev pub selected_of : Session → Mailbox → ℕ → (unannounced : Bool) → Option ℕ → Points
selected_of s x k u w = record {
  quiet = false;
  event = true;
  rights = both_rights x;
  met = anyb (λ (g : Group). is_selecting g.selector) (groups_of s);
  asking = numbered (number (selected_in k) (groups_of s));
  unannounced = u;
  waiting = w;
}

-- a message, by the id in its record and the row with it
abbrev pub arriving_of : Session → ℕ → Mailbox → Points
arriving_of s i x = cond (is_here s i) (selected_of s x 0 false (waiting_for (not (selected_asks s asks_new)) 0)) (elsewhere_of s x 0)

abbrev pub expunging_of : Session → ℕ → Mailbox → ℕ → Points
expunging_of s i x u = let told = ltb u s.told in cond (is_here s i) (selected_of s x 1 (not told) (waiting_for (told && not (immediate_asks s asks_expunge)) 1)) (elsewhere_of s x 1)

abbrev pub reflagging_of : Session → ℕ → Mailbox → ℕ → Points
reflagging_of s i x u =
    let told = ltb u s.told in
    cond (is_here s i) (selected_of s x 2 (not told) (waiting_for (told && (not (selected_asks s asks_flags) && eqb s.notified 0)) 0)) (elsewhere_of s x 2)

none_shown : (s : Session) → plain false false false false None ≡ shown s R.none
none_shown s = ap₂ (λ (g : Bool) (n : ℕ). plain false false false g (numbered n)) (sym (any_held false (λ (g : Group). false) (groups_of s))) (sym (number_held false (λ (g : Group). false) (groups_of s)))

-- ---- they are the rules' points
module _ (m : Memory) where
  abbrev s : Session
  s = m.session

  -- two rows, the second where `two` says so
  abbrev pair_of : (quiet event : Bool) → Mailbox → Bool → Mailbox → R.Points
  pair_of q e x two y =
      R.plainly m q e x (λ (g : Group). met_by m x g || (two && met_by m y g)) (λ (g : Group). asks_of m asks_name x g || (two && asks_of m asks_name y g))

  pair_shown : (q e : Bool) (x : Mailbox) (two : Bool) (y : Mailbox) → either_of s q e x (cond two (Some y) None) ≡ shown s (pair_of q e x two y)
  pair_shown q e x two y =
      go two
      ∙ ap₂ (λ (g : Bool) (n : ℕ). plain q e (both_rights x) g (numbered n))
      (sym (any_or (met_by m x) (λ (g : Group). two && met_by m y g) (groups_of s) ∙ ap (λ (b : Bool). anyb (met_by m x) (groups_of s) || b) (any_held two (met_by m y) (groups_of s))))
      (sym (number_or (asks_of m asks_name x) (λ (g : Group). two && asks_of m asks_name y g) (groups_of s) ∙ ap (lesser (number (asks_of m asks_name x) (groups_of s))) (number_held two (asks_of m asks_name y) (groups_of s))))
    where
      first : ℕ
      first = number (asks_of m asks_name x) (groups_of s)

      second : ℕ
      second = number (asks_of m asks_name y) (groups_of s)

      go : (b : Bool) → either_of s q e x (cond b (Some y) None) ≡ plain q e (both_rights x) (anyb (met_by m x) (groups_of s) || (b && anyb (met_by m y) (groups_of s))) (numbered (lesser first (cond b second 0)))
      go true = ap (plain q e (both_rights x) (met_of s x || met_of s y)) (lesser_numbered first second)
      go false = ap₂ (plain q e (both_rights x)) (sym (or-false (met_of s x))) (ap numbered (lesser_none first))

  pub created_shown : (i b q v c : ℕ) (n : Name) → named_of s (boxes m) (is_quiet q) true (new_box i b v c n) ≡ shown s (points m (create i b q v c n))
  unfolding points
  created_shown i b q v c n = let x = new_box i b v c n in pair_shown (is_quiet q) true x (has_parent (name_of x)) (parent_row (boxes m) x)

  pub deleted_shown : (i q : ℕ) → named_of s (boxes m) (is_quiet q) true (the_mailbox i (boxes m)) ≡ shown s (points m (delete i q))
  unfolding points
  deleted_shown i q = let x = the_mailbox i (boxes m) in pair_shown (is_quiet q) true x (has_parent (name_of x)) (parent_row (boxes m) x)

  pub renamed_shown : (i q : ℕ) (n : Name) → either_of s (is_quiet q) true (the_mailbox i (boxes m)) (Some (with_name (the_mailbox i (boxes m)) n)) ≡ shown s (points m (rename i q n))
  unfolding points
  renamed_shown i q n = pair_shown (is_quiet q) true (the_mailbox i (boxes m)) true (with_name (the_mailbox i (boxes m)) n)

  pub subscribed_shown : (i b q : ℕ) → subscribing_of s (is_quiet q) (the_mailbox i (boxes m)) b ≡ shown s (points m (subscribe i b q))
  unfolding points
  subscribed_shown i b q = refl

  pub granted_shown : (i r : ℕ) → granting_of s (boxes m) (the_mailbox i (boxes m)) r ≡ shown s (points m (grant i r))
  unfolding points
  granted_shown i r = go (may_list x)
    where
      x : Mailbox
      x = the_mailbox i (boxes m)

      y : Mailbox
      y = with_rights x r

      go : (b : Bool) → cond b (named_of s (boxes m) false (not (may_list y)) x) (named_of s (boxes m) false (may_list y) y)
          ≡ shown s (cond b (R.named m false (not (may_list y)) x) (R.named m false (may_list y) y))
      go true = pair_shown false (not (may_list y)) x (has_parent (name_of x)) (parent_row (boxes m) x)
      go false = pair_shown false (may_list y) y (has_parent (name_of y)) (parent_row (boxes m) y)

  -- a message's mailbox is the selected one where it has that id
  message_shown : (i k : ℕ) (u w : Bool) (c : ℕ)
      → cond (is_here s i) (selected_of s (the_mailbox i (boxes m)) k u (waiting_for w c)) (elsewhere_of s (the_mailbox i (boxes m)) k)
      ≡ shown s (cond (is_selected m i) (R.in_selected m (asks_bit k) u w c) (R.elsewhere m (the_mailbox i (boxes m)) (asks_bit k)))
  message_shown i k u w c = go (is_selected m i) refl
    where
      go : (b : Bool) → is_selected m i ≡ b
          → cond b (selected_of s (the_mailbox i (boxes m)) k u (waiting_for w c)) (elsewhere_of s (the_mailbox i (boxes m)) k)
          ≡ shown s (cond b (R.in_selected m (asks_bit k) u w c) (R.elsewhere m (the_mailbox i (boxes m)) (asks_bit k)))
      go true e = ap (λ (j : ℕ). selected_of s (the_mailbox j (boxes m)) k u (waiting_for w c)) (eqb-true i s.selected (and_r (not (eqb i 0)) (eqb i s.selected) e))
      go false e = refl

  pub arrived_shown : (i u f z c : ℕ) → arriving_of s i (the_mailbox i (boxes m)) ≡ shown s (points m (arrive i u f z c))
  unfolding points
  arrived_shown i u f z c = message_shown i 0 false (not (selected_asks s asks_new)) 0

  pub expunged_shown : (i u c : ℕ) → expunging_of s i (the_mailbox i (boxes m)) u ≡ shown s (points m (expunge i u c))
  unfolding points
  expunged_shown i u c = message_shown i 1 (not (ltb u s.told)) (ltb u s.told && not (immediate_asks s asks_expunge)) 1

  pub reflagged_shown : (i u f c : ℕ) → reflagging_of s i (the_mailbox i (boxes m)) u ≡ shown s (points m (reflag i u f c))
  unfolding points
  reflagged_shown i u f c = message_shown i 2 (not (ltb u s.told)) (ltb u s.told && (not (selected_asks s asks_flags) && eqb s.notified 0)) 0

  -- a record that is no event
  pub still_shown : (r : Record) → changes r ≡ false → plain false false false false None ≡ shown s (points m r)
  unfolding points
  still_shown (create i b q v c n) h = tf true refl h
  still_shown (delete i q) h = tf true refl h
  still_shown (rename i q n) h = tf true refl h
  still_shown (subscribe i b q) h = tf true refl h
  still_shown (grant i r) h = tf true refl h
  still_shown (arrive i u f z c) h = tf true refl h
  still_shown (expunge i u c) h = tf true refl h
  still_shown (reflag i u f c) h = tf true refl h
  still_shown (select i) h = none_shown s
  still_shown (ended c) h = none_shown s
  still_shown (command t) h = none_shown s
  still_shown (drained n) h = none_shown s
  still_shown record_of_none h = none_shown s

-- ---- for every memory with this session and these rows
abbrev pub Shows : Session → List Mailbox → Points → Record → Type 0
Shows s l p r = (m : Memory) → m.session ≡ s → boxes m ≡ l → p ≡ shown s (points m r)

pub shows : (s : Session) (l : List Mailbox) (p : Session → List Mailbox → Points) (r : Record) → ((m : Memory) → p m.session (boxes m) ≡ shown m.session (points m r)) → Shows s l (p s l) r
shows s l p r h m e f = ap₂ p (sym e) (sym f) ∙ (h m ∙ ap (λ (t : Session). shown t (points m r)) e)

-- a valid name is the argument that it gives
pub argument-valid : (n : Name) → valid n ≡ true → argument n ≡ fold n
argument-valid n h = rw h
