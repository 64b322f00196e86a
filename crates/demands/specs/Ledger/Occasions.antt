-- What waits is told by the first command end or NOTIFY SET that may carry it and has room; when all was told. Assumes nothing.
use Rattle.std.specs.Prelude.{◌≡◌, refl, List, [], ◌∷◌, ◌++◌, Bool, true, false, not, cond, ◌&&◌, ◌||◌, ℕ, ◌+◌, ◌-◌, ◌≤◌, eqb, leb, ltb, length}
use Rattle.std.proofs.Common.{sym, ◌∙◌, ap, arith, leb-true, le-leb, eqb-true, eq-eqb, length-append}
use Rattle.model.specs.Lists.{keep, filterb, anyb}
use Rattle.model.specs.Laws.{tf, and_l, and_r, or_true, and-true}
use Rattle.model.specs.Memory.{Memory, mails, selected_box, both_rights, uid_of, expunged, marked, is_message, in_mailbox, by_uid}
use Rattle.model.specs.Lines.{Line, expunge, render, render_all}
use Rattle.model.specs.Queue.{fitting}
use Rattle.model.specs.View.{announced, selected_messages, view, unannounced, expunge_lines, flags_line, marked_lines, exists_line, remainder, owed_lines, owed}
use Rattle.model.specs.Lawful.{message_ok, state_ok}
use Rattle.demands.specs.Lasting.Law.{Law}
use Rattle.model.specs.declared.Message.{Message}
use Rattle.model.specs.Fates.{Debt, arrival, removal, marking, lowest_class, tells, is_notice, is_exists, is_removal, is_marking}
use Rattle.model.specs.Due.{Account, waiting}
use Rattle.model.specs.Account.{notices}
use Rattle.demands.specs.Ledger.Each.{All, none, also, all_yes, all_to, any_append, any_filtered, any_ordered}
use Rattle.demands.specs.Ledger.Entries.{present, state_of}
use Rattle.demands.specs.Ledger.Plain.{inert_one, aside_inert}
use Rattle.demands.specs.Ledger.Books.{exists_some, Books}

-- ---- which lines are among those owed
pub any-expunge : (u n : ℕ) (v : List Message) → anyb (is_removal u) (expunge_lines n v) ≡ anyb (λ (e : Message). expunged e && eqb u (uid_of e)) v
unfolding expunge_lines
any-expunge u n [] = refl
any-expunge u n (e ∷ v) = go (expunged e) (any-expunge u n v) (any-expunge u (n + 1) v)
  where
    go : (c : Bool) → anyb (is_removal u) (expunge_lines n v) ≡ anyb (λ (d : Message). expunged d && eqb u (uid_of d)) v
        → anyb (is_removal u) (expunge_lines (n + 1) v) ≡ anyb (λ (d : Message). expunged d && eqb u (uid_of d)) v
        → anyb (is_removal u) (cond c (expunge (record { 0 = n }) e.uid ∷ expunge_lines n v) (expunge_lines (n + 1) v))
        ≡ ((c && eqb u (uid_of e)) || anyb (λ (d : Message). expunged d && eqb u (uid_of d)) v)
    go true x y = ap (λ (b : Bool). eqb u (uid_of e) || b) x
    go false x y = y

any-marked : (u n : ℕ) (v : List Message) → anyb (is_marking u) (marked_lines n v) ≡ anyb (λ (e : Message). marked e && eqb u (uid_of e)) v
unfolding marked_lines
any-marked u n [] = refl
any-marked u n (e ∷ v) = go (marked e) (any-marked u (n + 1) v)
  where
    go : (c : Bool) → anyb (is_marking u) (marked_lines (n + 1) v) ≡ anyb (λ (d : Message). marked d && eqb u (uid_of d)) v
        → anyb (is_marking u) (cond c (flags_line n e ∷ marked_lines (n + 1) v) (marked_lines (n + 1) v)) ≡ ((c && eqb u (uid_of e)) || anyb (λ (d : Message). marked d && eqb u (uid_of d)) v)
    go true x = rw (and-true (eqb u (uid_of e))) (ap (λ (b : Bool). eqb u (uid_of e) || b) x)
    go false x = x

-- the message with these states is among the entries
state_any : (s u n : ℕ) (p : Message → Bool) → eqb 0 n ≡ false → {es : List Message} → All (λ (e : Message). is_message s u e ≡ true → eqb e.states n ≡ true → p e ≡ true) es
    → eqb (state_of s u es) n ≡ true → anyb p es ≡ true
unfolding state_of
state_any s u n p z none h = tf (eqb 0 n) h z
state_any s u n p z (also {x = e} {l = es} q r) h = go (is_message s u e) refl (state_any s u n p z r)
  where
    go : (c : Bool) → is_message s u e ≡ c → (eqb (state_of s u es) n ≡ true → anyb p es ≡ true) → (p e || anyb p es) ≡ true
    go true g ih = rw (q g (rw g at h))
    go false g ih = rw (ih (rw g at h)) (or_true (p e))

present_any : (s u : ℕ) (p : Message → Bool) {es : List Message} → All (λ (e : Message). is_message s u e ≡ true → p e ≡ true) es → present s u es ≡ true → anyb p es ≡ true
unfolding present
present_any s u p none h = h
present_any s u p (also {x = e} {l = es} q r) h = go (is_message s u e) refl (present_any s u p r)
  where
    go : (c : Bool) → is_message s u e ≡ c → (anyb (is_message s u) es ≡ true → anyb p es ≡ true) → (p e || anyb p es) ≡ true
    go true g ih = rw (q g)
    go false g ih = rw (ih (rw g at h)) (or_true (p e))

-- in the three parts of what is owed
pub owed_parts : (m : Memory) (p : Line → Bool) (c : ℕ)
    → anyb p (owed_lines m c) ≡ (anyb p (cond (eqb c 1) (expunge_lines 1 (view m)) []) ||
    (anyb p (exists_line (length (remainder m c)) (unannounced m)) || anyb p (marked_lines 1 (remainder m c))))
owed_parts m p c = any_append p (cond (eqb c 1) (expunge_lines 1 (view m)) []) (exists_line (length (remainder m c)) (unannounced m) ++ marked_lines 1 (remainder m c))
    ∙ ap (λ (x : Bool). anyb p (cond (eqb c 1) (expunge_lines 1 (view m)) []) || x) (any_append p (exists_line (length (remainder m c)) (unannounced m)) (marked_lines 1 (remainder m c)))

module _ (m : Memory) (k : Law m) (a : Account) (b : Books m a) where
  abbrev s : ℕ
  s = m.session.selected

  in-view : (p : Message → Bool) → anyb p (view m) ≡ anyb (λ (e : Message). in_mailbox s e && (announced m e && p e)) (mails m)
  in-view p = any_filtered p (announced m) (selected_messages m)
      ∙ (any_ordered by_uid (λ (e : Message). announced m e && p e) (filterb (in_mailbox s) (mails m)) ∙ any_filtered (λ (e : Message). announced m e && p e) (in_mailbox s) (mails m))

  -- a message of the selected mailbox with states is announced
  stately : (u n : ℕ) → eqb 0 n ≡ false → eqb n 0 ≡ false → (p : Message → Bool) → ((e : Message) → uid_of e ≡ u → e.states ≡ n → p e ≡ true) → eqb (state_of s u (mails m)) n ≡ true
      → anyb p (view m) ≡ true
  stately u n z zn p h t = in-view p ∙ state_any s u n (λ (e : Message). in_mailbox s e && (announced m e && p e)) z (all_to one (all_yes (state_ok m.session) (mails m) k.states)) t
    where
      one : (e : Message) → state_ok m.session e ≡ true → is_message s u e ≡ true → eqb e.states n ≡ true → (in_mailbox s e && (announced m e && p e)) ≡ true
      one e o g q =
          let i = and_l (in_mailbox s e) _ g in
          let w : e.states ≡ n = eqb-true e.states n q in
          let y : uid_of e ≡ u = eqb-true (uid_of e) u (and_r (in_mailbox s e) _ g) in
          let v : announced m e ≡ true = rw (w, zn, i) at o in
          rw (i, v) (h e y w)

  middle : (x y z : Bool) → y ≡ true → (x || (y || z)) ≡ true
  middle x y z h = rw h (or_true x)

  last : (x y z : Bool) → z ≡ true → (x || (y || z)) ≡ true
  last x y z h = rw (h, or_true y) (or_true x)

  gone-owed : (u c : ℕ) → eqb c 1 ≡ true → eqb (state_of s u (mails m)) 1 ≡ true → anyb (is_removal u) (cond (eqb c 1) (expunge_lines 1 (view m)) []) ≡ true
  gone-owed u c h t = rw h (any-expunge u 1 (view m) ∙ stately u 1 refl refl (λ (e : Message). expunged e && eqb u (uid_of e)) (λ e y w. rw (w, y) (eq-eqb u u refl)) t)

  marks-owed : (u : ℕ) (c : Bool) → eqb (state_of s u (mails m)) 2 ≡ true → anyb (is_marking u) (marked_lines 1 (cond c (filterb (λ (e : Message). not (expunged e)) (view m)) (view m))) ≡ true
  marks-owed u true t = any-marked u 1 (filterb (λ (e : Message). not (expunged e)) (view m))
      ∙ (any_filtered (λ (e : Message). marked e && eqb u (uid_of e)) (λ (e : Message). not (expunged e)) (view m)
      ∙ stately u 2 refl refl (λ (e : Message). not (expunged e) && (marked e && eqb u (uid_of e))) (λ e y w. rw (w, y) (eq-eqb u u refl)) t)
  marks-owed u false t = any-marked u 1 (view m) ∙ stately u 2 refl refl (λ (e : Message). marked e && eqb u (uid_of e)) (λ e y w. rw (w, y) (eq-eqb u u refl)) t

  news-owed : (u n : ℕ) → (present s u (mails m) && not (ltb u m.session.told)) ≡ true → anyb is_exists (exists_line n (unannounced m)) ≡ true
  news-owed u n t = exists_some n (unannounced m) ∙ (any_filtered (λ (e : Message). true) (λ (e : Message). not (announced m e)) (selected_messages m)
      ∙ (any_ordered by_uid (λ (e : Message). not (announced m e) && true) (filterb (in_mailbox s) (mails m)) ∙ (any_filtered (λ (e : Message). not (announced m e) && true) (in_mailbox s) (mails m)
      ∙ present_any s u (λ (e : Message). in_mailbox s e && (not (announced m e) && true)) (all_to one (all_yes message_ok (mails m) k.mail)) (and_l (present s u (mails m)) _ t))))
    where
      one : (e : Message) → message_ok e ≡ true → is_message s u e ≡ true → (in_mailbox s e && (not (announced m e) && true)) ≡ true
      one e o g = rw (and_l (in_mailbox s e) _ g, eqb-true (uid_of e) u (and_r (in_mailbox s e) _ g), and_r (present s u (mails m)) _ t)

  -- what waits is among what is owed to a class that may carry it
  pub owed-tells : (c : ℕ) → leb c 1 ≡ true → both_rights (selected_box m) ≡ true → (d : Debt) → leb (lowest_class d) c ≡ true → waiting a.fates d ≡ true → tells (owed m c) d ≡ true
  owed-tells c l r (removal u) h t =
      let x = leb-true c 1 l in
      let y = leb-true 1 c h in
      rw r (owed_parts m (is_removal u) c ∙ rw (gone-owed u c (eq-eqb c 1 (omega arith)) (sym (b.removals u) ∙ t)))
  owed-tells c l r (marking u) h t = rw r
      (owed_parts m (is_marking u) c ∙ last (anyb (is_marking u) (cond (eqb c 1) (expunge_lines 1 (view m)) [])) (anyb (is_marking u) (exists_line (length (remainder m c)) (unannounced m)))
      (anyb (is_marking u) (marked_lines 1 (remainder m c))) (marks-owed u (eqb c 1) (sym (b.markings u) ∙ t)))
  owed-tells c l r (arrival u) h t = rw r
      (owed_parts m is_exists c ∙ middle (anyb is_exists (cond (eqb c 1) (expunge_lines 1 (view m)) [])) (anyb is_exists (exists_line (length (remainder m c)) (unannounced m)))
      (anyb is_exists (marked_lines 1 (remainder m c))) (news-owed u (length (remainder m c)) (sym (b.arrivals u) ∙ t)))

-- class 1 may carry all that waits
pub last-class : (d : Debt) → leb (lowest_class d) 1 ≡ true
last-class (arrival u) = refl
last-class (removal u) = refl
last-class (marking u) = refl

-- ---- when all that is owed is written
pub fitting_all : (free : ℕ) (ls : List Line) → length (render_all ls) ≤ free → fitting free ls ≡ ls
unfolding fitting render_all
fitting_all free [] h = refl
fitting_all free (l ∷ ls) h =
    let n = length-append (render l) (render_all ls) in
    rw (le-leb (length (render l)) free (omega arith)) (ap (λ (t : List Line). l ∷ t) (fitting_all (free - length (render l)) ls (omega arith)))

-- the count of lines left is 0 just then
pub fitting-counted : (free : ℕ) (ls : List Line) → length ls - length (fitting free ls) ≡ 0 → fitting free ls ≡ ls
unfolding fitting
fitting-counted free [] h = refl
fitting-counted free (l ∷ ls) h = go (leb (length (render l)) free) refl (fitting-counted (free - length (render l)) ls)
  where
    go : (c : Bool) → leb (length (render l)) free ≡ c → (length ls - length (fitting (free - length (render l)) ls) ≡ 0 → fitting (free - length (render l)) ls ≡ ls)
        → cond c (l ∷ fitting (free - length (render l)) ls) [] ≡ l ∷ ls
    go true e ih = let z = rw e at h in ap (λ (t : List Line). l ∷ t) (ih (omega arith))
    go false e ih = let z = rw e at h in absurd (let w : ⊥ = omega arith in w)

-- ---- notices alone tell what waits
any_noticed : (p : Line → Bool) → ((l : Line) → is_notice l ≡ false → p l ≡ false) → (ls : List Line) → anyb p (notices ls) ≡ anyb p ls
any_noticed p h [] = refl
any_noticed p h (l ∷ ls) = go (is_notice l) refl (any_noticed p h ls)
  where
    go : (c : Bool) → is_notice l ≡ c → anyb p (notices ls) ≡ anyb p ls → anyb p (keep c l (notices ls)) ≡ (p l || anyb p ls)
    go true e ih = ap (λ (b : Bool). p l || b) ih
    go false e ih = rw (h l e) ih

pub tells-notices : (m : Memory) (ls : List Line) (d : Debt) → tells (notices ls) d ≡ tells ls d
tells-notices m ls (arrival u) = any_noticed is_exists (λ l h. (inert_one m l (aside_inert l h)).1.1.1) ls
tells-notices m ls (removal u) = any_noticed (is_removal u) (λ l h. (inert_one m l (aside_inert l h)).1.0 u) ls
tells-notices m ls (marking u) = any_noticed (is_marking u) (λ l h. (inert_one m l (aside_inert l h)).1.1.0 u) ls
