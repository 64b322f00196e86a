-- What the end of a command does not write stays owed, line for line, and its answer counts these lines (01, Written, 20 and 21). Assumes nothing.
use Rattle.std.specs.Prelude.{◌≡◌, refl, List, [], ◌∷◌, ◌++◌, map, Bool, true, false, not, cond, ◌||◌, ℕ, zero, suc, ◌+◌, ◌-◌, eqb, leb, ltb, length, take, drop}
use Rattle.std.proofs.Common.{ap, ap₂, sym, ◌∙◌, arith, eqb-true, ne_eqb, ltb-true, ltb-false, le-leb, length-drop}
use Rattle.std.proofs.lemmas.Bool.{not-true}
use Rattle.model.specs.Lists.{filterb, allb}
use Rattle.model.specs.Laws.{and_false, filter_swap, filter-filter, filter-every, filter_none, filter_map, all_filtered, all_passed, all-sorted}
use Rattle.model.specs.Memory.{Memory, boxes, mails, selected_box, both_rights, messages_of, uid_of, is_message, in_mailbox, by_uid, with_states, drop_mails, change_mails}
use Rattle.model.specs.Lines.{Line, render, render_all}
use Rattle.model.specs.Queue.{room, fitting, enqueue, unmark, effect, effects}
use Rattle.model.specs.View.{announced, selected_messages, view, unannounced, owed}
use Rattle.model.specs.Rules.{end_lines, ended_at}
use Rattle.model.specs.Lawful.{owned, state_ok}
use Rattle.model.specs.declared.Message.{Message}
use Rattle.model.specs.declared.Answer.TheVariants.{Counted}
use Rattle.demands.specs.Isolation.Alike.{mails_with}
use Rattle.demands.specs.Lasting.Law.{Law}
use Rattle.demands.specs.Lasting.Rows.{all_imp, all_both, owned_next}
use Rattle.demands.specs.Lasting.Spoken.{law-effect, law-fits, fitting-fits}
use Rattle.demands.specs.Lasting.Rising.{Rising, rising-filter, rising_parts, rising_messages, messages-filter, messages-map}
use Rattle.demands.specs.Lasting.Dues.{waitless, dues, First, removes, announces, unmarks, first_line}

-- ---- the lists that a line is owed by, in lawful memory
module _ (m : Memory) (k : Law m) where
  abbrev i : ℕ
  i = m.session.selected

  abbrev unseen : Message → Bool
  unseen e = not (announced m e)

  listed : allb (in_mailbox i) (selected_messages m) ≡ true
  listed = all-sorted (in_mailbox i) by_uid (filterb (in_mailbox i) (mails m)) (all_passed (in_mailbox i) (mails m))

  rising : Rising 0 (selected_messages m)
  rising = rising_messages i (mails m) k.twins

  -- what is not announced waits for nothing
  idle : allb waitless (unannounced m) ≡ true
  idle =
      let s = all-sorted (state_ok m.session) by_uid (filterb (in_mailbox i) (mails m)) (all_filtered (state_ok m.session) (in_mailbox i) (mails m) k.states) in
      all_both (state_ok m.session) unseen waitless one (unannounced m) (all_filtered (state_ok m.session) unseen (selected_messages m) s) (all_passed unseen (selected_messages m))
    where
      one : (e : Message) → state_ok m.session e ≡ true → unseen e ≡ true → eqb e.states 0 ≡ true
      one e o u = go (eqb e.states 0) (rw (not-true (announced m e) u, and_false (in_mailbox i e)) at o)
        where
          go : (b : Bool) → (b || false) ≡ true → b ≡ true
          go true h = refl
          go false h = h

  -- all lie below UIDNEXT
  abbrev low : Message → Bool
  low e = ltb (uid_of e) (selected_box m).uidnext

  near : allb low (selected_messages m) ≡ true
  near =
      let o = all_filtered (owned (boxes m)) (in_mailbox i) (mails m) k.owners in
      all-sorted low by_uid (filterb (in_mailbox i) (mails m)) (all_both (owned (boxes m)) (in_mailbox i) low one (filterb (in_mailbox i) (mails m)) o (all_passed (in_mailbox i) (mails m)))
    where
      one : (e : Message) → owned (boxes m) e ≡ true → in_mailbox i e ≡ true → low e ≡ true
      one e o h = rw (eqb-true e.mailbox i h) at (owned_next (boxes m) e o)

  -- ---- what each of the three lines leaves
  module _ (c : ℕ) (ls : List Line) (both : both_rights (selected_box m) ≡ true) where
    after_line : {l : Line} → First i m.session.told (eqb c 1) (view m) (unannounced m) ls l → owed (effect m l) c ≡ ls
    after_line (removes n u b e) = rw both (ap₂ (dues (eqb c 1)) seen same ∙ e)
      where
        keeps : Message → Bool
        keeps x = not (is_message i u.0 x)

        gone : selected_messages (drop_mails m (is_message i u.0)) ≡ filterb keeps (selected_messages m)
        gone = ap (messages_of i) (mails_with m (filterb keeps (mails m))) ∙ messages-filter i keeps (mails m) k.twins

        seen : view (drop_mails m (is_message i u.0)) ≡ filterb keeps (view m)
        seen = ap (filterb (announced m)) gone ∙ filter_swap (announced m) keeps (selected_messages m)

        same : unannounced (drop_mails m (is_message i u.0)) ≡ unannounced m
        same = ap (filterb unseen) gone ∙ filter-filter unseen keeps (selected_messages m) far
          where
            far : (e : Message) → unseen e ≡ true → keeps e ≡ true
            far e h =
                let x = ltb-true u.0 m.session.told b in
                let y = ltb-false (uid_of e) m.session.told (not-true (announced m e) h) in
                rw (ne_eqb (uid_of e) u.0 (λ q. (let z : ⊥ = omega arith in z)), and_false (in_mailbox i e))
    after_line (announces n e) = rw both (ap₂ (dues (eqb c 1)) all none ∙ e)
      where
        all : filterb low (selected_messages m) ≡ view m ++ unannounced m
        all = filter-every low (selected_messages m) near ∙ sym (rising_parts m.session.told 0 (selected_messages m) rising)

        none : filterb (λ (x : Message). not (low x)) (selected_messages m) ≡ []
        none = filter_none (λ (x : Message). not (low x)) (selected_messages m) (all_imp low (λ (x : Message). not (not (low x))) (λ x h. rw h) (selected_messages m) near)
    after_line (unmarks p x e) = rw both (ap₂ (dues (eqb c 1)) seen same ∙ e)
      where
        f : Message → Message
        f = unmark i (uid_of x)

        kept : (b : Bool) (d : Message) → (in_mailbox i (cond b (with_states d 0) d) ≡ in_mailbox i d) × (announced m (cond b (with_states d 0) d) ≡ announced m d)
        kept true d = (refl, refl)
        kept false d = (refl, refl)

        order : (a b : Bool) (d g : Message) → by_uid (cond a (with_states d 0) d) (cond b (with_states g 0) g) ≡ by_uid d g
        order true true d g = refl
        order true false d g = refl
        order false true d g = refl
        order false false d g = refl

        changed : selected_messages (change_mails m f) ≡ map f (selected_messages m)
        changed = ap (messages_of i) (mails_with m (map f (mails m)))
            ∙ messages-map i f (λ d. (kept (is_message i (uid_of x) d) d).0) (λ d g. order (is_message i (uid_of x) d) (is_message i (uid_of x) g) d g) (mails m)

        seen : view (change_mails m f) ≡ map f (view m)
        seen = ap (filterb (announced m)) changed ∙ filter_map f (announced m) (λ d. (kept (is_message i (uid_of x) d) d).1) (selected_messages m)

        same : unannounced (change_mails m f) ≡ map f (unannounced m)
        same = ap (filterb unseen) changed ∙ filter_map f unseen (λ d. ap not (kept (is_message i (uid_of x) d) d).1) (selected_messages m)

  -- the first line owed leaves the others owed
  next-owed : (c : ℕ) (l : Line) (ls : List Line) → owed m c ≡ l ∷ ls → owed (effect m l) c ≡ ls
  next-owed c l ls e = go (both_rights (selected_box m)) refl e
    where
      go : (b : Bool) → both_rights (selected_box m) ≡ b → cond b (dues (eqb c 1) (view m) (unannounced m)) [] ≡ l ∷ ls → owed (effect m l) c ≡ ls
      go true h q =
          let r = rising-filter (announced m) 0 (selected_messages m) rising in
          let a = all_filtered (in_mailbox i) (announced m) (selected_messages m) listed in
          after_line c ls h (first_line i m.session.told (view m) r a (all_passed (announced m) (selected_messages m)) (eqb c 1) (unannounced m) idle l ls q)
      go false h q = let z : ◌≡◌ {A = ℕ} 0 1 = cc in absurd (let b : ⊥ = omega arith in b)

-- ---- as many of them as are written
pub rest_owed : (n : ℕ) (m : Memory) → Law m → (c : ℕ) → owed (effects m (take n (owed m c))) c ≡ drop n (owed m c)
unfolding effects
rest_owed zero m k c = refl
rest_owed (suc n) m k c = go (owed m c) refl (λ l. rest_owed n (effect m l) (law-effect m k l) c)
  where
    go : (ls : List Line) → owed m c ≡ ls → ((l : Line) → owed (effects (effect m l) (take n (owed (effect m l) c))) c ≡ drop n (owed (effect m l) c))
        → owed (effects m (take (suc n) ls)) c ≡ drop (suc n) ls
    go [] e ih = e
    go (l ∷ ls) e ih = let z = next-owed m k c l ls e in rw z at (ih l)

-- the lines that fit are the first of them
pub fitting-take : (free : ℕ) (ls : List Line) → fitting free ls ≡ take (length (fitting free ls)) ls
unfolding fitting
fitting-take free [] = refl
fitting-take free (l ∷ ls) = go (leb (length (render l)) free) (fitting-take (free - length (render l)) ls)
  where
    go : (b : Bool) → fitting (free - length (render l)) ls ≡ take (length (fitting (free - length (render l)) ls)) ls
        → cond b (l ∷ fitting (free - length (render l)) ls) [] ≡ take (length (cond b (l ∷ fitting (free - length (render l)) ls) [])) (l ∷ ls)
    go true ih = ap (λ (t : List Line). l ∷ t) ih
    go false ih = refl

-- after the end of a command of a class that class is owed the lines that were not written
pub left-owed : (m : Memory) → Law m → (c : ℕ) → owed (ended_at m c).after c ≡ drop (length (end_lines m c)) (owed m c)
left-owed m k c =
    let w = law-fits m k (render_all (end_lines m c)) (le-leb (length (render_all (end_lines m c))) (room m) (fitting-fits (room m) (owed m c))) in
    ap (λ (ls : List Line). owed (effects (enqueue m (render_all (end_lines m c))) ls) c) (fitting-take (room m) (owed m c))
    ∙ rest_owed (length (end_lines m c)) (enqueue m (render_all (end_lines m c))) w c

-- and its answer is how many they are
pub left-counted : (m : Memory) → Law m → (c : ℕ) → (ended_at m c).answer ≡ Counted (length (owed (ended_at m c).after c))
left-counted m k c = ap Counted (sym (ap length (left-owed m k c) ∙ length-drop (length (end_lines m c)) (owed m c)))
