-- Every kind of record, once accepted, leaves lawful memory lawful. Assumes nothing.
use Rattle.std.specs.Prelude.{◌≡◌, refl, List, [], ◌∷◌, ◌++◌, Bool, true, false, not, cond, ◌&&◌, ℕ, suc, ◌+◌, ◌%◌, ◌≤◌, ◌<◌, eqb, leb, ltb, length, drop, set}
use Rattle.std.proofs.Common.{ap, ◌∙◌, arith, leb-true, leb-false, le-leb, lt-ltb, ltb-true, ltb-false, eqb-true, eq-eqb, ne_eqb, length-append, length-set}
use Rattle.std.proofs.lemmas.Bool.{not-true}
use Rattle.model.specs.Lists.{filterb, allb, apart, same}
use Rattle.model.specs.Laws.{tf, and_l, and_r, or_true, all_filtered, all_passed, filter-length, each, all_hold}
use Rattle.model.specs.Names.{Name, valid, fold}
use Rattle.model.specs.Memory.{Memory, boxes, mails, name_of, known, the_mailbox, place, is_selected, in_mailbox, is_message, uid_of, with_attributes, with_next, with_name, counter_of, with_counter, with_flags, with_states, put_box, drop_box, drop_mails, change_mails}
use Rattle.model.specs.View.{expunge_at_once, flags_at_once, flags_wait}
use Rattle.model.specs.Events.{Event, new_box, created, deleted, renamed_to, with_subscribed, subscribed_to, with_rights, granted, message, arrived, in_view, expire, removed, reflag, mark, reflagged}
use Rattle.model.specs.Refusals.{held_by_another, stale}
use Rattle.model.specs.Rules.{raised}
use Rattle.model.specs.Lawful.{zeros, counter_ok, mailbox_ok, clash, message_ok, twin, owned, state_ok}
use Rattle.model.specs.declared.Mailbox.{Mailbox}
use Rattle.model.specs.declared.Message.{Message}
use Rattle.demands.specs.Isolation.Erase.{box_id}
use Rattle.demands.specs.Isolation.Alike.{boxes_fit, boxes_with, mails_with}
use Rattle.demands.specs.Lasting.NameLaws.{valid_short, name-stored, rest-stored}
use Rattle.demands.specs.Lasting.Ranges.{NameOk}
use Rattle.demands.specs.Lasting.Law.{Law, law-boxes, law-mails}
use Rattle.demands.specs.Lasting.Rows.{all_set, all_snoc, all_imp, all_both, any_none, apart_snoc, apart-filter, owned_next, owned-set, row-set, known_own, view-set, owned-snoc, view-snoc, owned_others, view_others}
use Rattle.demands.specs.Lasting.Raised.{counter_halves}
use Rattle.demands.specs.Lasting.Clash.{eqb_sym, none-clash, apart_put, apart_same}
use Rattle.demands.specs.Lasting.Spoken.{law-drop-mails, law-change, one_of, state_range, Kept}

-- ---- a row's own fields
-- the row that an id has is in order
pub row_ok : (i : ℕ) (l : List Mailbox) → known i l ≡ true → allb mailbox_ok l ≡ true → mailbox_ok (the_mailbox i l) ≡ true
unfolding place
row_ok i [] k e = tf false k refl
row_ok i (x ∷ l) k e = go (eqb x.id i) refl (row_ok i l)
  where
    go : (c : Bool) → eqb x.id i ≡ c → (known i l ≡ true → allb mailbox_ok l ≡ true → mailbox_ok (the_mailbox i l) ≡ true) → mailbox_ok (the_mailbox i (x ∷ l)) ≡ true
    go true g ih = rw g (and_l (mailbox_ok x) _ e)
    go false g ih = rw g (ih (lt-ltb (place i l) (length l) (let z = ltb-true (suc (place i l)) (suc (length l)) (rw g at k) in omega arith)) (and_r (mailbox_ok x) _ e))

-- the fields of a row in order
pub row_facts : (x : Mailbox) → mailbox_ok x ≡ true → (leb 1 x.id ≡ true) × (leb x.attributes 63 ≡ true) × (leb 1 x.uidvalidity ≡ true) × (leb 1 x.uidnext ≡ true) × (counter_ok (counter_of x) ≡ true) × (leb x.namelen 64 ≡ true) × (valid (name_of x) ≡ true) × (same (fold (name_of x)) (name_of x) ≡ true) × (zeros (drop x.namelen x.name) ≡ true)
row_facts x h =
    let e = each (leb 1 x.id ∷ leb x.attributes 63 ∷ leb 1 x.uidvalidity ∷ leb 1 x.uidnext ∷ counter_ok (counter_of x) ∷ leb x.namelen 64 ∷ valid (name_of x) ∷ same (fold (name_of x)) (name_of x) ∷ zeros (drop x.namelen x.name) ∷ []) h in
    (e.0, e.1.0, e.1.1.0, e.1.1.1.0, e.1.1.1.1.0, e.1.1.1.1.1.0, e.1.1.1.1.1.1.0, e.1.1.1.1.1.1.1.0, e.1.1.1.1.1.1.1.1.0)

row_made : (x : Mailbox) → leb 1 x.id ≡ true → leb x.attributes 63 ≡ true → leb 1 x.uidvalidity ≡ true → leb 1 x.uidnext ≡ true → counter_ok (counter_of x) ≡ true → leb x.namelen 64 ≡ true → valid (name_of x) ≡ true → same (fold (name_of x)) (name_of x) ≡ true → zeros (drop x.namelen x.name) ≡ true → mailbox_ok x ≡ true
row_made x a b c d t s e f g = all_hold (leb 1 x.id ∷ leb x.attributes 63 ∷ leb 1 x.uidvalidity ∷ leb 1 x.uidnext ∷ counter_ok (counter_of x) ∷ leb x.namelen 64 ∷ valid (name_of x) ∷ same (fold (name_of x)) (name_of x) ∷ zeros (drop x.namelen x.name) ∷ []) (a, (b, (c, (d, (t, (s, (e, (f, (g, tt)))))))))

new_ok : (i a v c : ℕ) (n : Name) → leb 1 i ≡ true → leb a 63 ≡ true → leb 1 v ≡ true → counter_ok c ≡ true → NameOk n → mailbox_ok (new_box i a v c n) ≡ true
new_ok i a v c n h b d t k = row_made (new_box i a v c n) h b d refl (ap counter_ok (counter_halves c) ∙ t) (valid_short n k.is_valid) (rw (name-stored n) k.is_valid) (rw (name-stored n) k.is_folded) (rest-stored n)

named_ok : (x : Mailbox) (n : Name) → mailbox_ok x ≡ true → NameOk n → mailbox_ok (with_name x n) ≡ true
named_ok x n h k = let f = row_facts x h in row_made (with_name x n) f.0 f.1 f.2 f.3 f.4 (valid_short n k.is_valid) (rw (name-stored n) k.is_valid) (rw (name-stored n) k.is_folded) (rest-stored n)

attributed-ok : (x : Mailbox) (a : ℕ) → mailbox_ok x ≡ true → leb a 63 ≡ true → mailbox_ok (with_attributes x a) ≡ true
attributed-ok x a h b = let f = row_facts x h in row_made (with_attributes x a) f.0 b f.2 f.3 f.4 f.5 f.6 f.7 f.8

next-ok : (x : Mailbox) (u : ℕ) → mailbox_ok x ≡ true → mailbox_ok (with_next x (u + 1)) ≡ true
next-ok x u h = let f = row_facts x h in row_made (with_next x (u + 1)) f.0 f.1 f.2 (le-leb 1 (u + 1) (omega arith)) f.4 f.5 f.6 f.7 f.8

counted-ok : (x : Mailbox) (c : ℕ) → mailbox_ok x ≡ true → counter_ok c ≡ true → mailbox_ok (with_counter x c) ≡ true
counted-ok x c h t = let f = row_facts x h in row_made (with_counter x c) f.0 f.1 f.2 f.3 (ap counter_ok (counter_halves c) ∙ t) f.5 f.6 f.7 f.8

module _ (m : Memory) (k : Law m) (i : ℕ) where
  -- ---- a row is set
  module _ (h : known i (boxes m) ≡ true) where
    own : mailbox_ok (the_mailbox i (boxes m)) ≡ true
    own = row_ok i (boxes m) h k.box

    set-fits : (y : Mailbox) → length (set (boxes m) (place i (boxes m)) y) ≤ length m.rows
    set-fits y = let n = length-set (boxes m) (place i (boxes m)) y in let f = boxes_fit m in omega arith

    law_put : (y : Mailbox) → y.id ≡ i → (the_mailbox i (boxes m)).uidnext ≤ y.uidnext → counter_of (the_mailbox i (boxes m)) ≤ counter_of y → mailbox_ok y ≡ true → apart clash (set (boxes m) (place i (boxes m)) y) ≡ true → Law (put_box m i y)
    law_put y q n t o c = law-boxes m k (set (boxes m) (place i (boxes m)) y) (set-fits y)
        (all_set mailbox_ok (boxes m) (place i (boxes m)) y k.box o) c
        (all_imp (owned (boxes m)) (owned (set (boxes m) (place i (boxes m)) y)) (owned-set i y q (boxes m) h n t) (mails m) k.owners)
        (view-set i y q (boxes m) h n m.session k.view)

    -- with its id and its name
    law_alter : (y : Mailbox) → y.id ≡ (the_mailbox i (boxes m)).id → name_of y ≡ name_of (the_mailbox i (boxes m)) → (the_mailbox i (boxes m)).uidnext ≤ y.uidnext → counter_of (the_mailbox i (boxes m)) ≤ counter_of y → mailbox_ok y ≡ true → Law (put_box m i y)
    law_alter y q r n t o = law_put y (q ∙ box_id i (boxes m) h) n t o (apart_same y (boxes m) (place i (boxes m)) q r ∙ k.apartness)

    pub renamed_law : (q : ℕ) (n : Name) → NameOk n → held_by_another m i n ≡ false → Kept m (renamed_to m i q n)
    renamed_law q n o free = record {
      law = law_put (with_name (the_mailbox i (boxes m)) n) (box_id i (boxes m) h) (omega arith) (omega arith) (named_ok (the_mailbox i (boxes m)) n own o)
          (apart_put i (with_name (the_mailbox i (boxes m)) n) (box_id i (boxes m) h) (boxes m) k.apartness (rw (name-stored n) free));
      session = refl;
      queue = refl;
      fill = refl;
    }

    pub subscribed_law : (b q : ℕ) → leb b 1 ≡ true → Kept m (subscribed_to m i b q)
    subscribed_law b q o =
        let x = the_mailbox i (boxes m) in
        let r = leb-true b 1 o in
        let a = leb-true x.attributes 63 (row_facts x own).1 in
        record {
          law = law_alter (with_attributes x (with_subscribed x.attributes b)) refl refl (omega arith) (omega arith) (attributed-ok x (with_subscribed x.attributes b) own (le-leb (with_subscribed x.attributes b) 63 (omega arith)));
          session = refl;
          queue = refl;
          fill = refl;
        }

    pub granted_law : (r : ℕ) → leb r 48 ≡ true → Kept m (granted m i r)
    granted_law r o =
        let x = the_mailbox i (boxes m) in
        let b = leb-true r 48 o in
        record {
          law = law_alter (with_rights x r) refl refl (omega arith) (omega arith) (attributed-ok x (x.attributes % 16 + r) own (le-leb (x.attributes % 16 + r) 63 (omega arith)));
          session = refl;
          queue = refl;
          fill = refl;
        }

    -- its counter rises
    pub raised_law : (c : ℕ) → counter_ok c ≡ true → stale m i c ≡ false → Law (raised m i c)
    raised_law c t s =
        let x = the_mailbox i (boxes m) in
        let a = leb-false c (counter_of x) s in
        let b = counter_halves c in
        law_alter (with_counter x c) refl refl (omega arith) (omega arith) (counted-ok x c own t)

    -- a message that arrives: no other of the mailbox has its UID, which UIDNEXT passes
    new-twin : (u f z c : ℕ) → (the_mailbox i (boxes m)).uidnext ≤ u → (d : Message) → owned (boxes m) d ≡ true → twin d (message i u f z c) ≡ false
    new-twin u f z c n d o = go (eqb d.mailbox i) refl
      where
        go : (b : Bool) → eqb d.mailbox i ≡ b → (eqb d.mailbox i && eqb (uid_of d) u) ≡ false
        go false e = rw e
        go true e =
            let a = ltb-true (uid_of d) (the_mailbox d.mailbox (boxes m)).uidnext (owned_next (boxes m) d o) in
            let b : uid_of d < (the_mailbox i (boxes m)).uidnext = rw (eqb-true d.mailbox i e) at a in
            rw (e, ne_eqb (uid_of d) u (λ q. let n : ⊥ = omega arith in n))

    pub arrived_law : (u f z c : ℕ) → leb 1 u ≡ true → leb f 31 ≡ true → leb z 4294967295 ≡ true → counter_ok c ≡ true → ltb u (the_mailbox i (boxes m)).uidnext ≡ false → leb c (counter_of (the_mailbox i (boxes m))) ≡ true → length (mails m) < length m.entries → Kept m (arrived m i u f z c)
    arrived_law u f z c a b d t free reached room =
        let n = ltb-false u (the_mailbox i (boxes m)).uidnext free in
        let y : Mailbox = with_next (the_mailbox i (boxes m)) (u + 1) in
        let l : List Mailbox = set (boxes m) (place i (boxes m)) y in
        let p : Law (put_box m i y) = law_alter y refl refl (omega arith) (omega arith) (next-ok (the_mailbox i (boxes m)) u own) in
        let e : boxes (put_box m i y) ≡ l = boxes_with m l in
        record {
          law = law-mails (put_box m i y) p (mails m ++ (message i u f z c ∷ []))
              (let w = length-append (mails m) (message i u f z c ∷ []) in omega arith)
              (all_snoc message_ok (mails m) (message i u f z c) k.mail (all_hold (leb 1 u ∷ leb f 31 ∷ leb z 4294967295 ∷ true ∷ counter_ok c ∷ []) (a, (b, (d, (refl, (t, tt)))))))
              (apart_snoc twin (mails m) (message i u f z c) k.twins (any_none (owned (boxes m)) (λ (d : Message). twin d (message i u f z c)) (new-twin u f z c n) (mails m) k.owners))
              (all_snoc (owned (boxes (put_box m i y))) (mails m) (message i u f z c) p.owners
              (rw (e, known_own i y (box_id i (boxes m) h) (boxes m) h, row-set i y (box_id i (boxes m) h) (boxes m) h, lt-ltb u (u + 1) (omega arith)) reached))
              (all_snoc (state_ok m.session) (mails m) (message i u f z c) k.states refl);
          session = refl;
          queue = refl;
          fill = refl;
        }

  -- ---- a row more, a row less
  pub created_law : (a q v c : ℕ) (n : Name) → leb 1 i ≡ true → leb a 63 ≡ true → leb 1 v ≡ true → counter_ok c ≡ true → NameOk n → known i (boxes m) ≡ false → held_by_another m i n ≡ false → length (boxes m) < length m.rows → Kept m (created m i a q v c n)
  created_law a q v c n b e d t o new free room = record {
    law = law-boxes m k (boxes m ++ (new_box i a v c n ∷ []))
        (let w = length-append (boxes m) (new_box i a v c n ∷ []) in omega arith)
        (all_snoc mailbox_ok (boxes m) (new_box i a v c n) k.box (new_ok i a v c n b e d t o))
        (apart_snoc clash (boxes m) (new_box i a v c n) k.apartness (none-clash (new_box i a v c n) (boxes m) new (rw (name-stored n) free)))
        (all_imp (owned (boxes m)) (owned (boxes m ++ (new_box i a v c n ∷ []))) (owned-snoc (boxes m) (new_box i a v c n)) (mails m) k.owners)
        (view-snoc (boxes m) (new_box i a v c n) m.session k.view);
    session = refl;
    queue = refl;
    fill = refl;
  }

  -- the messages of a mailbox go with its row; the selected one stays
  pub deleted_law : (q : ℕ) → known i (boxes m) ≡ true → is_selected m i ≡ false → Kept m (deleted m i q)
  deleted_law q h unselected = record { law = gone; session = refl; queue = refl; fill = refl }
    where
      away : Message → Bool
      away e = not (in_mailbox i e)

      pos : 1 ≤ i
      pos = leb-true 1 i (rw (box_id i (boxes m) h) at (row_facts (the_mailbox i (boxes m)) (row_ok i (boxes m) h k.box)).0)

      other : eqb m.session.selected i ≡ false
      other = eqb_sym m.session.selected i ∙ (rw (ne_eqb i 0 (λ z. let n : ⊥ = omega (arith, pos) in n)) at unselected)

      less : Law (drop_mails m (in_mailbox i))
      less = law-drop-mails m k (in_mailbox i)

      gone : Law (drop_box (drop_mails m (in_mailbox i)) i)
      gone = law-boxes (drop_mails m (in_mailbox i)) less (filterb (λ (x : Mailbox). not (eqb x.id i)) (boxes m))
          (let n = filter-length (λ (x : Mailbox). not (eqb x.id i)) (boxes m) in let f = boxes_fit m in omega arith)
          (all_filtered mailbox_ok (λ (x : Mailbox). not (eqb x.id i)) (boxes m) k.box)
          (apart-filter clash (λ (x : Mailbox). not (eqb x.id i)) (boxes m) k.apartness)
          (rw (mails_with m (filterb away (mails m)))
          (all_both away (owned (boxes m)) (owned (filterb (λ (x : Mailbox). not (eqb x.id i)) (boxes m))) (λ e a o. owned_others i (boxes m) e (not-true (in_mailbox i e) a) o) (filterb away (mails m))
          (all_passed away (mails m)) (all_filtered (owned (boxes m)) away (mails m) k.owners)))
          (view_others i (boxes m) m.session other k.view)

  -- ---- messages
  -- a message of the view may have states
  in-view : (u : ℕ) → in_view m i u ≡ true → (e : Message) (n : ℕ) → is_message i u e ≡ true → state_ok m.session (with_states e n) ≡ true
  in-view u v e n h =
      let a : e.mailbox ≡ i = eqb-true e.mailbox i (and_l (eqb e.mailbox i) (eqb (uid_of e) u) h) in
      let b : uid_of e ≡ u = eqb-true (uid_of e) u (and_r (eqb e.mailbox i) (eqb (uid_of e) u) h) in
      let c : i ≡ m.session.selected = eqb-true i m.session.selected (and_r (not (eqb i 0)) (eqb i m.session.selected) (and_l (is_selected m i) (ltb u m.session.told) v)) in
      let d : ltb u m.session.told ≡ true = and_r (is_selected m i) (ltb u m.session.told) v in
      rw (eq-eqb e.mailbox m.session.selected (a ∙ c), b, d) (or_true (eqb n 0))

  -- one of two events that are both kept
  either : (b : Bool) (x y : Event) → (b ≡ true → Kept m x) → (b ≡ false → Kept m y) → Kept m (cond b x y)
  either true x y l r = l refl
  either false x y l r = r refl

  pub removed_law : (u : ℕ) → Kept m (removed m i u)
  removed_law u = either (in_view m i u) _ _
      (λ v. either (expunge_at_once m) _ _
      (λ _. record { law = k; session = refl; queue = refl; fill = refl })
      (λ _. record {
        law = law-change m k (expire i u) (one_of (boxes m) m.session i u (λ (e : Message). with_states e 1) (λ e. refl) (λ e. refl) (λ e o. state_range e 1 refl o) (λ e h o. o) (λ e h o. in-view u v e 1 h));
        session = refl;
        queue = refl;
        fill = refl;
      }))
      (λ _. record { law = law-drop-mails m k (is_message i u); session = refl; queue = refl; fill = refl })

  flag_range : (e : Message) (f c : ℕ) → leb f 31 ≡ true → counter_ok c ≡ true → message_ok e ≡ true → message_ok (with_flags e f c) ≡ true
  flag_range e f c h t o =
      let g = each (leb 1 (uid_of e) ∷ leb e.flags 31 ∷ leb e.size 4294967295 ∷ leb e.states 2 ∷ counter_ok e.counter ∷ []) o in
      all_hold (leb 1 (uid_of e) ∷ leb f 31 ∷ leb e.size 4294967295 ∷ leb e.states 2 ∷ counter_ok c ∷ []) (g.0, (h, (g.1.1.0, (g.1.1.1.0, (t, tt)))))

  pub reflagged_law : (u f c : ℕ) → leb f 31 ≡ true → counter_ok c ≡ true → leb c (counter_of (the_mailbox i (boxes m))) ≡ true → Kept m (reflagged m i u f c)
  reflagged_law u f c o t reached = either (in_view m i u) _ _
      (λ v. either (flags_at_once m) _ _
      (λ _. record { law = after; session = refl; queue = refl; fill = refl })
      (λ _. either (flags_wait m) _ _
      (λ _. record {
        law = law-change (change_mails m (reflag i u f c)) after (mark i u) (one_of (boxes m) m.session i u (λ (e : Message). with_states e 2) (λ e. refl) (λ e. refl) (λ e o. state_range e 2 refl o) (λ e h o. o) (λ e h o. in-view u v e 2 h));
        session = refl;
        queue = refl;
        fill = refl;
      })
      (λ _. record { law = after; session = refl; queue = refl; fill = refl })))
      (λ _. record { law = after; session = refl; queue = refl; fill = refl })
    where
      -- its mailbox has the counter already
      within : (e : Message) → is_message i u e ≡ true → owned (boxes m) e ≡ true → owned (boxes m) (with_flags e f c) ≡ true
      within e h s =
          let a = and_l (known e.mailbox (boxes m)) _ s in
          let b = owned_next (boxes m) e s in
          rw (a, b, eqb-true e.mailbox i (and_l (eqb e.mailbox i) (eqb (uid_of e) u) h)) reached

      after : Law (change_mails m (reflag i u f c))
      after = law-change m k (reflag i u f c) (one_of (boxes m) m.session i u (λ (e : Message). with_flags e f c) (λ e. refl) (λ e. refl) (λ e r. flag_range e f c o t r) within (λ e h s. s))
