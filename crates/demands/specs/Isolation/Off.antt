-- A record about an id that is left out, and holds no right before or after, changes nothing that stays. Assumes nothing.
use Rattle.std.specs.Prelude.{◌≡◌, Bool, not, cond, ◌&&◌, ℕ, suc, ◌+◌, ◌≤◌, ◌<◌, length, set}
use Rattle.std.proofs.Math.Path.{refl, sym}
use Rattle.std.proofs.Common.{◌∙◌, ap, arith, length-append, length-set}
use mathlib.Core.List.{List, [], ◌∷◌, ◌++◌, map, append-nil}
use Rattle.std.proofs.Math.Bool.{true, false}
use borrow.Author.Tests.{eq-eqb, eqb-true, lt-ltb, ltb-true}
use Rattle.std.proofs.Math.Dec.{eqb, leb-zero}
use Rattle.std.proofs.lemmas.List.{length-map}
use Rattle.model.specs.Lists.{filterb, anyb, when}
use Rattle.model.specs.Laws.{tf, or_l, or_r, and_false, cond_same, filter-append, filter-filter, filter-length, filter-map_same, any_snoc}
use Rattle.model.specs.Names.{Name}
use Rattle.model.specs.Memory.{Memory, boxes, mails, filled, held, place, known, the_mailbox, may_list, may_read, both_rights, is_selected, in_mailbox, is_message, with_next, with_name, with_attributes, with_counter, with_flags, with_boxes, with_mails, put_box, drop_box, drop_mails, change_mails}
use Rattle.model.specs.Lines.{Line, status, list, renamed, exists, expunge as expunge_line, fetch, found, overflow, answer, render_all}
use Rattle.model.specs.Queue.{fits, enqueue, effect, effects, shows_flags, unmark, say}
use Rattle.model.specs.Events.{Event, loud, new_box, with_subscribed, with_rights, message, in_view, reflag as reflag_of, created, deleted, renamed_to, subscribed_to, granted, arrived, removed, reflagged, silence, tellings, settled}
use Rattle.model.specs.Rules.{event_outcome, raised}
use Rattle.model.specs.Hidden.{visible}
use Rattle.model.specs.declared.Mailbox.{Mailbox}
use Rattle.model.specs.declared.Message.{Message}
use Rattle.demands.specs.Isolation.Erase.{boxes_off, mails_off, stays_box, stays_mail, unlike, set-gone, box_id}
use Rattle.demands.specs.Isolation.Alike.{Alike, boxes_with, mails_with, boxes_fit, mails_fit, rows_with, entries_with, held-written, length-written}
use Rattle.demands.specs.Isolation.Asked.{Dark}
use Rattle.demands.specs.Lasting.Rows.{any-set}

-- ---- writing lines leaves the mailboxes
boxes-effect : (m : Memory) (l : Line) → boxes (effect m l) ≡ boxes m
boxes-effect m (exists n) = refl
boxes-effect m (expunge_line n u) = refl
boxes-effect m (fetch n u is) = go (shows_flags is)
  where
    go : (b : Bool) → boxes (cond b (change_mails m (unmark m.session.selected u.0)) m) ≡ boxes m
    go true = refl
    go false = refl
boxes-effect m (status n is) = refl
boxes-effect m (list k n) = refl
boxes-effect m (renamed k new old) = refl
boxes-effect m (found t n v rs) = refl
boxes-effect m overflow = refl
boxes-effect m (answer t v r) = refl

boxes-effects : (m : Memory) (ls : List Line) → boxes (effects m ls) ≡ boxes m
unfolding effects
boxes-effects m [] = refl
boxes-effects m (l ∷ ls) = boxes-effects (effect m l) ls ∙ boxes-effect m l

pub boxes-say : (m : Memory) (ls : List Line) → boxes (say m ls) ≡ boxes m
boxes-say m ls = boxes-effects (enqueue m (render_all ls)) ls

-- ---- a mailbox whose id holds no right
pub unseen : (i : ℕ) (l : List Mailbox) → anyb (λ (x : Mailbox). eqb x.id i && visible x) l ≡ false → visible (the_mailbox i l) ≡ false
unfolding place
unseen i [] d = refl
unseen i (x ∷ l) d = go (eqb x.id i) refl (unseen i l (or_r (eqb x.id i && visible x) _ d))
  where
    go : (c : Bool) → eqb x.id i ≡ c → visible (the_mailbox i l) ≡ false → visible (the_mailbox i (x ∷ l)) ≡ false
    go true g ih = rw g (rw g at (or_l (eqb x.id i && visible x) _ d))
    go false g ih = rw g ih

no_list_lem : (x : Mailbox) → visible x ≡ false → may_list x ≡ false
no_list_lem x e = or_l (may_list x) (may_read x) e

no-loud : (q : ℕ) (ls : List Line) → ls ≡ [] → loud q ls ≡ []
no-loud q ls e = ap (loud q) e ∙ cond_same (eqb q 0) []

-- a line that both rights are needed for, and two of them
no-when : (x : Mailbox) (b : Bool) (l : Line) → visible x ≡ false → when (both_rights x && b) l ≡ []
no-when x b l e = rw (no_list_lem x e)

no_two : (x : Mailbox) (b c : Bool) (l k : Line) → visible x ≡ false → when (both_rights x && b) l ++ when (both_rights x && c) k ≡ []
no_two x b c l k e = rw (no_list_lem x e)

module _ (H : ℕ → Bool) (s t : Memory) (a : Alike H s t) where
  -- ---- a table changed where it is left out
  off-boxes : (l : List Mailbox) → boxes_off H l ≡ boxes_off H (boxes s) → length l ≤ length s.rows → Alike H (with_boxes s l) t
  off-boxes l e h = record {
    box = a.box ∙ (sym e ∙ ap (boxes_off H) (sym (boxes_with s l)));
    mail = a.mail;
    session = a.session;
    fill = a.fill;
    hold = a.hold;
    wide = a.wide;
    rows = a.rows ∙ sym (rows_with s l h);
    entries = a.entries;
    awake = a.awake;
  }

  off-mails : (l : List Message) → mails_off H l ≡ mails_off H (mails s) → length l ≤ length s.entries → Alike H (with_mails s l) t
  off-mails l e h = record {
    box = a.box;
    mail = a.mail ∙ (sym e ∙ ap (mails_off H) (sym (mails_with s l)));
    session = a.session;
    fill = a.fill;
    hold = a.hold;
    wide = a.wide;
    rows = a.rows;
    entries = a.entries ∙ sym (entries_with s l h);
    awake = a.awake;
  }

  -- nothing is written
  off-nothing : Alike H (say s []) t
  unfolding effects render_all
  off-nothing = record {
    box = a.box;
    mail = a.mail;
    session = a.session;
    fill = let f = a.fill in omega arith;
    hold = a.hold ∙ (sym (append-nil (held s)) ∙ sym (held-written s.queue (filled s) []));
    wide = a.wide ∙ (let n = length-written s.queue (filled s) [] in omega arith);
    rows = a.rows;
    entries = a.entries;
    awake = a.awake;
  }

-- an event that owes no line, and what it stores
module _ (H : ℕ → Bool) (s t : Memory) (event : Memory → Event) where
  off_told : (event s).lines ≡ [] → Alike H (event s).stored t → Alike H (event_outcome s event).after t
  unfolding tellings settled render_all
  off_told e k = rw (e, leb-zero) (off-nothing H (event s).stored t k)

  -- the mailboxes after it, whether it is told or overflows
  pub boxes_told : (l : List Mailbox) → boxes (event s).stored ≡ l → boxes (event (silence s)).stored ≡ l → boxes (event_outcome s event).after ≡ l
  unfolding tellings settled
  boxes_told l e k = go (fits s (event s).lines)
    where
      go : (b : Bool) → boxes (say (cond b (event s).stored (event (silence s)).stored) (cond b (event s).lines (overflow ∷ []))) ≡ l
      go true = boxes-say (event s).stored (event s).lines ∙ e
      go false = boxes-say (event (silence s)).stored (overflow ∷ []) ∙ k

module _ (H : ℕ → Bool) (h0 : H 0 ≡ false) (s t : Memory) (a : Alike H s t) (d : Dark H s) (i : ℕ) (hi : H i ≡ true) where
  -- the mailbox holds no right
  dim : visible (the_mailbox i (boxes s)) ≡ false
  dim = unseen i (boxes s) (d i hi)

  -- an id that is left out is not selected
  unselected : is_selected s i ≡ false
  unselected = rw (unlike H i s.session.selected hi a.awake) (and_false (not (eqb i 0)))

  outside : (u : ℕ) → in_view s i u ≡ false
  outside u = rw unselected

  -- what stays is no message of it
  other : (e : Message) → stays_mail H e ≡ true → eqb e.mailbox i ≡ false
  other e h = go (eqb e.mailbox i) refl
    where
      go : (b : Bool) → eqb e.mailbox i ≡ b → eqb e.mailbox i ≡ false
      go false g = g
      go true g = tf (not (H e.mailbox)) h (ap not (ap H (eqb-true e.mailbox i g) ∙ hi))

  other_box : (x : Mailbox) → stays_box H x ≡ true → eqb x.id i ≡ false
  other_box x h = go (eqb x.id i) refl
    where
      go : (b : Bool) → eqb x.id i ≡ b → eqb x.id i ≡ false
      go false g = g
      go true g = tf (not (H x.id)) h (ap not (ap H (eqb-true x.id i g) ∙ hi))

  -- ---- the writes
  off_put : (y : Mailbox) → H y.id ≡ true → Alike H (put_box s i y) t
  off_put y h = off-boxes H s t a (set (boxes s) (place i (boxes s)) y) (set-gone H i hi y h (boxes s))
      (let n = length-set (boxes s) (place i (boxes s)) y in let k = boxes_fit s in omega arith)

  off-drop-mails : (m : Memory) → Alike H m t → (p : Message → Bool) → ((e : Message) → eqb e.mailbox i ≡ false → p e ≡ false) → Alike H (drop_mails m p) t
  off-drop-mails m b p h = off-mails H m t b (filterb (λ (e : Message). not (p e)) (mails m))
      (filter-filter (stays_mail H) (λ (e : Message). not (p e)) (mails m) (λ e k. ap not (h e (other e k))))
      (let n = filter-length (λ (e : Message). not (p e)) (mails m) in let k = mails_fit m in omega arith)

  no-message : (u : ℕ) (e : Message) → eqb e.mailbox i ≡ false → is_message i u e ≡ false
  no-message u e h = rw h

  -- the mailbox that an id that is known has
  gone_id : known i (boxes s) ≡ true → H (the_mailbox i (boxes s)).id ≡ true
  gone_id k = ap H (box_id i (boxes s) k) ∙ hi

  -- ---- the kinds
  module _ (event : Memory → Event) (l : List Mailbox) (e : boxes (event s).stored ≡ l) (k : boxes (event (silence s)).stored ≡ l) (dark : Dark H (event_outcome s event).after) where
    -- the mailboxes after it hold no right at i
    pub dim-after : anyb (λ (x : Mailbox). eqb x.id i && visible x) l ≡ false
    dim-after = rw (boxes_told H s t event l e k) at (dark i hi)

  pub created_off : (at q v c : ℕ) (n : Name) → length (boxes s) < length s.rows → Dark H (event_outcome s (λ (k : Memory). created k i at q v c n)).after → Alike H (event_outcome s (λ (k : Memory). created k i at q v c n)).after t
  created_off at q v c n room dark =
      let x : Mailbox = new_box i at v c n in
      let p : Mailbox → Bool = λ (y : Mailbox). eqb y.id i && visible y in
      let z : anyb p (boxes s ++ (x ∷ [])) ≡ false = dim-after (λ (k : Memory). created k i at q v c n) (boxes s ++ (x ∷ [])) (boxes_with s (boxes s ++ (x ∷ []))) (boxes_with (silence s) (boxes s ++ (x ∷ []))) dark in
      let w : (eqb i i && visible x) ≡ false = or_r (anyb p (boxes s)) (p x) (rw (any_snoc p (boxes s) x) at z) in
      let e : visible x ≡ false = rw (eq-eqb i i refl) at w in
      off_told H s t (λ (k : Memory). created k i at q v c n) (no-loud q _ (no_two x _ _ _ _ e))
      (off-boxes H s t a (boxes s ++ (x ∷ [])) (filter-append (stays_box H) (boxes s) (x ∷ []) ∙ rw hi (append-nil (boxes_off H (boxes s))))
      (let m = length-append (boxes s) (x ∷ []) in omega arith))

  pub deleted_off : (q : ℕ) → Alike H (event_outcome s (λ (k : Memory). deleted k i q)).after t
  deleted_off q = off_told H s t (λ (k : Memory). deleted k i q) (no-loud q _ (no_two (the_mailbox i (boxes s)) _ _ _ _ dim))
      (off-drop-mails (drop_box s i)
      (off-boxes H s t a (filterb (λ (x : Mailbox). not (eqb x.id i)) (boxes s))
      (filter-filter (stays_box H) (λ (x : Mailbox). not (eqb x.id i)) (boxes s) (λ x k. ap not (other_box x k)))
      (let n = filter-length (λ (x : Mailbox). not (eqb x.id i)) (boxes s) in let k = boxes_fit s in omega arith))
      (in_mailbox i) (λ e k. k))

  pub renamed_off : (q : ℕ) (n : Name) → known i (boxes s) ≡ true → Alike H (event_outcome s (λ (k : Memory). renamed_to k i q n)).after t
  renamed_off q n k = off_told H s t (λ (k : Memory). renamed_to k i q n) (no-loud q _ (no-when (the_mailbox i (boxes s)) _ _ dim))
      (off_put (with_name (the_mailbox i (boxes s)) n) (gone_id k))

  pub subscribed_off : (b q : ℕ) → known i (boxes s) ≡ true → Alike H (event_outcome s (λ (k : Memory). subscribed_to k i b q)).after t
  subscribed_off b q k = off_told H s t (λ (k : Memory). subscribed_to k i b q) (no-loud q _ (rw (no_list_lem (the_mailbox i (boxes s)) dim, and_false)))
      (off_put (with_attributes (the_mailbox i (boxes s)) (with_subscribed (the_mailbox i (boxes s)).attributes b)) (gone_id k))

  -- the row that an id that is known is set to
  dim_row : (y : Mailbox) → y.id ≡ i → (l : List Mailbox) → known i l ≡ true → anyb (λ (x : Mailbox). eqb x.id i && visible x) (set l (place i l) y) ≡ false → visible y ≡ false
  unfolding place
  dim_row y q [] k z = tf false k refl
  dim_row y q (x ∷ l) k z = go (eqb x.id i) refl (dim_row y q l)
    where
      go : (c : Bool) → eqb x.id i ≡ c → (known i l ≡ true → anyb (λ (x : Mailbox). eqb x.id i && visible x) (set l (place i l) y) ≡ false → visible y ≡ false) → visible y ≡ false
      go true g ih = rw (eq-eqb y.id i q) at (or_l (eqb y.id i && visible y) _ (rw g at z))
      go false g ih = ih (lt-ltb (place i l) (length l) (let w = ltb-true (suc (place i l)) (suc (length l)) (rw g at k) in omega arith)) (or_r (eqb x.id i && visible x) _ (rw g at z))

  pub granted_off : (r : ℕ) → known i (boxes s) ≡ true → Dark H (event_outcome s (λ (k : Memory). granted k i r)).after → Alike H (event_outcome s (λ (k : Memory). granted k i r)).after t
  granted_off r k dark =
      let y : Mailbox = with_rights (the_mailbox i (boxes s)) r in
      let l : List Mailbox = set (boxes s) (place i (boxes s)) y in
      let z = dim-after (λ (k : Memory). granted k i r) l (boxes_with s l) (boxes_with (silence s) l) dark in
      let e : visible y ≡ false = dim_row y (box_id i (boxes s) k) (boxes s) k z in
      off_told H s t (λ (k : Memory). granted k i r) (rw (no_list_lem (the_mailbox i (boxes s)) dim, no_list_lem y e)) (off_put y (gone_id k))

  -- its counter rises
  pub raised_off : (c : ℕ) → known i (boxes s) ≡ true → Alike H (raised s i c) t
  raised_off c k = off_put (with_counter (the_mailbox i (boxes s)) c) (gone_id k)

  pub raised_dark : (c : ℕ) → Dark H (raised s i c)
  raised_dark c j hj =
      let x = the_mailbox i (boxes s) in
      rw (boxes_with s (set (boxes s) (place i (boxes s)) (with_counter x c)))
      (any-set (λ (y : Mailbox). eqb y.id j && visible y) (boxes s) (place i (boxes s)) (with_counter x c) (d j hj) (ap (λ (b : Bool). eqb x.id j && b) dim ∙ and_false (eqb x.id j)))

  pub arrived_off : (u f z c : ℕ) → known i (boxes s) ≡ true → length (mails s) < length s.entries → Dark H (event_outcome s (λ (k : Memory). arrived k i u f z c)).after → Alike H (event_outcome s (λ (k : Memory). arrived k i u f z c)).after t
  arrived_off u f z c k room dark =
      let y : Mailbox = with_next (the_mailbox i (boxes s)) (u + 1) in
      let l : List Mailbox = set (boxes s) (place i (boxes s)) y in
      let w = dim-after (λ (k : Memory). arrived k i u f z c) l (boxes_with s l) (boxes_with (silence s) l) dark in
      let e : visible (the_mailbox i (boxes (put_box s i y))) ≡ false = rw (boxes_with s l) (unseen i l w) in
      off_told H s t (λ (k : Memory). arrived k i u f z c) (rw unselected (no-when (the_mailbox i (boxes (put_box s i y))) _ _ e))
      (off-mails H (put_box s i y) t (off_put y (gone_id k)) (mails s ++ (message i u f z c ∷ []))
      (filter-append (stays_mail H) (mails s) (message i u f z c ∷ []) ∙ rw hi (append-nil (mails_off H (mails s))))
      (let m = length-append (mails s) (message i u f z c ∷ []) in omega arith))

  pub removed_off : (u : ℕ) → Alike H (event_outcome s (λ (k : Memory). removed k i u)).after t
  removed_off u = off_told H s t (λ (k : Memory). removed k i u) (rw (outside u, unselected) (no-when (the_mailbox i (boxes s)) _ _ dim))
      (rw (outside u) (off-drop-mails s a (is_message i u) (no-message u)))

  pub reflagged_off : (u f c : ℕ) → Alike H (event_outcome s (λ (k : Memory). reflagged k i u f c)).after t
  reflagged_off u f c = off_told H s t (λ (k : Memory). reflagged k i u f c) (rw (outside u, unselected) (no-when (the_mailbox i (boxes s)) _ _ dim))
      (rw (outside u) (off-mails H s t a (map (reflag_of i u f c) (mails s))
      (filter-map_same (reflag_of i u f c) (stays_mail H) (λ e. kept e (is_message i u e)) (λ e h. rw (no-message u e (other e h))) (mails s))
      (let n = length-map (mails s) (reflag_of i u f c) in let k = mails_fit s in omega arith)))
    where
      kept : (e : Message) (b : Bool) → stays_mail H (cond b (with_flags e f c) e) ≡ stays_mail H e
      kept e true = refl
      kept e false = refl
