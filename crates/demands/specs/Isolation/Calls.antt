-- One call on alike memories: about an id that stays, and about one that is left out. Assumes nothing.
use Rattle.std.specs.Prelude.{◌≡◌, List, Bool, cond, ◌&&◌, ℕ, ◌≤◌, eqb, leb, length, drop}
use Rattle.std.proofs.Math.Path.{refl, sym, ap}
use Rattle.std.proofs.Common.{◌∙◌, arith, leb-true, leb-false, le-leb, eqb-true}
use Rattle.std.proofs.Math.Bool.{true, false, not}
use Rattle.std.proofs.lemmas.Bool.{not-false}
use Rattle.model.specs.Laws.{tf, or_r, and_l, and_r}
use Rattle.model.specs.Text.{little}
use Rattle.model.specs.Records.{Kind, MB, DL, RN, SB, RT, ME, XP, FL, SE, CE, CM, DR, unknown, layout, values, widths, body_ok, is_known, kind_of, body_of, framed, is_record, record_by, record_of, starts_with_id, about, Record, create, delete, rename, subscribe, grant, arrive, expunge, reflag, select, ended, command, drained, record_of_none}
use Rattle.model.specs.Memory.{Memory, boxes, filled, the_mailbox, known, selectable, may_list, may_read}
use Rattle.model.specs.Lawful.{lawful}
use Rattle.model.specs.Refusals.{wrong_id, name_held, wrong_uid, unfit, wrong_state, table_full}
use Rattle.model.specs.Rules.{Outcome, raised, accepted}
use Rattle.model.specs.Call.{call, refuse, roomless}
use Rattle.model.specs.Hidden.{excepted}
use Rattle.model.specs.declared.Refusal.{Refusal}
use Rattle.model.specs.declared.Refusal.TheVariants.{UnlawfulMemory, BadRecord, WrongId, NameHeld, WrongUid, WrongState, TableFull, NoRoom}
use Rattle.demands.specs.Isolation.Alike.{Alike}
use Rattle.demands.specs.Isolation.Left.{AlikeOutcome}
use Rattle.demands.specs.Isolation.Asked.{Dark}
use Rattle.demands.specs.Isolation.Kinds.{subject, same_3, same_5, same_6, same_8, less_4, less_7, accepted_left}
use Rattle.demands.specs.Lasting.Raised.{raised-known}
use Rattle.demands.specs.Isolation.Off.{unseen, created_off, deleted_off, renamed_off, subscribed_off, granted_off, raised_off, raised_dark, arrived_off, removed_off, reflagged_off}

-- ---- what an octet string is about is the subject of its record
wide_enough : (b : List ℕ) (n : ℕ) (r : Bool) → 2 ≤ n → (leb n (length b) && r) ≡ true → leb 2 (length b) ≡ true
wide_enough b n r h e = let k = leb-true n (length b) (and_l (leb n (length b)) r e) in le-leb 2 (length b) (omega arith)

about_by : (k : Kind) (b : List ℕ) → body_ok (layout k) b ≡ true
    → cond (starts_with_id (layout k).fields && leb 2 (length b)) (little 2 b) 0 ≡ subject (record_by k (values (layout k).fields b) (drop (widths (layout k).fields) b))
about_by MB b e = rw (wide_enough b 16 _ (omega arith) e)
about_by DL b e = rw (wide_enough b 3 _ (omega arith) e)
about_by RN b e = rw (wide_enough b 3 _ (omega arith) e)
about_by SB b e = rw (wide_enough b 4 _ (omega arith) e)
about_by RT b e = rw (wide_enough b 3 _ (omega arith) e)
about_by ME b e = rw (wide_enough b 19 _ (omega arith) e)
about_by XP b e = rw (wide_enough b 14 _ (omega arith) e)
about_by FL b e = rw (wide_enough b 15 _ (omega arith) e)
about_by SE b e = rw (wide_enough b 2 _ (omega arith) e)
about_by CE b e = refl
about_by CM b e = refl
about_by DR b e = refl
about_by unknown b e = refl

pub about_subject : (o : List ℕ) → is_record o ≡ true → about o ≡ subject (record_of o)
unfolding record_of
about_subject o e = about_by (kind_of o) (body_of o) (and_r (framed o) (body_ok (layout (kind_of o)) (body_of o)) (and_r (is_known (kind_of o)) (framed o && body_ok (layout (kind_of o)) (body_of o)) e))

-- ---- ladders of refusals
module _ (H : ℕ → Bool) where
  -- outcomes alike, unless the first is refused by 4 or 7
  pub record Left (x y : Outcome) : Type 0 where
    pub says : excepted x.answer ≡ false → AlikeOutcome H x y

  -- an outcome that leaves the other memory alike, if no id of H holds a right after it
  pub record Off (t : Memory) (x : Outcome) : Type 0 where
    pub says : Dark H x.after → Alike H x.after t

  left_cond : (b c : Bool) → c ≡ b → (x x' y y' : Outcome) → (b ≡ true → Left x x') → (b ≡ false → Left y y') → Left (cond b x y) (cond c x' y')
  left_cond true true e x x' y y' l r = l refl
  left_cond true false e x x' y y' l r = tf false e refl
  left_cond false true e x x' y y' l r = tf true refl e
  left_cond false false e x x' y y' l r = r refl

  -- a test that the other only fails more often, and whose refusal is excepted
  left_less : (b c : Bool) → (b ≡ false → c ≡ false) → (x x' y y' : Outcome) → excepted x.answer ≡ true → (b ≡ false → Left y y') → Left (cond b x y) (cond c x' y')
  left_less true c f x x' y y' h r = record { says = λ e. tf (excepted x.answer) h e }
  left_less false c f x x' y y' h r = rw (f refl) (r refl)

  off_cond : (t : Memory) (b : Bool) (x y : Outcome) → Off t x → (b ≡ false → Off t y) → Off t (cond b x y)
  off_cond t true x y l r = l
  off_cond t false x y l r = r refl

  module _ (h0 : H 0 ≡ false) (s t : Memory) (a : Alike H s t) (d : Dark H s) (o : List ℕ) where
    refused : (r : Refusal) → Left (refuse s r) (refuse t r)
    refused r = record { says = λ _. record { answer = refl; after = a } }

    stays : (r : Refusal) → Off t (refuse s r)
    stays r = record { says = λ _. a }

    -- lawful both, or neither
    pub call_left : (v : Bool) → lawful s ≡ v → lawful t ≡ v → filled s ≤ length s.queue → H (about o) ≡ false → Left (call s o) (call t o)
    unfolding call
    call_left v p q f h =
        left_cond (not (lawful s)) (not (lawful t)) (ap not (q ∙ sym p)) _ _ _ _ (λ _. refused UnlawfulMemory) λ _.
        left_cond (not (is_record o)) (not (is_record o)) refl _ _ _ _ (λ _. refused BadRecord) λ k.
        let i : H (subject (record_of o)) ≡ false = ap H (sym (about_subject o (not-false (is_record o) k))) ∙ h in
        left_cond (wrong_id s (record_of o)) (wrong_id t (record_of o)) (same_3 H h0 s t a (record_of o) i) _ _ _ _ (λ _. refused WrongId) λ _.
        left_less (name_held s (record_of o)) (name_held t (record_of o)) (less_4 H h0 s t a (record_of o)) _ _ _ _ refl λ _.
        left_cond (wrong_uid s (record_of o)) (wrong_uid t (record_of o)) (same_5 H h0 s t a (record_of o) i) _ _ _ _ (λ _. refused WrongUid) λ _.
        left_cond (wrong_state s (record_of o)) (wrong_state t (record_of o)) (same_6 H h0 s t a (record_of o) i) _ _ _ _ (λ _. refused WrongState) λ w.
        left_less (table_full s (record_of o)) (table_full t (record_of o)) (less_7 H h0 s t a (record_of o)) _ _ _ _ refl λ full.
        left_cond (roomless s (record_of o)) (roomless t (record_of o)) (same_8 H h0 s t a d (record_of o)) _ _ _ _ (λ _. refused NoRoom) λ _.
        record { says = λ _. accepted_left H h0 s t a d f (record_of o) i w full }

    -- ---- about an id that is left out
    no-select : (i : ℕ) → H i ≡ true → (not (eqb i 0) && unfit (the_mailbox i (boxes s))) ≡ false → Off t (accepted s (select i))
    no-select i h w = go (eqb i 0) refl
      where
        go : (b : Bool) → eqb i 0 ≡ b → Off t (accepted s (select i))
        go true g = tf (H 0) (ap H (sym (eqb-true i 0 g)) ∙ h) h0
        go false g =
            let x = the_mailbox i (boxes s) in
            let e : unfit x ≡ false = rw g at w in
            tf (may_read x) (not-false (may_read x) (or_r (not (selectable x)) (not (may_read x)) e)) (or_r (may_list x) (may_read x) (unseen i (boxes s) (d i h)))

    accepted_off : (r : Record) → H (subject r) ≡ true → wrong_id s r ≡ false → wrong_state s r ≡ false → table_full s r ≡ false → Off t (accepted s r)
    unfolding accepted
    accepted_off (create i at q v c n) h k w full = record { says = λ dark. created_off H h0 s t a d i h at q v c n (leb-false _ _ full) dark }
    accepted_off (delete i q) h k w full = record { says = λ _. deleted_off H h0 s t a d i h q }
    accepted_off (rename i q n) h k w full = record { says = λ _. renamed_off H h0 s t a d i h q n (not-false _ k) }
    accepted_off (subscribe i b q) h k w full = record { says = λ _. subscribed_off H h0 s t a d i h b q (not-false _ k) }
    accepted_off (grant i r) h k w full = record { says = λ dark. granted_off H h0 s t a d i h r (not-false _ k) dark }
    accepted_off (arrive i u f z c) h k w full =
        let b = raised_off H h0 s t a d i h c (not-false _ k) in
        record { says = λ dark. arrived_off H h0 (raised s i c) t b (raised_dark H h0 s t a d i h c) i h u f z c (raised-known s i c (not-false _ k)) (leb-false _ _ full) dark }
    accepted_off (expunge i u c) h k w full =
        let b = raised_off H h0 s t a d i h c (not-false _ k) in
        record { says = λ _. removed_off H h0 (raised s i c) t b (raised_dark H h0 s t a d i h c) i h u }
    accepted_off (reflag i u f c) h k w full =
        let b = raised_off H h0 s t a d i h c (not-false _ k) in
        record { says = λ _. reflagged_off H h0 (raised s i c) t b (raised_dark H h0 s t a d i h c) i h u f c }
    accepted_off (select i) h k w full = no-select i h w
    accepted_off (ended c) h k w full = tf (H 0) h h0
    accepted_off (command x) h k w full = tf (H 0) h h0
    accepted_off (drained n) h k w full = tf (H 0) h h0
    accepted_off record_of_none h k w full = tf (H 0) h h0

    pub call_off : H (about o) ≡ true → Off t (call s o)
    unfolding call
    call_off h =
        off_cond t (not (lawful s)) _ _ (stays UnlawfulMemory) λ _.
        off_cond t (not (is_record o)) _ _ (stays BadRecord) λ k.
        let i : H (subject (record_of o)) ≡ true = ap H (sym (about_subject o (not-false (is_record o) k))) ∙ h in
        off_cond t (wrong_id s (record_of o)) _ _ (stays WrongId) λ known.
        off_cond t (name_held s (record_of o)) _ _ (stays NameHeld) λ _.
        off_cond t (wrong_uid s (record_of o)) _ _ (stays WrongUid) λ _.
        off_cond t (wrong_state s (record_of o)) _ _ (stays WrongState) λ w.
        off_cond t (table_full s (record_of o)) _ _ (stays TableFull) λ full.
        off_cond t (roomless s (record_of o)) _ _ (stays NoRoom) λ _.
        accepted_off (record_of o) i known w full
