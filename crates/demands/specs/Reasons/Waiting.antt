-- `waiting`: the memory after the call owes the message's own line to that class of command end and to no lower one; and conversely. Assumes nothing.
use Rattle.std.specs.Prelude.{◌≡◌, List, [], ◌∷◌, Bool, not, cond, ◌&&◌, ◌||◌, ℕ, suc, ◌+◌, ◌<◌, length}
use Rattle.std.proofs.Math.Path.{refl}
use Rattle.std.proofs.Common.{sym, ◌∙◌, ap, subst, arith}
use Rattle.std.proofs.Math.Bool.{true, false}
use borrow.Author.Tests.{eqb-true, eqb-false, ne_eqb, not-false, le-leb}
use Rattle.std.proofs.Math.Dec.{eqb}
use Rattle.model.specs.Lists.{anyb, same}
use Rattle.model.specs.Laws.{tf, and_l, and_r, or_l, or_true, or-false, and_false}
use Rattle.model.specs.Text.{bit}
use Rattle.model.specs.Records.{arrive, expunge, record_of}
use Rattle.model.specs.Memory.{Memory, boxes, both_rights, with_next, with_counter, known, the_mailbox, selected_box, is_selected, silenced}
use Rattle.model.specs.Lines.{Line, overflow, render_all}
use Rattle.model.specs.Queue.{fits}
use Rattle.model.specs.View.{owed}
use Rattle.model.specs.Events.{silence}
use Rattle.model.specs.Refusals.{absent, stale, wrong_id, wrong_uid}
use Rattle.model.specs.Answers.{number_of}
use Rattle.model.specs.Call.{call}
use Rattle.model.specs.Hidden.{Octets}
use Rattle.model.specs.Fates.{Debt, arrival, removal, marking, lowest_class, reported, silent, waits_for, tells, is_exists, is_overflow}
use Rattle.model.specs.Seen.{apparent, seen, Setting, setting_of, put_row, boxes_by}
use Rattle.model.specs.Due.{Account, waiting, Due, nothing, at_once, later, new_now, due}
use Rattle.model.specs.Account.{own, own_fate, entered}
use Rattle.model.specs.Reasons.{reason_number, first_asking, reason}
use Rattle.model.specs.Reasoned.{due_reason, changes, CanWait, new, gone, flags, OwedFrom}
use Rattle.model.specs.declared.Mailbox.{Mailbox}
use Rattle.model.specs.declared.Session.{Session}
use Rattle.model.specs.declared.Reason.TheVariants.{Waiting, Overflow, Written}
use Rattle.demands.specs.Isolation.Erase.{box_id}
use Rattle.demands.specs.Lasting.Rows.{keep-set}
use Rattle.demands.specs.Counted.Taken.{taken}
use Rattle.demands.specs.Ledger.Posting.{debt_self, drops, waiting-after}
use Rattle.demands.specs.Ledger.Messages.{there}
use Rattle.demands.specs.Ledger.Occasions.{owed-tells, last-class}
use Rattle.demands.specs.Ledger.Settings.{call-setting}
use Rattle.demands.specs.Ledger.Streams.{Stands, stands_on}
use Rattle.demands.specs.Reasons.Overflow.{after-change}
use Rattle.demands.specs.Reasons.First.{taken-reason}
use Rattle.demands.specs.Reasons.Dues.{new_lines, new-exists, Sound, sound, can_wait}
use Rattle.demands.specs.Reasons.Ends.{tells_arrival, tells_removal, removal-waits, arrival-waits}
use Rattle.demands.specs.Reasons.Owed.{Word, low, waits, over, written, unlike, account, told, once-lines}

-- ---- what can wait leaves the rights on the selected mailbox
module _ (m : Memory) (o : Octets) (z : number_of (call m o).answer ≡ 0) where
  abbrev after : Memory
  after = (call m o).after

  rows-after : boxes after ≡ boxes_by (boxes m) (record_of o)
  rows-after = let e = ap (λ (x : Setting). x.boxes) (call-setting m o).setting in rw z at e

  selected-after : changes (record_of o) ≡ true → after.session.selected ≡ m.session.selected
  selected-after c =
      let e = ap (λ (x : Setting). x.session.selected) (call-setting m o).setting in
      (rw (z, after-change (setting_of m).session (record_of o) (call m o).lines c) at e) ∙ go (anyb is_overflow (call m o).lines) (setting_of m).session
    where
      go : (b : Bool) (s : Session) → (cond b (silenced s) s).selected ≡ s.selected
      go true s = refl
      go false s = refl

  -- a row that keeps its id and its attributes
  rights_by_lem : (i : ℕ) (y : Mailbox) → changes (record_of o) ≡ true → known i (boxes m) ≡ true → y.id ≡ (the_mailbox i (boxes m)).id → y.attributes ≡ (the_mailbox i (boxes m)).attributes
      → boxes_by (boxes m) (record_of o) ≡ put_row (boxes m) i y → both_rights (selected_box after) ≡ both_rights (selected_box m)
  rights_by_lem i y c k e f b =
      let s = m.session.selected in
      let p : (the_mailbox after.session.selected (boxes after)).attributes ≡ (the_mailbox s (put_row (boxes m) i y)).attributes = rw (selected-after c, rows-after, b) in
      ap (λ (n : ℕ). bit 4 n && bit 5 n) (p ∙ keep-set i y (e ∙ box_id i (boxes m) k) (λ (x : Mailbox). x.attributes) s (boxes m) k f)

  rights-after : (d : Debt) → CanWait (record_of o) d → both_rights (selected_box after) ≡ both_rights (selected_box m)
  rights-after d (new i u f y c e q) =
      rights_by_lem i (with_next (with_counter (the_mailbox i (boxes m)) c) (u + 1)) (ap changes e) (not-false _ (sym (ap (wrong_id m) e) ∙ (taken m o z).id)) refl refl (ap (boxes_by (boxes m)) e)
  rights-after d (gone i u c e q) =
      rights_by_lem i (with_counter (the_mailbox i (boxes m)) c) (ap changes e) (not-false _ (sym (ap (wrong_id m) e) ∙ (taken m o z).id)) refl refl (ap (boxes_by (boxes m)) e)
  rights-after d (flags i u f c e q) =
      rights_by_lem i (with_counter (the_mailbox i (boxes m)) c) (ap changes e) (not-false _ (sym (ap (wrong_id m) e) ∙ (taken m o z).id)) refl refl (ap (boxes_by (boxes m)) e)

-- ---- a call that is taken, after any calls
-- an EXPUNGE is owed to class 1 alone
lower : (m : Memory) (d : Debt) (k : ℕ) → k < lowest_class d → tells (owed m k) d ≡ false
lower m (arrival u) k h = absurd (let b : ⊥ = omega arith in b)
lower m (removal u) k h = tells_removal m k u ∙ rw (ne_eqb k 1 (λ e. let b : ⊥ = omega arith in b)) (and_false (both_rights (selected_box m)))
lower m (marking u) k h = absurd (let b : ⊥ = omega arith in b)

-- without an overflow line what was owed at once does not wait
once_told : (n : ℕ) (ds ls : List Line) (h : Due) (d : Debt) → anyb is_overflow ls ≡ false → waits_for d (own n (at_once ds) h ls) ≡ false
once_told n ds ls h d f = rw f (go (same (render_all ls) (render_all ds)))
  where
    go : (c : Bool) → waits_for d (cond c (reported n) silent) ≡ false
    go true = refl
    go false = refl

-- so an expunge that waits was owed later
removal-later : (n u : ℕ) (w : Memory) (g : ℕ) (d h : Due) (ls : List Line) → anyb is_overflow ls ≡ false → both_rights (selected_box w) ≡ true
    → waits_for (removal u) (own n d h ls) ≡ true → due_reason w g d ≡ Waiting 1
removal-later n u w g (nothing y) h ls f r e = tf false e refl
removal-later n u w g (at_once ds) h ls f r e = tf (waits_for (removal u) (own n (at_once ds) h ls)) e (once_told n ds ls h (removal u) f)
removal-later n u w g (later (arrival v)) h ls f r e = tf false e refl
removal-later n u w g (later (removal v)) h ls f r e = rw r
removal-later n u w g (later (marking v)) h ls f r e = tf false e refl

module _ (m : Memory) (a : Account) (s : Stands m a) (o : Octets) (z : number_of (call m o).answer ≡ 0) where
  abbrev w : Memory
  w = apparent m

  abbrev lines : List Line
  lines = (call m o).lines

  abbrev owes : Due
  owes = due w a (record_of o)

  abbrev next : Account
  next = entered a (seen m o)

  stands : Stands (call m o).after next
  stands = stands_on m a s (o ∷ [])

  -- what waits after it
  waits-after : (d : Debt) → waiting next.fates d
      ≡ ((waiting a.fates d && (not (tells lines d) && not (drops w (record_of o) d))) || waits_for d (own (suc (length a.fates)) owes (due (silence w) a (record_of o)) lines))
  unfolding entered
  waits-after d = rw z (waiting-after w (suc (length a.fates)) (record_of o) lines d a.fates (own_fate w a (record_of o) lines))

  -- what is owed later: from its own class on
  pub owed-from : (d : Debt) → owes ≡ later d → both_rights (selected_box m) ≡ true → CanWait (record_of o) d → OwedFrom (call m o).after (lowest_class d) d
  owed-from d e r c =
      let q : waiting next.fates d ≡ true = waits-after d ∙ rw (e, debt_self d) (or_true (waiting a.fates d && (not (tells lines d) && not (drops w (record_of o) d)))) in
      record {
        owes = owed-tells (call m o).after stands.law next stands.books (lowest_class d) (last-class d) (rights-after m o z d c ∙ r) d (le-leb (lowest_class d) (lowest_class d) (omega arith)) q;
        lower = lower (call m o).after d;
      }

  -- ---- conversely, in the selected mailbox, with both rights and no overflow line
  module _ (i : ℕ) (sel : is_selected m i ≡ true) (r : both_rights (selected_box m) ≡ true) (f : anyb is_overflow lines ≡ false) where
    -- told at once, a new message leaves none unannounced
    all_told : (ls : List Line) → owes ≡ at_once ls → anyb is_exists ls ≡ true → (v : ℕ) → waiting next.fates (arrival v) ≡ false
    all_told ls e x v =
        let t : tells lines (arrival v) ≡ true = fitted (fits w ls) (once-lines m a s o z ls e) in
        waits-after (arrival v) ∙ rw (t, e, once_told (suc (length a.fates)) ls lines (due (silence w) a (record_of o)) (arrival v) f)
        (or-false (waiting a.fates (arrival v) && false) ∙ and_false (waiting a.fates (arrival v)))
      where
        fitted : (c : Bool) → lines ≡ cond c ls (overflow ∷ []) → anyb is_exists lines ≡ true
        fitted true q = rw q x
        fitted false q = tf (anyb is_overflow lines) (rw q) f

    pub arriving : (u k y h c : ℕ) → record_of o ≡ arrive i u k y h → OwedFrom (call m o).after c (arrival u) → reason m o ≡ Waiting c
    unfolding due
    arriving u k y h c e q = go (new_now w) (ap (due w a) e ∙ rw sel)
      where
        least : c ≡ 0
        least = zeroth (eqb c 0) refl
          where
            zeroth : (b : Bool) → eqb c 0 ≡ b → c ≡ 0
            zeroth true g = eqb-true c 0 g
            zeroth false g =
                let n = eqb-false c 0 g in
                tf (tells (owed (call m o).after 0) (arrival u)) (tells_arrival (call m o).after 0 u ∙ (sym (tells_arrival (call m o).after c u) ∙ q.owes)) (q.lower 0 (omega arith))

        go : (b : Bool) → owes ≡ cond b (at_once (new_lines w a i u k y h)) (later (arrival u)) → reason m o ≡ Waiting c
        go true g = absurd (arrival-waits (call m o).after c u stands.law next stands.books q.owes (all_told _ g (new-exists w a i u k y h sel)))
        go false g = account m a s o z ∙ rw (g, r, least)

    pub expunging : (u h c : ℕ) → record_of o ≡ expunge i u h → OwedFrom (call m o).after c (removal u) → reason m o ≡ Waiting c
    expunging u h c e q =
        let n = (call m o).after in
        let g : i ≡ m.session.selected = eqb-true i m.session.selected (and_r (not (eqb i 0)) _ sel) in
        let x : absent m i u ≡ false = or_l (absent m i u) (stale m i h) (sym (ap (wrong_uid m) e) ∙ (taken m o z).uid) in
        let b : waiting a.fates (removal u) ≡ false = s.books.removals u ∙ (there m s.law a s.books u (rw g at x)).1 in
        let l : c ≡ 1 = eqb-true c 1 (and_l (eqb c 1) _ (and_r (both_rights (selected_box n)) _ (sym (tells_removal n c u) ∙ q.owes))) in
        let y = sym (waits-after (removal u)) ∙ removal-waits n c u stands.law next stands.books q.owes in
        account m a s o z ∙ (removal-later (suc (length a.fates)) u w (first_asking m o) owes (due (silence w) a (record_of o)) lines f r (rw b at y) ∙ ap Waiting (sym l))

-- ---- `waiting`
pub waited : (m : Memory) (a : Account) (s : Stands m a) (o : Octets) (c : ℕ) → reason m o ≡ Waiting c → (d : Debt) × CanWait (record_of o) d × OwedFrom (call m o).after c d
waited m a s o c e = let z = taken-reason m o (rw e (omega arith)) in go z (told m a s o z)
  where
    go : number_of (call m o).answer ≡ 0 → Word (apparent m) (first_asking m o) (due (apparent m) a (record_of o)) (reason m o)
        → (d : Debt) × CanWait (record_of o) d × OwedFrom (call m o).after c d
    go z (low n l) = let q = ap reason_number e in absurd (let b : ⊥ = omega arith in b)
    go z (waits d q r x) =
        let k : CanWait (record_of o) d = can_wait (subst (Sound (record_of o)) q (sound (apparent m) a (record_of o))) in
        let h : Waiting (lowest_class d) ≡ Waiting c = sym x ∙ e in
        let l : lowest_class d ≡ c = cc in
        (d, k, subst (λ (n : ℕ). OwedFrom (call m o).after n d) l (owed-from m a s o z d q r k))
    go z (over ls q f x) = unlike Overflow (Waiting c) refl (sym x ∙ e)
    go z (written ls q f x) = unlike (Written (first_asking m o)) (Waiting c) refl (sym x ∙ e)
