-- A row without l shows nothing of itself by a call about another mailbox, a parent's no more than another's (02, 2). Assumes nothing.
use Rattle.std.specs.Prelude.{◌≡◌, Bool, cond, ℕ, ◌-◌, leb, length, get_or}
use Rattle.std.proofs.Math.Path.{refl, ap}
use Rattle.std.proofs.Common.{sym, ◌∙◌, ne_eqb}
use mathlib.Core.List.{List, [], ◌∷◌, ◌++◌}
use Rattle.std.proofs.Math.Bool.{true, false}
use Rattle.std.proofs.Math.Dec.{eqb}
use Rattle.model.specs.Lists.{filterb}
use Rattle.model.specs.Laws.{filter-append}
use Rattle.model.specs.Names.{Name, parent_of}
use Rattle.model.specs.Records.{Record, record_of}
use Rattle.model.specs.Memory.{Memory, boxes, name_of, may_list, place, the_mailbox}
use Rattle.model.specs.Lines.{Line, overflow, render_all}
use Rattle.model.specs.Events.{Event, loud, new_box, with_rights, stand_in, is_listed, parent_row, create_lines, delete_lines, parent_lines, rights_lines, created, deleted, granted}
use Rattle.model.specs.Rules.{event_outcome, accepted}
use Rattle.model.specs.Call.{call}
use Rattle.model.specs.Hidden.{Octets}
use Rattle.model.specs.Parents.{told_together, Without, Unseen, ParentUnseen}
use Rattle.model.specs.declared.Mailbox.{Mailbox}
use Rattle.demands.specs.Counted.Taken.{Taken, taken}
use Rattle.demands.specs.Parents.Owed.{call-lines}

-- ---- one row more or less
module _ (y : Mailbox) (back : List Mailbox) where
  -- another id is found as before
  same_row : (i : ℕ) → eqb y.id i ≡ false → (front : List Mailbox) → the_mailbox i (front ++ back) ≡ the_mailbox i (front ++ (y ∷ back))
  unfolding place
  same_row i e [] = rw e
  same_row i e (x ∷ front) = go (eqb x.id i) refl (same_row i e front)
    where
      go : (c : Bool) → eqb x.id i ≡ c → the_mailbox i (front ++ back) ≡ the_mailbox i (front ++ (y ∷ back)) → the_mailbox i ((x ∷ front) ++ back) ≡ the_mailbox i ((x ∷ front) ++ (y ∷ back))
      go true f ih = rw f
      go false f ih = rw f ih

  -- a name is listed as before, where the row may not be
  same-listed : (p : Name) → may_list y ≡ false → (front : List Mailbox) → filterb (is_listed p) (front ++ back) ≡ filterb (is_listed p) (front ++ (y ∷ back))
  same-listed p e front = filter-append (is_listed p) front back ∙ sym (filter-append (is_listed p) front (y ∷ back) ∙ rw e)

-- ---- memory with it (m) and without it (k)
module _ (m k : Memory) (y : Mailbox) (hidden : may_list y ≡ false) (w : Without m k y) where
  same_box : (i : ℕ) → (i ≡ y.id → ⊥) → the_mailbox i (boxes k) ≡ the_mailbox i (boxes m)
  same_box i h = ap (the_mailbox i) w.gone ∙ (same_row y w.back i (ne_eqb y.id i (λ e. h (sym e))) w.front ∙ sym (ap (the_mailbox i) w.there))

  same-parent : (x : Mailbox) → parent_row (boxes k) x ≡ parent_row (boxes m) x
  same-parent x =
      let p = parent_of (name_of x) in
      ap (λ (l : List Mailbox). get_or l 0 (stand_in p))
      (ap (filterb (is_listed p)) w.gone ∙ (same-listed y w.back p hidden w.front ∙ sym (ap (filterb (is_listed p)) w.there)))

  same_told : (ls ks : List Line) → ks ≡ ls → told_together k ks ≡ told_together m ls
  same_told ls ks e = λ j. cond (leb (length (render_all (e j))) (length (w.queue j) - 64 - w.filled j)) (e j) (overflow ∷ [])

  module _ (o : Octets) (a : Taken m o (call m o)) (b : Taken k o (call k o)) where
    -- an event that owes the same lines in both
    alike : (event : Memory → Event) (r : Record) → record_of o ≡ r → accepted m r ≡ event_outcome m event → accepted k r ≡ event_outcome k event → (event k).lines ≡ (event m).lines → (call k o).lines ≡ (call m o).lines
    alike event r e f g h = call-lines k o b event r e g ∙ (same_told (event m).lines (event k).lines h ∙ sym (call-lines m o a event r e f))

    shows_nothing : Unseen m k y o
    unfolding accepted
    shows_nothing = record {
      created = λ i t q v c n e h.
          let x = new_box i t v c n in
          alike (λ (s : Memory). created s i t q v c n) _ e refl refl (λ j. loud q (create_lines (w.session j) x ++ parent_lines (w.session j) (same-parent x j) x));
      deleted = λ i q e h.
          let z = same_box i h in
          let p = ap (parent_row (boxes k)) z ∙ same-parent (the_mailbox i (boxes m)) in
          alike (λ (s : Memory). deleted s i q) _ e refl refl (λ j. loud q (delete_lines (w.session j) (z j) ++ parent_lines (w.session j) (p j) (z j)));
      granted = λ i r e h.
          let z = same_box i h in
          let p = ap (parent_row (boxes k)) z ∙ same-parent (the_mailbox i (boxes m)) in
          alike (λ (s : Memory). granted s i r) _ e refl refl (λ j. rights_lines (w.session j) (p j) (z j) (with_rights (z j) r));
    }

pub unseen : ParentUnseen
unseen m k y h w o e f = shows_nothing m k y h w o (taken m o e) (taken k o f)
