-- What a call that is not refused writes of a mailbox that appears or goes, and of its parent (02, 2). Assumes nothing.
use Rattle.std.specs.Prelude.{◌≡◌, List, [], ◌++◌, Bool, true, false, cond, ◌&&◌, ℕ, eqb}
use Rattle.std.proofs.Math.Path.{refl, ap}
use Rattle.std.proofs.Common.{sym, ◌∙◌, subst}
use Rattle.std.proofs.lemmas.Bool.{not-false}
use Rattle.std.proofs.Math.Dec.{leb-zero}
use Rattle.model.specs.Lists.{when}
use Rattle.model.specs.Laws.{tf}
use Rattle.model.specs.Names.{valid}
use Rattle.model.specs.Records.{Record, record_of}
use Rattle.model.specs.Memory.{Memory, boxes, name_of, may_list, both_rights, known, the_mailbox}
use Rattle.model.specs.Groups.{asked_of, asks_name}
use Rattle.model.specs.Lines.{Line, render_all}
use Rattle.model.specs.Events.{Event, new_box, with_rights, parent_row, parent_lines, created, deleted, renamed_to, subscribed_to, granted, tellings}
use Rattle.model.specs.Refusals.{wrong_id}
use Rattle.model.specs.Rules.{Outcome, event_outcome, accepted}
use Rattle.model.specs.Call.{call}
use Rattle.model.specs.Hidden.{Octets}
use Rattle.model.specs.Parents.{told_together, Affects, Writes, ParentOwed}
use Rattle.model.specs.declared.Mailbox.{Mailbox}
use Rattle.demands.specs.Lasting.NameLaws.{name-stored}
use Rattle.demands.specs.Lasting.Ranges.{InRange}
use Rattle.demands.specs.Lasting.Kinds.{row_ok, row_facts}
use Rattle.demands.specs.Counted.Taken.{Taken, taken}
use Rattle.demands.specs.Parents.Lines.{above-lines}

-- nothing owed is nothing told
told-nothing : (m : Memory) → told_together m [] ≡ []
unfolding render_all
told-nothing m = rw leb-zero

module _ (m : Memory) (o : Octets) (t : Taken m o (call m o)) where
  -- the lines of a record whose rule is an event
  pub call-lines : (event : Memory → Event) (r : Record) → record_of o ≡ r → accepted m r ≡ event_outcome m event → (call m o).lines ≡ told_together m (event m).lines
  unfolding tellings
  call-lines event r e f = ap (λ (x : Outcome). x.lines) (t.is ∙ (ap (accepted m) e ∙ f))

  -- its mailbox is known, and has a valid name
  named : (i : ℕ) (r : Record) → record_of o ≡ r → (wrong_id m r ≡ false → known i (boxes m) ≡ true) → valid (name_of (the_mailbox i (boxes m))) ≡ true
  named i r e h = (row_facts (the_mailbox i (boxes m)) (row_ok i (boxes m) (h (sym (ap (wrong_id m) e) ∙ t.id)) t.law.box)).6

  affects : (x : Mailbox) (own : Line) → valid (name_of x) ≡ true
      → (call m o).lines ≡ told_together m (when (both_rights x && asked_of m.session x asks_name) own ++ parent_lines m.session (parent_row (boxes m) x) x) → Affects m x own (call m o).lines
  affects x own v e = record { upper = parent_lines m.session (parent_row (boxes m) x) x; above = above-lines m t.law x v; lines = e }

  -- a quiet record, and rights that leave l as it was
  hush : (q : ℕ) (ls : List Line) → eqb q 0 ≡ false → told_together m (cond (eqb q 0) ls []) ≡ []
  hush q ls f = ap (λ (b : Bool). told_together m (cond b ls [])) f ∙ told-nothing m

  steady : (a b : Bool) (goes comes : List Line) → a ≡ b → told_together m (cond a (cond b [] goes) (cond b comes [])) ≡ []
  steady true true goes comes e = told-nothing m
  steady true false goes comes e = tf true refl e
  steady false true goes comes e = tf false e refl
  steady false false goes comes e = told-nothing m

  writes : Writes m (call m o).lines (record_of o)
  unfolding accepted
  writes = record {
    created = λ i a v c n e.
        affects (new_box i a v c n) _ (ap valid (name-stored n) ∙ (subst InRange e t.range).4.is_valid) (call-lines (λ (k : Memory). created k i a 0 v c n) _ e refl);
    deleted = λ i e.
        affects (the_mailbox i (boxes m)) _ (named i _ e (not-false _)) (call-lines (λ (k : Memory). deleted k i 0) _ e refl);
    gained = λ i b e f g.
        affects (with_rights (the_mailbox i (boxes m)) b) _ (named i _ e (not-false _))
        (call-lines (λ (k : Memory). granted k i b) _ e refl ∙ rw (f, g));
    lost = λ i b e f g.
        affects (the_mailbox i (boxes m)) _ (named i _ e (not-false _))
        (call-lines (λ (k : Memory). granted k i b) _ e refl ∙ rw (f, g));
    kept = λ i b e f. call-lines (λ (k : Memory). granted k i b) _ e refl ∙ steady (may_list (the_mailbox i (boxes m))) (may_list (with_rights (the_mailbox i (boxes m)) b)) _ _ f;
    hushed = λ i a q v c n e f. call-lines (λ (k : Memory). created k i a q v c n) _ e refl ∙ hush q _ f;
    removed = λ i q e f. call-lines (λ (k : Memory). deleted k i q) _ e refl ∙ hush q _ f;
    renamed = λ i q n e. call-lines (λ (k : Memory). renamed_to k i q n) _ e refl;
    subscribed = λ i b q e. call-lines (λ (k : Memory). subscribed_to k i b q) _ e refl;
  }

pub owed_of_it : ParentOwed
owed_of_it m o e = writes m o (taken m o e)
