-- Where no group stands, no event owes a line. Assumes nothing.
use Rattle.std.specs.Prelude.{◌≡◌, refl, List, [], ◌++◌, Bool, true, false, cond, ◌&&◌, ℕ, eqb}
use Rattle.std.proofs.Common.{◌∙◌, ap, ap₂}
use Rattle.model.specs.Lists.{when}
use Rattle.model.specs.Laws.{and_false, cond_same}
use Rattle.model.specs.Names.{Name, has_parent}
use Rattle.model.specs.Memory.{Memory, boxes, name_of, the_mailbox, may_list, both_rights, is_selected, selected_box, drop_mails, is_message}
use Rattle.model.specs.Groups.{asked, asked_of, selected_asks, asks_new, asks_expunge, asks_flags}
use Rattle.model.specs.Lines.{Line, StatusItem}
use Rattle.model.specs.View.{new_at_once, expunge_at_once, flags_at_once, flags_wait, announcing}
use Rattle.model.specs.Events.{Event, loud, create_lines, delete_lines, parent_row, parent_lines, subscription_lines, new_box, created, deleted, renamed_to, subscribed_to, with_rights, granted, status_lines, counts_of, changes_of, with_arrived, arrived, in_view, removed, reflagged}
use Rattle.model.specs.declared.Mailbox.{Mailbox}
use Rattle.model.specs.declared.Group.{Group}

-- a line that a test forbids
no_line : (b c : Bool) (l : Line) → c ≡ false → when (b && c) l ≡ []
no_line b c l e = rw (e, and_false b)

quiet : (q : ℕ) (ls : List Line) → ls ≡ [] → loud q ls ≡ []
quiet q ls e = ap (loud q) e ∙ cond_same (eqb q 0) []

-- the lines of one of two events
of_two : (b : Bool) (x y : Event) → x.lines ≡ [] → y.lines ≡ [] → (cond b x y).lines ≡ []
of_two true x y e f = e
of_two false x y e f = f

-- the event that is not chosen
not_first : (b : Bool) (x y : Event) → b ≡ false → y.lines ≡ [] → (cond b x y).lines ≡ []
not_first b x y e f = rw e f

module _ (m : Memory) (e : m.session.groupcount ≡ 0) where
  nobody : (n : Name) (a : ℕ) (asks : Group → Bool) → asked m.session n a asks ≡ false
  nobody n a asks = rw e

  unselected : (asks : Group → Bool) → selected_asks m.session asks ≡ false
  unselected asks = rw e

  no-create : (x : Mailbox) → create_lines m.session x ≡ []
  no-create x = no_line (both_rights x) _ _ (nobody (name_of x) x.attributes _)

  no-delete : (x : Mailbox) → delete_lines m.session x ≡ []
  no-delete x = no_line (both_rights x) _ _ (nobody (name_of x) x.attributes _)

  no-parent : (y x : Mailbox) → parent_lines m.session y x ≡ []
  no-parent y x = no_line (both_rights x) _ _ (ap (λ (b : Bool). has_parent (name_of x) && b) (nobody (name_of y) y.attributes _) ∙ and_false (has_parent (name_of x)))

  pub created_none : (i a q v c : ℕ) (n : Name) → (created m i a q v c n).lines ≡ []
  created_none i a q v c n = quiet q _ (ap₂ ◌++◌ (no-create (new_box i a v c n)) (no-parent (parent_row (boxes m) (new_box i a v c n)) (new_box i a v c n)))

  pub deleted_none : (i q : ℕ) → (deleted m i q).lines ≡ []
  deleted_none i q = quiet q _ (ap₂ ◌++◌ (no-delete (the_mailbox i (boxes m))) (no-parent (parent_row (boxes m) (the_mailbox i (boxes m))) (the_mailbox i (boxes m))))

  pub renamed_none : (i q : ℕ) (n : Name) → (renamed_to m i q n).lines ≡ []
  renamed_none i q n = quiet q _ (no_line (both_rights (the_mailbox i (boxes m))) _ _ (rw e))

  pub subscribed_none : (i b q : ℕ) → (subscribed_to m i b q).lines ≡ []
  subscribed_none i b q = quiet q (subscription_lines m.session (the_mailbox i (boxes m)) b) (rw (e, and_false (both_rights (the_mailbox i (boxes m))), and_false))

  pub granted_none : (i r : ℕ) → (granted m i r).lines ≡ []
  granted_none i r = go (may_list (the_mailbox i (boxes m))) (may_list (with_rights (the_mailbox i (boxes m)) r))
    where
      go : (b c : Bool) → cond b (cond c [] (delete_lines m.session (the_mailbox i (boxes m)) ++ parent_lines m.session (parent_row (boxes m) (the_mailbox i (boxes m))) (the_mailbox i (boxes m)))) (cond c (create_lines m.session (with_rights (the_mailbox i (boxes m)) r) ++ parent_lines m.session (parent_row (boxes m) (the_mailbox i (boxes m))) (with_rights (the_mailbox i (boxes m)) r)) []) ≡ []
      go true true = refl
      go true false = ap₂ ◌++◌ (no-delete (the_mailbox i (boxes m))) (no-parent (parent_row (boxes m) (the_mailbox i (boxes m))) (the_mailbox i (boxes m)))
      go false true = ap₂ ◌++◌ (no-create (with_rights (the_mailbox i (boxes m)) r)) (no-parent (parent_row (boxes m) (the_mailbox i (boxes m))) (with_rights (the_mailbox i (boxes m)) r))
      go false false = refl

  no-new : new_at_once m ≡ false
  no-new = ap (λ (b : Bool). both_rights (selected_box m) && b) (unselected asks_new) ∙ and_false (both_rights (selected_box m))

  no-expunge : expunge_at_once m ≡ false
  no-expunge = rw (e, and_false (both_rights (selected_box m)))

  no-flags : flags_at_once m ≡ false
  no-flags = ap (λ (b : Bool). both_rights (selected_box m) && b) (unselected asks_flags) ∙ and_false (both_rights (selected_box m))

  no-status : (x : Mailbox) (asks : Group → Bool) (is : List StatusItem) → status_lines x (asked_of m.session x asks) is ≡ []
  no-status x asks is = no_line (both_rights x) _ _ (nobody (name_of x) x.attributes asks)

  pub arrived_none : (i u f z c : ℕ) → (arrived m i u f z c).lines ≡ []
  arrived_none i u f z c =
      let w = with_arrived m i u f z c in
      let x = the_mailbox i (boxes (with_arrived m i u f z c)) in
      (λ j. cond (is_selected m i) (cond (no-new j) (announcing w) []) (no-status x asks_new (counts_of w x) j)) ∙ cond_same (is_selected m i) []

  pub removed_none : (i u : ℕ) → (removed m i u).lines ≡ []
  removed_none i u =
      let x = the_mailbox i (boxes m) in
      of_two (in_view m i u) _ _ (not_first (expunge_at_once m) _ _ no-expunge refl)
      (ap (cond (is_selected m i) []) (no-status x asks_expunge (counts_of (drop_mails m (is_message i u)) x)) ∙ cond_same (is_selected m i) [])

  pub reflagged_none : (i u f c : ℕ) → (reflagged m i u f c).lines ≡ []
  reflagged_none i u f c = of_two (in_view m i u) _ _ (not_first (flags_at_once m) _ _ no-flags (of_two (flags_wait m) _ _ refl refl))
      (ap (cond (is_selected m i) []) (no-status (the_mailbox i (boxes m)) asks_flags (changes_of (the_mailbox i (boxes m)))) ∙ cond_same (is_selected m i) [])
