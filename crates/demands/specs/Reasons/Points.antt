-- A group that asks for a record's event matches its mailbox, whatever the record. Assumes nothing.
use Rattle.std.specs.Prelude.{◌≡◌, refl, Bool, not, ◌&&◌, ◌||◌}
use Rattle.std.proofs.Common.{◌∙◌, ap}
use Rattle.std.proofs.Math.Bool.{true, false}
use Rattle.model.specs.Laws.{and_l, or_true}
use Rattle.model.specs.Names.{has_parent}
use Rattle.model.specs.Records.{Record, create, delete, rename, subscribe, grant, arrive, expunge, reflag, select, ended, command, drained, record_of_none}
use Rattle.model.specs.Memory.{Memory, boxes, name_of, may_list, with_attributes, with_name, the_mailbox, is_selected}
use Rattle.model.specs.Groups.{meets, is_selecting, asks_new, asks_expunge, asks_flags, asks_name, asks_subscription}
use Rattle.model.specs.Events.{parent_row, new_box, with_subscribed, with_rights}
use Rattle.model.specs.Due.{is_quiet}
use Rattle.model.specs.Reasons.{Points, met_by, asks_of, named, points}
use Rattle.model.specs.declared.Mailbox.{Mailbox}
use Rattle.model.specs.declared.Group.{Group}
use Rattle.demands.specs.Ledger.Each.{of_two}

-- what one test passes, the other passes too
abbrev pub Narrow : (wide narrow : Group → Bool) → Type 0
Narrow wide narrow = (g : Group) → narrow g ≡ true → wide g ≡ true

either-holds : (a b c d : Bool) → (a ≡ true → c ≡ true) → (b ≡ true → d ≡ true) → (a || b) ≡ true → (c || d) ≡ true
either-holds true b c d f g h = rw (f refl)
either-holds false b c d f g h = rw (g h) (or_true c)

both_hold : (c p q : Bool) → (p ≡ true → q ≡ true) → (c && p) ≡ true → (c && q) ≡ true
both_hold true p q f h = f h
both_hold false p q f h = h

module _ (m : Memory) where
  pub asks-meets : (asks : Group → Bool) (x : Mailbox) → Narrow (met_by m x) (asks_of m asks x)
  asks-meets asks x g h =
      let s = is_selecting g.selector && is_selected m x.id in
      ap (λ (b : Bool). s || b) (and_l (meets m.session (name_of x) x.attributes g.selector) (asks g) h) ∙ or_true s

  -- of either of two mailboxes; of a mailbox and its parent; of the selected one
  pub either_meets : (asks : Group → Bool) (x y : Mailbox) → Narrow (λ (g : Group). met_by m x g || met_by m y g) (λ (g : Group). asks_of m asks x g || asks_of m asks y g)
  either_meets asks x y g h = either-holds (asks_of m asks x g) (asks_of m asks y g) (met_by m x g) (met_by m y g) (asks-meets asks x g) (asks-meets asks y g) h

  pub named-meets : (q e : Bool) (x : Mailbox) → Narrow (named m q e x).meets (named m q e x).asks
  named-meets q e x g h =
      let y = parent_row (boxes m) x in
      let p = has_parent (name_of x) in
      either-holds (asks_of m asks_name x g) (p && asks_of m asks_name y g) (met_by m x g) (p && met_by m y g)
      (asks-meets asks_name x g) (both_hold p (asks_of m asks_name y g) (met_by m y g) (asks-meets asks_name y g)) h

  pub selected-meets : (asks : Group → Bool) → Narrow (λ (g : Group). is_selecting g.selector) (λ (g : Group). is_selecting g.selector && asks g)
  selected-meets asks g h = and_l (is_selecting g.selector) (asks g) h

  -- of what a record asks
  abbrev Fits : Points → Type 0
  Fits p = Narrow p.meets p.asks

  pub narrow : (r : Record) → Fits (points m r)
  unfolding points
  narrow (create i b q v c n) = named-meets (is_quiet q) true (new_box i b v c n)
  narrow (delete i q) = named-meets (is_quiet q) true (the_mailbox i (boxes m))
  narrow (rename i q n) = let x = the_mailbox i (boxes m) in either_meets asks_name x (with_name x n)
  narrow (subscribe i b q) = let x = the_mailbox i (boxes m) in asks-meets asks_subscription (with_attributes x (with_subscribed x.attributes 1))
  narrow (grant i r) =
      let x = the_mailbox i (boxes m) in
      let y = with_rights x r in
      of_two Fits (may_list x) _ _ (named-meets false (not (may_list y)) x) (named-meets false (may_list y) y)
  narrow (arrive i u f z c) = of_two Fits (is_selected m i) _ _ (selected-meets asks_new) (asks-meets asks_new (the_mailbox i (boxes m)))
  narrow (expunge i u c) = of_two Fits (is_selected m i) _ _ (selected-meets asks_expunge) (asks-meets asks_expunge (the_mailbox i (boxes m)))
  narrow (reflag i u f c) = of_two Fits (is_selected m i) _ _ (selected-meets asks_flags) (asks-meets asks_flags (the_mailbox i (boxes m)))
  narrow (select i) = λ g h. h
  narrow (ended c) = λ g h. h
  narrow (command t) = λ g h. h
  narrow (drained n) = λ g h. h
  narrow record_of_none = λ g h. h
