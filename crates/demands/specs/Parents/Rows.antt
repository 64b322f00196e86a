-- The row by which a parent is told of: the one that may be listed and has its name, or else the stand-in, which is met by names alone (02, 2). Assumes nothing.
use Rattle.std.specs.Prelude.{◌≡◌, refl, List, [], ◌∷◌, Bool, true, false, not, ◌&&◌, ℕ, zero, suc, ◌<◌, eqb, length, get_or}
use Rattle.std.proofs.Common.{sym, ◌∙◌, ap, arith}
use Rattle.std.proofs.lemmas.Bool.{not-true}
use Rattle.model.specs.Lists.{keep, filterb, anyb, apart, same}
use Rattle.model.specs.Laws.{tf, or_l, or_r, and_l, and_r}
use Rattle.model.specs.Names.{Name}
use Rattle.model.specs.Memory.{name_of, may_list, no_mailbox}
use Rattle.model.specs.Groups.{groups_of, meets, asked_of, asks_name}
use Rattle.model.specs.Events.{stand_in, is_listed, listed_row}
use Rattle.model.specs.Lawful.{clash}
use Rattle.model.specs.Parents.{names_meet, names_ask}
use Rattle.model.specs.declared.Mailbox.{Mailbox}
use Rattle.model.specs.declared.Group.{Group}
use Rattle.model.specs.declared.Selector.{Selector}
use Rattle.model.specs.declared.Selector.TheVariants.{Selected, Delayed, Inboxes, Personal, Subscribed, Subtree, Mailboxes}
use Rattle.model.specs.declared.Session.{Session}
use Rattle.demands.specs.Lasting.NameLaws.{same_refl, same_true, name-stored}

-- ---- the stand-in
module _ (s : Session) (p : Name) where
  by_names : (k : Selector) → meets s (name_of (stand_in p)) 1 k ≡ names_meet s p k
  by_names Selected = refl
  by_names Delayed = refl
  by_names Inboxes = refl
  by_names Personal = refl
  by_names Subscribed = refl
  by_names (Subtree r) = rw (name-stored p)
  by_names (Mailboxes r) = rw (name-stored p)

  pub stand-asked : asked_of s (stand_in p) asks_name ≡ names_ask s p
  stand-asked = λ j. anyb (λ (g : Group). by_names g.selector j && asks_name g) (groups_of s)

-- ---- a test that none of a list passes
module _ {A : Type 0} (q : A → Bool) where
  none_at : (l : List A) (k : ℕ) (d : A) → anyb q l ≡ false → k < length l → q (get_or l k d) ≡ false
  none_at [] k d e h = absurd (let z : ⊥ = omega arith in z)
  none_at (x ∷ l) zero d e h = or_l (q x) _ e
  none_at (x ∷ l) (suc k) d e h = none_at l k d (or_r (q x) _ e) (omega arith)

  none_kept : (l : List A) → anyb q l ≡ false → filterb q l ≡ []
  none_kept [] e = refl
  none_kept (x ∷ l) e = rw (or_l (q x) _ e) (none_kept l (or_r (q x) _ e))

-- ---- the row that has the name and may be listed
module _ (p : Name) where
  first-listed : (d : Mailbox) (l : List Mailbox) (k : ℕ) → apart clash l ≡ true → k < length l → is_listed p (get_or l k no_mailbox) ≡ true → get_or (filterb (is_listed p) l) 0 d ≡ get_or l k no_mailbox
  first-listed d [] k a h e = absurd (let z : ⊥ = omega arith in z)
  first-listed d (x ∷ l) zero a h e = rw e
  first-listed d (x ∷ l) (suc k) a h e = go (is_listed p x) refl (first-listed d l k (and_r (not (anyb (clash x) l)) _ a) (omega arith) e)
    where
      go : (c : Bool) → is_listed p x ≡ c → get_or (filterb (is_listed p) l) 0 d ≡ get_or l k no_mailbox → get_or (keep (is_listed p x) x (filterb (is_listed p) l)) 0 d ≡ get_or l k no_mailbox
      go true f ih =
          let n : name_of x ≡ name_of (get_or l k no_mailbox) = same_true (name_of x) p (and_r (may_list x) _ f) ∙ sym (same_true (name_of (get_or l k no_mailbox)) p (and_r (may_list (get_or l k no_mailbox)) _ e)) in
          let c = none_at (clash x) l k no_mailbox (not-true (anyb (clash x) l) (and_l (not (anyb (clash x) l)) _ a)) (omega arith) in
          tf (same (name_of x) (name_of (get_or l k no_mailbox))) (sym (ap (same (name_of x)) n) ∙ same_refl (name_of x)) (or_r (eqb x.id (get_or l k no_mailbox).id) _ c)
      go false f ih = rw f ih

  pub row_listed : (l : List Mailbox) (k : ℕ) → apart clash l ≡ true → k < length l → may_list (get_or l k no_mailbox) ≡ true → name_of (get_or l k no_mailbox) ≡ p → listed_row p l ≡ get_or l k no_mailbox
  row_listed l k a h e n = first-listed (stand_in p) l k a h (rw e (ap (λ (o : Name). same o p) n ∙ same_refl p))

  pub row-unlisted : (l : List Mailbox) → anyb (is_listed p) l ≡ false → listed_row p l ≡ stand_in p
  row-unlisted l e = ap (λ (k : List Mailbox). get_or k 0 (stand_in p)) (none_kept (is_listed p) l e)
