-- `RT`: who is told of a change of rights, and what it leaves. Assumes nothing.
use Rattle.std.specs.Prelude.{◌≡◌, refl, Bool, true, false, cond, ◌&&◌, List, [], ◌++◌, ℕ}
use Rattle.std.proofs.Common.{ap, ap₂, sym, ◌∙◌}
use Rattle.model.specs.Lists.{when}
use Rattle.model.specs.Memory.{name_of, may_list, both_rights, with_attributes}
use Rattle.model.specs.Groups.{asked_of, asks_name}
use Rattle.model.specs.Lines.{ListMark, non_existent, list}
use Rattle.model.specs.Events.{list_mark, create_lines, delete_lines, parent_lines, rights_lines, with_rights}
use Rattle.model.specs.declared.Mailbox.{Mailbox}
use Rattle.model.specs.declared.Session.{Session}
use Rattle.line_put.specs.Heard.{After, Hears, Leaves, leaves}
use Rattle.event_mailbox.specs.Appearing.{both_heard}

-- the row that counts: as it was, if l is lost; as it is, if l is gained; else one without rights, of which nobody is told
abbrev pub counting : (was is : Bool) → Mailbox → Mailbox → Mailbox
counting was is x z = cond was (cond is (with_attributes x 0) x) (cond is z (with_attributes x 0))

abbrev pub grant_row : Mailbox → Mailbox → Mailbox
grant_row x z = counting (may_list x) (may_list z) x z

-- how it is listed: a mailbox without l is as one that does not exist
abbrev pub grant_mark : Mailbox → Mailbox → ListMark
grant_mark x z = cond (may_list x) non_existent (list_mark z)

-- the rule's lines by that row, p being the parent
pub rights_by_lem : (s : Session) (p x z : Mailbox)
    → rights_lines s p x z ≡ when (both_rights (grant_row x z) && asked_of s (grant_row x z) asks_name) (list (grant_mark x z) (name_of (grant_row x z))) ++ parent_lines s p (grant_row x z)
rights_by_lem s p x z = go (may_list x) (may_list z)
  where
    go : (a b : Bool) → cond a (cond b [] (delete_lines s x ++ parent_lines s p x)) (cond b (create_lines s z ++ parent_lines s p z) [])
        ≡ when (both_rights (counting a b x z) && asked_of s (counting a b x z) asks_name) (list (cond a non_existent (list_mark z)) (name_of (counting a b x z))) ++ parent_lines s p (counting a b x z)
    go true true = refl
    go true false = refl
    go false true = refl
    go false false = refl

-- its name is the mailbox's
pub grant_name : (x z : Mailbox) → name_of z ≡ name_of x → name_of (grant_row x z) ≡ name_of x
grant_name x z e = go (may_list x) (may_list z)
  where
    go : (a b : Bool) → name_of (counting a b x z) ≡ name_of x
    go true true = refl
    go true false = refl
    go false true = e
    go false false = refl

-- what is left; y stands for the parent
abbrev pub grant_after : List ℕ → Session → ℕ → Mailbox → Mailbox → ℕ → After
grant_after q s at y x r = record { row = with_rights x r; heard = both_heard q s at y (grant_row x (with_rights x r)) 0 (grant_mark x (with_rights x r)) }

-- what the code leaves
pub grant_leaves : (q : List ℕ) (s : Session) (at : ℕ) {q' : List ℕ} {s' : Session} {f : ℕ} (y x : Mailbox) (r : ℕ) {z w : Mailbox} {k : ListMark}
    → z ≡ with_rights x r → w ≡ grant_row x z → k ≡ grant_mark x z
    → Hears (both_heard q s at y w 0 k) q' s' f → Leaves (grant_after q s at y x r) z q' s' f
grant_leaves q s at y x r {z} {w} {k} e g h v =
    leaves (grant_after q s at y x r) e (ap₂ (λ (a : Mailbox) (b : ListMark). both_heard q s at y a 0 b) (g ∙ ap (grant_row x) e) (h ∙ ap (grant_mark x) e)) v

-- case by case
module _ (x z : Mailbox) where
  pub counts-kept : may_list x ≡ true → may_list z ≡ true → with_attributes x 0 ≡ grant_row x z
  counts-kept a b = sym (ap₂ (λ (c d : Bool). counting c d x z) a b)

  pub counts_was : may_list x ≡ true → may_list z ≡ false → x ≡ grant_row x z
  counts_was a b = sym (ap₂ (λ (c d : Bool). counting c d x z) a b)

  pub counts_is : may_list x ≡ false → may_list z ≡ true → z ≡ grant_row x z
  counts_is a b = sym (ap₂ (λ (c d : Bool). counting c d x z) a b)

  pub counts_none : may_list x ≡ false → may_list z ≡ false → with_attributes x 0 ≡ grant_row x z
  counts_none a b = sym (ap₂ (λ (c d : Bool). counting c d x z) a b)
