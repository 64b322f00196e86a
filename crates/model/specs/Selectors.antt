-- Whom a selector takes, by the name and the attributes of a mailbox (01, Matches, 1 and 2). The groups of NOTIFY and the
-- sources of ESEARCH both say it by these.
use Rattle.std.specs.Prelude.{List, Bool, ◌&&◌, ℕ}
use Rattle.model.specs.Lists.{anyb, same}
use Rattle.model.specs.Names.{Name, subtree, subtree_one}
use Rattle.model.specs.Memory.{selectable_bit, personal_bit, delivery_bit, subscribed_bit}

-- by attributes: `inboxes`, `personal` and `subscribed`; all but the last take selectable mailboxes only
abbrev pub taken_by_inboxes : ℕ → Bool
taken_by_inboxes a = selectable_bit a && (personal_bit a && delivery_bit a)

abbrev pub taken_by_personal : ℕ → Bool
taken_by_personal a = selectable_bit a && personal_bit a

abbrev pub taken_by_subscribed : ℕ → Bool
taken_by_subscribed a = subscribed_bit a

-- by one of the names that it lists; `given` is the name that each stands for
module _ {A : Type 0} (given : A → Name) (l : List A) (n : Name) where
  -- `subtree` and `subtree-one` take selectable mailboxes only
  abbrev pub taken_by_subtree : ℕ → Bool
  taken_by_subtree a = selectable_bit a && anyb (λ (t : A). subtree (given t) n) l

  abbrev pub taken_by_subtree_one : ℕ → Bool
  taken_by_subtree_one a = selectable_bit a && anyb (λ (t : A). subtree_one (given t) n) l

  abbrev pub taken_by_mailboxes : Bool
  taken_by_mailboxes = anyb (λ (t : A). same (given t) n) l
