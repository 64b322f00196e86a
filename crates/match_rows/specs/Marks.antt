-- Marks beside the rows of the mailbox table: whether a test said yes of a row, put there a group and a name after the other.
-- Assumes nothing.
use Rattle.std.specs.Prelude.{◌≡◌, refl, Bool, true, false, cond, ◌&&◌, ◌||◌, List, [], ◌∷◌, ℕ, ◌+◌, ◌<◌, ◌≤◌, length, get_or, set, replicate}
use Rattle.std.proofs.Common.{ap, sym, ◌∙◌, arith, get_or-set_same, get_or-set_other, below_more}
use Rattle.std.proofs.lemmas.List.{get_or-replicate}
use Rattle.model.specs.Lists.{anyb, same}
use Rattle.model.specs.Text.{bit}
use Rattle.model.specs.Names.{Name, subtree}
use Rattle.model.specs.Selectors.{taken_by_inboxes, taken_by_personal, taken_by_subscribed}
use Rattle.model.specs.Groups.{asks_messages, asks_mailbox}
use Rattle.model.specs.declared.Group.{Group}
use Rattle.model.specs.declared.LentGroup.{LentGroup}
use Rattle.model.specs.declared.LentName.{LentName}
use Rattle.model.specs.declared.Selector.{Selector}
use Rattle.model.specs.declared.Selector.TheVariants.{Selected, Delayed, Inboxes, Personal, Subscribed, Subtree, Mailboxes}
use Rattle.model.specs.Laws.{or-false, and_false, or_assoc}

-- a name and a group as they are kept where there is none
abbrev pub vacant_name : LentName
vacant_name = record { len = 0; octets = [] }

abbrev pub vacant_group : LentGroup
vacant_group = record { selector = 0; first = 0; count = 0; events = 0; attributes = 0 }

-- whom a selector takes by attributes alone
abbrev pub taken_by : Selector → ℕ → Bool
taken_by Selected a = false
taken_by Delayed a = false
taken_by Inboxes a = taken_by_inboxes a
taken_by Personal a = taken_by_personal a
taken_by Subscribed a = taken_by_subscribed a
taken_by (Subtree r) a = false
taken_by (Mailboxes r) a = false

-- whom a name takes: the mailbox that has it; or, `deep`, those that are selectable and in its subtree
abbrev pub taken_by_name : Bool → Name → ℕ → Name → Bool
taken_by_name deep n a t = cond deep (bit 0 a && subtree t n) (same t n)

-- message events, or mailbox events
abbrev pub asks_of : Bool → Group → Bool
asks_of messages g = cond messages (asks_messages g) (asks_mailbox g)

-- of n rows those have a mark now that had one, and those of which the test says yes
abbrev pub Marks : ℕ → (ℕ → Bool) → List Bool → List Bool → Type 0
Marks n p old new = (k : ℕ) → k < n → get_or new k false ≡ (get_or old k false || p k)

-- ---- a row after the other
pub record Marking (i : ℕ) (p : ℕ → Bool) (old new : List Bool) : Type 0 where
  pub below : Marks i p old new
  pub above : (k : ℕ) → i ≤ k → get_or new k false ≡ get_or old k false

pub marking_next : (p : ℕ → Bool) (old new : List Bool) (i : ℕ) (v : Bool) → i < length new → Marking i p old new → v ≡ (get_or new i false || p i) → Marking (i + 1) p old (set new i v)
marking_next p old new i v w m e = record {
  below = below_more (λ (k : ℕ). get_or (set new i v) k false ≡ (get_or old k false || p k)) i
      (λ k h. let d : k ≡ i → ⊥ = λ z. absurd (let y : ⊥ = omega arith in y) in rw (get_or-set_other new i k v false d) (m.below k h))
      (rw (get_or-set_same new i v false w) (e ∙ ap (λ (x : Bool). x || p i) (m.above i (omega arith))));
  above = λ k h. let d : k ≡ i → ⊥ = λ z. absurd (let y : ⊥ = omega arith in y) in get_or-set_other new i k v false d ∙ m.above k (omega arith);
}

-- ---- a name or a group after the other: with q to come all is as it was with p to come
abbrev pub Left : ℕ → (ℕ → Bool) → (ℕ → Bool) → List Bool → List Bool → Type 0
Left n p q old new = (k : ℕ) → k < n → (get_or old k false || p k) ≡ (get_or new k false || q k)

-- of one row, whose mark is m: x comes next, and r is left behind it
pub left_next : (m x r : Bool) {z q n : Bool} → z ≡ (m || q) → q ≡ (x || r) → n ≡ (m || x) → z ≡ (n || r)
left_next m x r e f g = e ∙ (ap (λ (b : Bool). m || b) f ∙ (or_assoc m x r ∙ ap (λ (b : Bool). b || r) (sym g)))

-- nothing is left
pub left_past : (m : Bool) {z q : Bool} → z ≡ (m || q) → q ≡ false → m ≡ z
left_past m e f = sym (e ∙ (ap (λ (b : Bool). m || b) f ∙ or-false m))

-- from no marks on
pub fresh : (n k : ℕ) {z x : Bool} → k < n → z ≡ (get_or (replicate n false) k false || x) → z ≡ x
fresh n k {z} {x} h e = e ∙ ap (λ (m : Bool). m || x) (get_or-replicate n k false false h)

-- ---- whom a range of names takes
and_or : (b x y : Bool) → ((b && x) || (b && y)) ≡ (b && (x || y))
and_or true x y = refl
and_or false x y = refl

-- those of a subtree are selectable, all or none
pub taken_deep : (a : ℕ) (n : Name) (l : List Name) → anyb (taken_by_name true n a) l ≡ (bit 0 a && anyb (λ (t : Name). subtree t n) l)
taken_deep a n [] = sym (and_false (bit 0 a))
taken_deep a n (t ∷ l) = ap (λ (b : Bool). (bit 0 a && subtree t n) || b) (taken_deep a n l) ∙ and_or (bit 0 a) (subtree t n) (anyb (λ (t : Name). subtree t n) l)
