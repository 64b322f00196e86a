-- Which group asks: by its number, by bits of events. Assumes nothing.
use Rattle.std.specs.Prelude.{◌≡◌, Bool, true, false, ◌&&◌, ◌||◌, ℕ, zero, suc, ◌+◌, length, take, drop}
use Rattle.std.proofs.Math.Path.{refl, ap₂}
use Rattle.std.proofs.Common.{ap, sym, ◌∙◌, arith}
use Rattle.std.proofs.Math.Bool.{cond}
use mathlib.Core.List.{List, [], ◌∷◌, map}
use Rattle.model.specs.Lists.{anyb, same}
use Rattle.model.specs.Text.{bit}
use Rattle.model.specs.Names.{Name, subtree}
use Rattle.model.specs.Groups.{behind, number, group_of, groups_of, lent_name, names_in, meets, is_selecting, is_immediate, selected_asks, immediate_asks}
use Rattle.model.specs.declared.NameRange.{NameRange}
use Rattle.model.specs.declared.Selector.{Selector}
use Rattle.model.specs.declared.Selector.TheVariants.{Selected, Delayed, Inboxes, Personal, Subscribed, Subtree, Mailboxes}
use Rattle.model.specs.declared.Group.{Group}
use Rattle.model.specs.declared.LentGroup.{LentGroup}
use Rattle.model.specs.declared.LentName.{LentName}
use Rattle.model.specs.declared.Session.{Session}
use Rattle.model.specs.Lawful.{used_groups}
use Rattle.std.specs.Prelude.{Option, Some, None, unwrap_or, option_map, not, ltb}
use Rattle.std.specs.List.{position, position_or_len, list_any}
use Rattle.model.specs.Iterating.{anyb_is_any}
use Rattle.std.proofs.Common.{add-one, ltb-true, ltb-false}
use borrow.Author.Tests.{lt-ltb, le-ltb}

-- a group asks for event k, by its bit
abbrev pub asks_bit : ℕ → Group → Bool
asks_bit k g = bit k g.events

-- ---- names
abbrev pub hit : Bool → Name → Name → Bool
hit deep t n = cond deep (subtree t n) (same t n)

pub any-map : {A B : Type 0} (p : B → Bool) (f : A → B) (l : List A) → anyb p (map f l) ≡ anyb (λ (x : A). p (f x)) l
any-map p f [] = refl
any-map p f (x ∷ l) = ap (λ (b : Bool). p (f x) || b) (any-map p f l)

pub number-map : {A B : Type 0} (p : B → Bool) (f : A → B) (l : List A) → number p (map f l) ≡ number (λ (x : A). p (f x)) l
unfolding number
number-map p f [] = refl
number-map p f (x ∷ l) = ap (λ (n : ℕ). cond (p (f x)) 1 (behind 1 n)) (number-map p f l)

-- ---- the selected group: at once, or delayed too
abbrev pub selecting : Bool → Selector → Bool
selecting delayed Selected = true
selecting delayed Delayed = delayed
selecting delayed Inboxes = false
selecting delayed Personal = false
selecting delayed Subscribed = false
selecting delayed (Subtree r) = false
selecting delayed (Mailboxes r) = false

abbrev pub standing : Bool → ℕ → Group → Bool
standing delayed k g = selecting delayed g.selector && bit k g.events

pub selecting_is : (x : Selector) → selecting true x ≡ is_selecting x
selecting_is Selected = refl
selecting_is Delayed = refl
selecting_is Inboxes = refl
selecting_is Personal = refl
selecting_is Subscribed = refl
selecting_is (Subtree r) = refl
selecting_is (Mailboxes r) = refl

immediate_is : (x : Selector) → selecting false x ≡ is_immediate x
immediate_is Selected = refl
immediate_is Delayed = refl
immediate_is Inboxes = refl
immediate_is Personal = refl
immediate_is Subscribed = refl
immediate_is (Subtree r) = refl
immediate_is (Mailboxes r) = refl

-- two tests that are the same of each
module _ {A : Type 0} (p q : A → Bool) (e : (x : A) → p x ≡ q x) where
  pub any_same : (l : List A) → anyb p l ≡ anyb q l
  any_same [] = refl
  any_same (x ∷ l) = ap₂ ◌||◌ (e x) (any_same l)

  number_same : (l : List A) → number p l ≡ number q l
  unfolding number
  number_same [] = refl
  number_same (x ∷ l) = ap₂ (λ (b : Bool) (n : ℕ). cond b 1 (behind 1 n)) (e x) (number_same l)

-- a selected group asks for event k
abbrev pub selected_in : ℕ → Group → Bool
selected_in k g = is_selecting g.selector && asks_bit k g

module _ (s : Session) (k : ℕ) where
  pub selected-number_is : number (standing true k) (groups_of s) ≡ number (selected_in k) (groups_of s)
  selected-number_is = number_same _ _ (λ (g : Group). ap (λ (b : Bool). b && bit k g.events) (selecting_is g.selector)) (groups_of s)

  pub selected-stands : anyb (standing true k) (groups_of s) ≡ selected_asks s (asks_bit k)
  selected-stands = any_same _ _ (λ (g : Group). ap (λ (b : Bool). b && bit k g.events) (selecting_is g.selector)) (groups_of s)

  pub immediate-stands : anyb (standing false k) (groups_of s) ≡ immediate_asks s (asks_bit k)
  immediate-stands = any_same _ _ (λ (g : Group). ap (λ (b : Bool). b && bit k g.events) (immediate_is g.selector)) (groups_of s)

-- ---- a number from 1, or none
abbrev pub numbered : ℕ → Option ℕ
numbered zero = None
numbered (suc n) = Some (suc n)

-- none is the number 0
pub numbered_or : (n : ℕ) → unwrap_or (numbered n) 0 ≡ n
numbered_or zero = refl
numbered_or (suc n) = refl

module _ {A : Type 0} (p : A → Bool) where
  number_is : (l : List A) → number p l ≡ cond (ltb (position_or_len p l) (length l)) (suc (position_or_len p l)) 0
  unfolding number
  number_is [] = refl
  number_is (x ∷ l) = go (p x) (number_is l)
    where
      step : (k n : ℕ) (c : Bool) → ltb k n ≡ c → behind 1 (cond c (suc k) 0) ≡ cond (ltb (1 + k) (suc n)) (suc (1 + k)) 0
      step k n true t = let h = ltb-true k n t in rw (lt-ltb (1 + k) (suc n) (omega arith)) (omega arith)
      step k n false t = let h = ltb-false k n t in rw (le-ltb (1 + k) (suc n) (omega arith))

      go : (b : Bool) → number p l ≡ cond (ltb (position_or_len p l) (length l)) (suc (position_or_len p l)) 0
          → cond b 1 (behind 1 (number p l)) ≡ cond (ltb (cond (not b) (1 + position_or_len p l) 0) (suc (length l))) (suc (cond (not b) (1 + position_or_len p l) 0)) 0
      go true e = rw (lt-ltb 0 (suc (length l)) (omega arith))
      go false e = rw e (step (position_or_len p l) (length l) (ltb (position_or_len p l) (length l)) refl)

  -- where the first that passes stands, it has the next number
  pub numbered_at : (l : List A) (o : Option ℕ) → o ≡ position p l → numbered (number p l) ≡ option_map (λ (i : ℕ). i + 1) o
  numbered_at l o e = rw e (ap numbered (number_is l) ∙ go (position_or_len p l) (ltb (position_or_len p l) (length l)))
    where
      go : (k : ℕ) (c : Bool) → numbered (cond c (suc k) 0) ≡ option_map (λ (i : ℕ). i + 1) (cond c (Some k) None)
      go k true = ap Some (sym (add-one k))
      go k false = refl

-- ---- the groups and names as they are kept
module _ (s : Session) (p : Group → Bool) where
  pub any_groups : list_any (λ (g : LentGroup). p (group_of g)) (used_groups s) ≡ anyb p (groups_of s)
  any_groups = anyb_is_any (λ (g : LentGroup). p (group_of g)) (used_groups s) ∙ sym (any-map p group_of (used_groups s))

  -- the number of the first that passes is where it stands, from 1
  pub number_groups : (o : Option ℕ) → o ≡ position (λ (g : LentGroup). p (group_of g)) (used_groups s) → option_map (λ (i : ℕ). i + 1) o ≡ numbered (number p (groups_of s))
  number_groups o e = sym (ap numbered (number-map p group_of (used_groups s)) ∙ numbered_at (λ (g : LentGroup). p (group_of g)) (used_groups s) o e)

abbrev pub lent_names_in : Session → NameRange → List LentName
lent_names_in s r = take r.count (drop r.first s.names)

pub any_names : (s : Session) (r : NameRange) (p : Name → Bool) → list_any (λ (x : LentName). p (lent_name x)) (lent_names_in s r) ≡ anyb p (names_in s r)
any_names s r p = anyb_is_any (λ (x : LentName). p (lent_name x)) (lent_names_in s r) ∙ sym (any-map p lent_name (lent_names_in s r))

-- a group meets the mailbox and asks for event k
abbrev pub asks_in : Session → Name → ℕ → ℕ → Group → Bool
asks_in s n a k g = meets s n a g.selector && asks_bit k g

-- a group matches a mailbox, be it for another event; a selected one does where that is the selected mailbox
abbrev pub matched_by : Session → Name → ℕ → Bool → Group → Bool
matched_by s n a here g = (is_selecting g.selector && here) || meets s n a g.selector
