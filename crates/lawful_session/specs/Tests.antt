-- The tests of a session, as the code takes them. Assumes nothing.
use Rattle.std.specs.Prelude.{◌≡◌, refl, Bool, true, false, not, cond, ◌&&◌, ◌||◌, List, [], ◌∷◌, ◌++◌, map, ℕ, zero, suc, ◌+◌, ◌<◌, ◌≤◌, eqb, leb, length, take, drop, get_or}
use Rattle.std.specs.List.{count_by, sum_by}
use Rattle.std.proofs.lemmas.List.Recursion.{is_count_by}
use Rattle.std.proofs.lemmas.List.Sums.{sum_by-cons}
use Rattle.std.proofs.Common.{zero-add, ap, sym, ◌∙◌, arith, ne_eqb, le-leb}
use Rattle.std.proofs.lemmas.Bool.{lt-leb}
use Rattle.std.proofs.Math.Seq.{take-length}
use Rattle.model.specs.Laws.{take-drop, tf, and_l, and_r, and-true}
use Rattle.model.specs.Lists.{anyb, allb, apart, every}
use Rattle.model.specs.Text.{bit, one}
use Rattle.model.specs.Groups.{selector_of, group_of, groups_of, is_selecting}
use Rattle.model.specs.Lawful.{groups_ok, lent_name_count, lent_name_ok, blank_group, blank_name, both_selecting, used_groups, session_ok, events_ok, attributes_ok, range_ok, group_ok}
use Rattle.model.specs.declared.NameRange.{NameRange}
use Rattle.model.specs.declared.Selector.{Selector}
use Rattle.model.specs.declared.Group.{Group}
use Rattle.model.specs.declared.LentGroup.{LentGroup}
use Rattle.model.specs.declared.Session.{Session}

-- ---- a group
abbrev pub selector_by : ℕ → ℕ → ℕ → Selector
selector_by k first count = selector_of k (record { first = first; count = count })

abbrev pub events_by : Bool → ℕ → Bool
events_by selecting e = leb e 31 && (cond (bit 0 e) (bit 1 e) (not (bit 1 e)) && ((not (bit 2 e) || bit 0 e) && (not selecting || (not (bit 3 e) && not (bit 4 e)))))

abbrev pub attributes_by : Bool → ℕ → ℕ → Bool
attributes_by selecting e a = leb a 7 && (eqb a 0 || (selecting && bit 0 e))

high : (k : ℕ) (r : NameRange) → 5 < k → is_selecting (selector_of k r) ≡ leb k 1
high k r h =
    let n : (j : ℕ) → j < 6 → k ≡ j → ⊥ = λ j q z. (let y : ⊥ = omega arith in y) in
    rw (ne_eqb k 0 (n 0 (omega arith)), ne_eqb k 1 (n 1 (omega arith)), ne_eqb k 2 (n 2 (omega arith)), ne_eqb k 3 (n 3 (omega arith)), ne_eqb k 4 (n 4 (omega arith)), ne_eqb k 5 (n 5 (omega arith)))
    (sym (lt-leb k 1 (omega arith)))

pub selecting : (k : ℕ) (r : NameRange) → is_selecting (selector_of k r) ≡ leb k 1
selecting zero r = refl
selecting (suc zero) r = refl
selecting (suc (suc zero)) r = refl
selecting (suc (suc (suc zero))) r = refl
selecting (suc (suc (suc (suc zero)))) r = refl
selecting (suc (suc (suc (suc (suc zero))))) r = refl
selecting (suc (suc (suc (suc (suc (suc k)))))) r = high (suc (suc (suc (suc (suc (suc k)))))) r (omega arith)

four : (a b c d : Bool) → every (a ∷ b ∷ c ∷ d ∷ []) ≡ (a && (b && (c && d)))
four a b c d = ap (λ (x : Bool). a && (b && (c && x))) (and-true d)

range : LentGroup → NameRange
range g = record { first = g.first; count = g.count }

pub events_are : (g : LentGroup) → events_ok (group_of g) ≡ events_by (leb g.selector 1) g.events
events_are g =
    four (leb g.events 31) (cond (bit 0 g.events) (bit 1 g.events) (not (bit 1 g.events))) (not (bit 2 g.events) || bit 0 g.events) (not (is_selecting (group_of g).selector) || (not (bit 3 g.events) && not (bit 4 g.events)))
    ∙ ap (λ (b : Bool). events_by b g.events) (selecting g.selector (record { first = g.first; count = g.count }))

pub attributes_are : (g : LentGroup) → attributes_ok (group_of g) ≡ attributes_by (leb g.selector 1) g.events g.attributes
attributes_are g = ap (λ (b : Bool). attributes_by b g.events g.attributes) (selecting g.selector (record { first = g.first; count = g.count }))

pub group_is : (first : ℕ) (g : LentGroup) → group_ok first g ≡ (leb g.selector 6 && (range_ok first g && (events_by (leb g.selector 1) g.events && attributes_by (leb g.selector 1) g.events g.attributes)))
group_is first g =
    ap (λ (b : Bool). leb g.selector 6 && (range_ok first g && (b && attributes_ok (group_of g)))) (events_are g)
    ∙ ap (λ (b : Bool). leb g.selector 6 && (range_ok first g && (events_by (leb g.selector 1) g.events && b))) (attributes_are g)

-- sums
abbrev pub selectings : List LentGroup → ℕ
selectings [] = 0
selectings (g ∷ l) = one (leb g.selector 1) + selectings l

pub selectings_are : (l : List LentGroup) → selectings l ≡ count_by (λ (g : LentGroup). leb g.selector 1) l
selectings_are l = is_count_by selectings (λ (g : LentGroup). leb g.selector 1) refl (λ g l. go (leb g.selector 1) (selectings l)) l
  where
    go : (b : Bool) (k : ℕ) → one b + k ≡ cond b (1 + k) k
    go true k = refl
    go false k = zero-add k

pub counts_are : (l : List LentGroup) → lent_name_count l ≡ sum_by (λ (g : LentGroup). g.count) l
counts_are [] = refl
counts_are (g ∷ l) = ap (λ (k : ℕ). g.count + k) (counts_are l) ∙ sym (sum_by-cons (λ (g : LentGroup). g.count) g l)

-- at most one is a selected one
none_left : (g : LentGroup) (l : List LentGroup) → leb g.selector 1 ≡ true → anyb (λ (y : Group). both_selecting (group_of g) y) (map group_of l) ≡ leb 1 (selectings l)
none_left g [] e = refl
none_left g (h ∷ l) e =
    go (leb h.selector 1) (both_selecting (group_of g) (group_of h))
    (ap (λ (b : Bool). b && is_selecting (group_of h).selector) (selecting g.selector (record { first = g.first; count = g.count }) ∙ e) ∙ selecting h.selector (record { first = h.first; count = h.count }))
    (none_left g l e)
  where
    go : (b p : Bool) → p ≡ b → anyb (λ (y : Group). both_selecting (group_of g) y) (map group_of l) ≡ leb 1 (selectings l) → (p || anyb (λ (y : Group). both_selecting (group_of g) y) (map group_of l)) ≡ leb 1 (one b + selectings l)
    go true p q ih = rw q (sym (le-leb 1 (1 + selectings l) (omega arith)))
    go false p q ih = let z : 0 + selectings l ≡ selectings l = omega arith in rw (q, z) ih

no_pair : (g : LentGroup) (l : List LentGroup) → leb g.selector 1 ≡ false → anyb (λ (y : Group). both_selecting (group_of g) y) (map group_of l) ≡ false
no_pair g [] e = refl
no_pair g (h ∷ l) e = go (both_selecting (group_of g) (group_of h)) (ap (λ (b : Bool). b && is_selecting (group_of h).selector) (selecting g.selector (record { first = g.first; count = g.count }) ∙ e)) (no_pair g l e)
  where
    go : (p : Bool) → p ≡ false → anyb (λ (y : Group). both_selecting (group_of g) y) (map group_of l) ≡ false → (p || anyb (λ (y : Group). both_selecting (group_of g) y) (map group_of l)) ≡ false
    go p q ih = rw q ih

one_more : (k : ℕ) → (not (leb 1 k) && leb k 1) ≡ leb (1 + k) 1
one_more zero = refl
one_more (suc k) = rw (le-leb 1 (suc k) (omega arith), lt-leb (1 + suc k) 1 (omega arith))

pub apart-count : (l : List LentGroup) → apart both_selecting (map group_of l) ≡ leb (selectings l) 1
apart-count [] = refl
apart-count (g ∷ l) = go (leb g.selector 1) refl (apart-count l)
  where
    go : (b : Bool) → leb g.selector 1 ≡ b → apart both_selecting (map group_of l) ≡ leb (selectings l) 1 → (not (anyb (λ (y : Group). both_selecting (group_of g) y) (map group_of l)) && apart both_selecting (map group_of l)) ≡ leb (one b + selectings l) 1
    go true e ih = rw (none_left g l e, ih) (one_more (selectings l))
    go false e ih = let z : 0 + selectings l ≡ selectings l = omega arith in rw (no_pair g l e, ih, z)

-- ---- the session's conditions: those before the names, and all
abbrev pub group_tests : Session → List Bool
group_tests s =
    leb s.notified 1
    ∷ leb s.groupcount 8
    ∷ (eqb s.groupcount 0 || eqb s.notified 1)
    ∷ groups_ok 0 (used_groups s)
    ∷ apart both_selecting (groups_of s)
    ∷ leb (lent_name_count (used_groups s)) 16
    ∷ []

abbrev pub session_tests : Session → List Bool
session_tests s =
    group_tests s
    ++ (
    allb lent_name_ok (take (lent_name_count (used_groups s)) s.names)
    ∷ allb blank_group (drop s.groupcount s.groups)
    ∷ allb blank_name (drop (lent_name_count (used_groups s)) s.names)
    ∷ []
    )

module _ (s : Session) (k : ℕ) (e : k ≡ selectings (used_groups s)) where
  pub many-selected : 1 < k → apart both_selecting (groups_of s) ≡ false
  many-selected h = apart-count (used_groups s) ∙ rw (← e) (lt-leb k 1 h)

  pub few-selected : k ≤ 1 → apart both_selecting (groups_of s) ≡ true
  few-selected h = apart-count (used_groups s) ∙ rw (← e) (le-leb k 1 h)

-- all behind a place of an array
pub rest_is : {A : Type 0} (l : List A) (n m : ℕ) → n + m ≡ length l → take m (drop n l) ≡ drop n l
rest_is l n m e = take-drop n m l ∙ rw (e, take-length l)

-- one that does not hold is enough for a no
pub no_at : (bs : List Bool) (k : ℕ) → get_or bs k true ≡ false → false ≡ every bs
no_at [] k e = tf true refl e
no_at (b ∷ bs) zero e = rw e
no_at (b ∷ bs) (suc k) e = go b (no_at bs k e)
  where
    go : (b : Bool) → false ≡ every bs → false ≡ (b && every bs)
    go true ih = ih
    go false ih = refl

-- the names are tested last, the used ones and the others at once
around : (bs : List Bool) (g h i : Bool) → every bs ≡ true → h ≡ true → (g && i) ≡ every (bs ++ (g ∷ h ∷ i ∷ []))
around [] g h i e f = rw f (ap (λ (b : Bool). g && b) (sym (and-true i)))
around (b ∷ bs) g h i e f = rw (and_l b (every bs) e) (around bs g h i (and_r b (every bs) e) f)

pub names_last : (s : Session) (k : ℕ) → k ≡ lent_name_count (used_groups s) → every (group_tests s) ≡ true → allb blank_group (drop s.groupcount s.groups) ≡ true → (allb lent_name_ok (take k s.names) && allb blank_name (drop k s.names)) ≡ session_ok s
names_last s k e f g = rw e (around (group_tests s) (allb lent_name_ok (take (lent_name_count (used_groups s)) s.names)) (allb blank_group (drop s.groupcount s.groups)) (allb blank_name (drop (lent_name_count (used_groups s)) s.names)) f g)
