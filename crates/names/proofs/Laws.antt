-- The library's tests on texts are those of the rules, and the way to the next octet of a name. Assumes nothing.
use Rattle.std.specs.Prelude.{◌≡◌, refl, Bool, true, false, cond, ◌&&◌, List, [], ◌∷◌, map, ℕ, suc, ◌+◌, ◌≤◌, eqb, ltb, length, take, drop}
use Rattle.std.proofs.Common.{eqb-true, ap, sym, ◌∙◌, arith, eq-eqb}
use Rattle.std.proofs.Common.{Option, Some, Ordering, Less, Equal, Greater}
use Rattle.std.specs.Ordering.{nat_cmp, is_le, is_some_and, partial_ordering_then}
use Rattle.std.specs.Cmp.Lexicographic.{slice_partial_cmp}
use Rattle.std.specs.Char.{to_ascii_lowercase}
use Rattle.std.specs.List.{starts_with}
use Rattle.std.specs.Bool.{IsTrue}
use lib.Pointwise.{pointwise}
use Rattle.std.specs.List.{list_all, sum_by}
use Rattle.std.proofs.lemmas.List.Folds.{sum_by-zero}
use Rattle.std.proofs.lemmas.Bool.Decides.{nat_tests}
use Rattle.model.specs.Laws.{and_l, and_r}
use Rattle.model.specs.Lawful.{zeros}
use Rattle.std.specs.Str.{bytes_eq}
use Rattle.std.proofs.lemmas.Slice.Eq.{bytes_eq-Decides}
use Rattle.model.specs.Iterating.{same_is_eq}
use Rattle.model.specs.Text.{upper, same_word}
use Rattle.model.specs.Names.{leads, beneath, before}

-- ---- octet order
-- the library's `<=` on octets
abbrev pub octets_le : List ℕ → List ℕ → Bool
octets_le a b = is_some_and is_le (slice_partial_cmp (λ x y. Some (nat_cmp x y)) a b)

pub before_is : (a b : List ℕ) → octets_le a b ≡ before a b
unfolding before
before_is [] [] = refl
before_is [] (y ∷ b) = refl
before_is (x ∷ a) [] = refl
before_is (x ∷ a) (y ∷ b) = go (ltb x y) (eqb x y) (slice_partial_cmp (λ x y. Some (nat_cmp x y)) a b) (before a b) (before_is a b)
  where
    go : (t u : Bool) (o : Option Ordering) (r : Bool) → is_some_and is_le o ≡ r
        → is_some_and is_le (partial_ordering_then (Some (cond t Less (cond u Equal Greater))) o) ≡ cond t true (cond u r false)
    go true u o r e = refl
    go false true o r e = e
    go false false o r e = refl

-- ---- the name behind top and a slash
pub leads_behind : (top n r : List ℕ) → pointwise eqb (take (length top) n) top ≡ true → r ≡ drop (length top) n → starts_with eqb r (47 ∷ []) ≡ leads top n
unfolding leads
leads_behind top n r e d = rw d (go top n e)
  where
    slash : (b : ℕ) → (eqb 47 b && true) ≡ eqb b 47
    slash b = grind arith

    go : (top n : List ℕ) → pointwise eqb (take (length top) n) top ≡ true → starts_with eqb (drop (length top) n) (47 ∷ []) ≡ leads top n
    go [] [] e = refl
    go [] (b ∷ n) e = slash b
    go (a ∷ top) [] e = absurd (let z : ◌≡◌ {A = ℕ} 0 1 = cc in omega arith)
    go (a ∷ top) (b ∷ n) e = rw (eq-eqb a b (sym (eqb-true b a (and_l (eqb b a) _ e)))) (go top n (and_r (eqb b a) _ e))

pub leads_apart : (top n : List ℕ) → pointwise eqb (take (length top) n) top ≡ false → false ≡ leads top n
unfolding leads
leads_apart [] n e = absurd (let z : ◌≡◌ {A = ℕ} 0 1 = cc in omega arith)
leads_apart (a ∷ top) [] e = refl
leads_apart (a ∷ top) (b ∷ n) e = go (eqb a b) refl (leads_apart top n)
  where
    go : (t : Bool) → eqb a b ≡ t → (pointwise eqb (take (length top) n) top ≡ false → false ≡ leads top n) → false ≡ cond t (leads top n) false
    go false h ih = refl
    go true h ih = ih (rw (eq-eqb b a (sym (eqb-true a b h))) at e)

leads_longer : (top n : List ℕ) → true ≡ leads top n → length top + 1 ≤ length n
unfolding leads
leads_longer [] [] e = absurd (let z : ◌≡◌ {A = ℕ} 0 1 = cc in omega arith)
leads_longer [] (b ∷ n) e = omega arith
leads_longer (a ∷ top) [] e = absurd (let z : ◌≡◌ {A = ℕ} 0 1 = cc in omega arith)
leads_longer (a ∷ top) (b ∷ n) e = go (eqb a b) e (leads_longer top n)
  where
    go : (t : Bool) → true ≡ cond t (leads top n) false → (true ≡ leads top n → length top + 1 ≤ length n) → suc (length top) + 1 ≤ suc (length n)
    go true e ih = let h = ih e in omega arith
    go false e ih = absurd (let z : ◌≡◌ {A = ℕ} 0 1 = cc in omega arith)

pub beneath_longer : (top n : List ℕ) → true ≡ beneath top n → length top + 1 ≤ length n
beneath_longer [] n e = absurd (let z : ◌≡◌ {A = ℕ} 0 1 = cc in omega arith)
beneath_longer (a ∷ top) n e = leads_longer (a ∷ top) n e

-- ---- letters in any case
lower-upper : (b : ℕ) → to_ascii_lowercase (upper b) ≡ to_ascii_lowercase b
lower-upper b = grind (arith, nat_tests)

upper-lower : (b : ℕ) → upper (to_ascii_lowercase b) ≡ upper b
upper-lower b = grind (arith, nat_tests)

through : (f g : ℕ → ℕ) → ((x : ℕ) → g (f x) ≡ g x) → (a : List ℕ) → map g (map f a) ≡ map g a
through f g h [] = refl
through f g h (x ∷ a) = rw (h x, through f g h a)

maps_as : (f g : ℕ → ℕ) → ((x : ℕ) → g (f x) ≡ g x) → (a b : List ℕ) → map f a ≡ map f b → map g a ≡ map g b
maps_as f g h a b e = sym (through f g h a) ∙ ap (map g) e ∙ through f g h b

either_way : (r s : Bool) → (IsTrue r → IsTrue s) → (IsTrue s → IsTrue r) → r ≡ s
either_way true true f g = refl
either_way false false f g = refl
either_way true false f g = absurd (let z : ◌≡◌ {A = Bool} false true = f refl in let y : ◌≡◌ {A = ℕ} 0 1 = cc in omega arith)
either_way false true f g = absurd (let z : ◌≡◌ {A = Bool} false true = g refl in let y : ◌≡◌ {A = ℕ} 0 1 = cc in omega arith)

pub words_are : (a b : List ℕ) (r : Bool)
    → (IsTrue r → map to_ascii_lowercase a ≡ map to_ascii_lowercase b) × (map to_ascii_lowercase a ≡ map to_ascii_lowercase b → IsTrue r)
    → r ≡ same_word a b
words_are a b r d =
    let e = bytes_eq-Decides (map upper a) (map upper b) in
    either_way r (bytes_eq (map upper a) (map upper b)) (λ t. e.1 (maps_as to_ascii_lowercase upper upper-lower a b (d.0 t))) (λ t. d.1 (maps_as upper to_ascii_lowercase lower-upper a b (e.0 t)))
    ∙ same_is_eq (map upper a) (map upper b)

-- ---- zeros by their sum
pub zeros_sum : (l : List ℕ) → eqb (sum_by (λ x. x) l) 0 ≡ zeros l
zeros_sum l = sum_by-zero (λ x. x) l ∙ go l
  where
    swap : (x : ℕ) → eqb x 0 ≡ eqb 0 x
    swap x = grind arith

    go : (l : List ℕ) → list_all (λ x. eqb x 0) l ≡ zeros l
    go [] = refl
    go (x ∷ l) = rw (swap x, go l)
