-- A row of names that is kept one after another, over plain values. Assumes nothing.
use mathlib.Core.Path.{◌≡◌, refl, sym, ap, ◌∙◌}
use mathlib.Core.List.{List, ◌∷◌}
use Prim.Native.Nat.{ℕ, ◌+◌, ◌-◌, ◌≤◌, ◌<◌}
use native.Mathlib.Numerals.{add-one}
use native.Mathlib.Omega.{arith}
use lib.ListN.{length, get_or}
use borrow.Author.Tests.{eq-eqb, ne_eqb}
use Rattle.std.specs.Prelude.{Option, Some, None}
use Rattle.model.specs.Reading.{Parsed, bad, ok, and_then, astring_at, row_at, next_at, closing}
use Rattle.model.specs.NotifyGrammar.{names_at}
use Rattle.model.specs.Listing.{lend_name}
use Rattle.model.specs.declared.LentName.{LentName}
use Rattle.octets.specs.Found.{next_of}
use Rattle.octets.specs.Values.{value_of}
use Rattle.read_filters.specs.Keeping.{with_all, with_one, kept_names, Fits, FitsBehind}
use Rattle.read_filters.specs.declared.Kept.{Kept}
use Rattle.octets.specs.Rows.{in-text, next_close, next-found, next-lost, next-neither, next-space, row_open}

-- the row from p on
abbrev pub row : ℕ → List ℕ → ℕ → Parsed (List (List ℕ))
row n s p = row_at n (astring_at s) (next_at closing s) p

-- names are kept behind those of `more`
abbrev pub kept_from : Kept → Parsed (List (List ℕ)) → Option (Kept × ℕ)
kept_from more bad = None
kept_from more (ok p ns) = Some (with_all more ns, p)

same_start : (k : Kept) (x : Parsed (List (List ℕ))) → kept_names k x ≡ kept_from k x
same_start k bad = refl
same_start k (ok p ns) = refl

-- the first of several names is kept
counted_so : {c d : ℕ} (l : List LentName) → c ≡ d → ◌≡◌ {A = Kept} (record { count = c; names = l }) (record { count = d; names = l })
counted_so l e = rw e

with_first : (more : Kept) (a : List ℕ) (ns : List (List ℕ)) → with_all more (a ∷ ns) ≡ with_all (with_one more (lend_name a)) ns
with_first more a ns = rw (add-one more.count) (counted_so _ (omega arith))

from_first : (more : Kept) (a : List ℕ) (x : Parsed (List (List ℕ))) → kept_from more (and_then x (λ q l. ok q (a ∷ l))) ≡ kept_from (with_one more (lend_name a)) x
from_first more a bad = refl
from_first more a (ok p ns) = ap (λ (m : Kept). Some (m, p)) (with_first more a ns)

-- what is left from p on, behind the names of `more`, says what the row from `at` on says
pub record Goes (s : List ℕ) (at : ℕ) (k more : Kept) (p : ℕ) : Type 0 where
  pub few : more.count ≤ p
  pub from : at ≤ p
  pub goes : (n : ℕ) → length s - at < n → (m : ℕ) × (length s - p < m) × (kept_names k (row n s at) ≡ kept_from more (row m s p))

pub goes_start : (s : List ℕ) (at : ℕ) (k : Kept) → k.count ≤ at → Goes s at k k at
goes_start s at k h = record { few = h; from = omega arith; goes = λ n l. (n, l, same_start k (row n s at)) }

module _ (s : List ℕ) (at : ℕ) (k more : Kept) (p : ℕ) (g : Goes s at k more p) where
  pub goes_none : None ≡ next_of (astring_at s p) → (n : ℕ) → length s - at < n → None ≡ kept_names k (row n s at)
  goes_none e n h =
      let i = g.goes n h in
      let l : 0 < i.0 = omega (arith, i.1) in
      sym (i.2 ∙ rw (row_open (astring_at s) (next_at closing s) p i.0 l, next-lost (astring_at s p) e))

  module _ {q : ℕ} (e : Some q ≡ next_of (astring_at s p)) where
    one_name : {a : List ℕ} → astring_at s p ≡ ok q a → value_of (astring_at s p) ≡ a
    one_name f = ap value_of f

    pub goes-wrong : (get_or s q 0 ≡ 32 → ⊥) → (get_or s q 0 ≡ 41 → ⊥) → (n : ℕ) → length s - at < n → None ≡ kept_names k (row n s at)
    goes-wrong b c n h =
        let i = g.goes n h in
        let f = next-found (astring_at s p) e in
        let l : 0 < i.0 = omega (arith, i.1) in
        sym (i.2 ∙ rw (row_open (astring_at s) (next_at closing s) p i.0 l, f.1, next-neither s q b c))

    module _ (x : Kept) (w : x ≡ with_one more (lend_name (value_of (astring_at s p)))) where
      pub goes_last : get_or s q 0 ≡ 41 → (n : ℕ) → length s - at < n → Some (x, q + 1) ≡ kept_names k (row n s at)
      goes_last b n h =
          let i = g.goes n h in
          let f = next-found (astring_at s p) e in
          let l : 0 < i.0 = omega (arith, i.1) in
          let v : x ≡ with_one more (lend_name f.0) = w ∙ ap (λ (a : List ℕ). with_one more (lend_name a)) (one_name f.1) in
          sym (i.2 ∙ rw (row_open (astring_at s) (next_at closing s) p i.0 l, f.1, next_close s q b) (ap (λ (m : Kept). Some (m, q + 1)) (sym v)))

      pub goes_on : p < q → get_or s q 0 ≡ 32 → Goes s at k x (q + 1)
      goes_on pq b = record {
        few = omega (arith, ap (λ (m : Kept). m.count) w, g.few);
        from = omega (arith, g.from);
        goes = λ n h.
            let i = g.goes n h in
            let f = next-found (astring_at s p) e in
            let l : 0 < i.0 = omega (arith, i.1) in
            let v : x ≡ with_one more (lend_name f.0) = w ∙ ap (λ (a : List ℕ). with_one more (lend_name a)) (one_name f.1) in
            let j : length s - (q + 1) < i.0 - 1 = omega (arith, i.1, in-text s q b (omega arith)) in
            (i.0 - 1, j, i.2 ∙ rw (row_open (astring_at s) (next_at closing s) p i.0 l, f.1, next-space s q b) (from_first more f.0 (row (i.0 - 1) s (q + 1)) ∙ ap (λ (m : Kept). kept_from m (row (i.0 - 1) s (q + 1))) (sym v)));
      }

-- ---- one name, or several in parentheses

module _ (s : List ℕ) (at : ℕ) (k : Kept) where
  pub kept_row : get_or s at 0 ≡ 40 → kept_names k (row (length s) s (at + 1)) ≡ kept_names k (names_at s at)
  kept_row b = rw (eq-eqb (get_or s at 0) 40 b)

  pub kept_one : (get_or s at 0 ≡ 40 → ⊥) → {p : ℕ} → Some p ≡ next_of (astring_at s at) → (x : Kept) → x ≡ with_one k (lend_name (value_of (astring_at s at)))
      → Some (x, p) ≡ kept_names k (names_at s at)
  kept_one b {p} e x w =
      let f = next-found (astring_at s at) e in
      let v : x ≡ with_one k (lend_name f.0) = w ∙ ap (λ (a : List ℕ). with_one k (lend_name a)) (ap value_of f.1) in
      rw (ne_eqb (get_or s at 0) 40 b, f.1) (ap (λ (m : Kept). Some (m, p)) v)

-- ---- bounds

pub fits-from : (s : List ℕ) (at : ℕ) (r : Option (Kept × ℕ)) → Fits s (at + 1) r → Fits s at r
fits-from s at (Some (k, p)) w = (omega (arith, w.0), w.1, w.2)
fits-from s at None w = tt

pub fits-named : (s : List ℕ) (at : ℕ) (r : Option (Kept × ℕ)) → Fits s (at + 1) r → FitsBehind s at r
fits-named s at (Some (k, p)) w = (omega (arith, w.0), w.1, w.2)
fits-named s at None w = tt

pub fits-behind : (s : List ℕ) (at p : ℕ) (r : Option (Kept × ℕ)) → at < p → FitsBehind s p r → Fits s at r
fits-behind s at p (Some (k, q)) h w = (omega (arith, w.0), w.1, w.2)
fits-behind s at p None h w = tt
