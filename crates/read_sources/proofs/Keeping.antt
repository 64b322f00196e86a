-- Sources that are listed one after another, over plain values. Assumes nothing.
use Rattle.std.proofs.Common.{◌≡◌, ℕ, ◌+◌, ◌-◌, ◌<◌, ◌≤◌, length, get_or, Some, None, List, [], ◌∷◌, refl, sym, ap, ◌∙◌, arith, eq-eqb}
use Rattle.model.specs.Requests.{Filter}
use Rattle.model.specs.Reading.{Parsed, bad, ok, and_then, row_at, next_at, closing, list_at}
use Rattle.model.specs.NotifyGrammar.{filter_at}
use Rattle.octets.specs.Rows.{in-text, next_close, next-neither, next-space, row_open}
use Rattle.octets.specs.Joined.{Full, full_list}
use Rattle.read_sources.specs.Listing.{nothing_listed, add_filter, read_listed, read_listed_one, kept_sources, ListsOne, ListsRow}
use Rattle.read_sources.specs.declared.Listed.{Listed}

-- ---- one source that was read
one-found : (t : Listed) (x : Parsed Filter) {r : Listed} {p : ℕ} → Some (r, p) ≡ read_listed_one t x → (f : Filter) × (x ≡ ok p f) × (r ≡ add_filter t f)
one-found t bad e = cc
one-found t (ok q f) {r} {p} e =
    let i : ◌≡◌ {A = Listed × ℕ} (r, p) (add_filter t f, q) = cc in
    (f, ap (λ (x : Listed × ℕ). ok x.1 f) (sym i), ap (λ (x : Listed × ℕ). x.0) i)

one_missing : (t : Listed) (x : Parsed Filter) → None ≡ read_listed_one t x → x ≡ bad
one_missing t bad e = refl
one_missing t (ok q f) e = cc

-- ---- a row
abbrev pub row : ℕ → List ℕ → ℕ → Parsed (List Filter)
row n s p = row_at n (filter_at s) (next_at closing s) p

from_first : (t : Listed) (f : Filter) (x : Parsed (List Filter)) → read_listed t (and_then x (λ q l. ok q (f ∷ l))) ≡ read_listed (add_filter t f) x
from_first t f bad = refl
from_first t f (ok p fs) = refl

-- what is left from p on, behind the sources of `more`, says what the row from `at` on says
pub record Goes (s : List ℕ) (at : ℕ) (t more : Listed) (p : ℕ) : Type 0 where
  pub few : more.count ≤ p
  pub names : more.kept.count ≤ p
  pub from : at ≤ p
  pub goes : (n : ℕ) → length s - at < n → (m : ℕ) × (length s - p < m) × (read_listed t (row n s at) ≡ read_listed more (row m s p))

pub goes_start : (s : List ℕ) (at : ℕ) (t : Listed) → t.count ≤ at → t.kept.count ≤ at → Goes s at t t at
goes_start s at t h k = record { few = h; names = k; from = omega arith; goes = λ n l. (n, l, refl) }

module _ (s : List ℕ) (at : ℕ) (t more : Listed) (p : ℕ) (g : Goes s at t more p) where
  pub goes_none : ListsOne s p more None → ListsRow s at t None
  goes_none w n h =
      let i = g.goes n h in
      let l : 0 < i.0 = omega (arith, i.1) in
      sym (i.2 ∙ rw (row_open (filter_at s) (next_at closing s) p i.0 l, one_missing more (filter_at s p) w.exact))

  module _ {x : Listed} {q : ℕ} (w : ListsOne s p more (Some (x, q))) where
    pub goes-wrong : (get_or s q 0 ≡ 32 → ⊥) → (get_or s q 0 ≡ 41 → ⊥) → ListsRow s at t None
    goes-wrong b c n h =
        let i = g.goes n h in
        let f = one-found more (filter_at s p) w.exact in
        let l : 0 < i.0 = omega (arith, i.1) in
        sym (i.2 ∙ rw (row_open (filter_at s) (next_at closing s) p i.0 l, f.1, next-neither s q b c))

    pub goes_last : get_or s q 0 ≡ 41 → ListsRow s at t (Some (x, q + 1))
    goes_last b n h =
        let i = g.goes n h in
        let f = one-found more (filter_at s p) w.exact in
        let l : 0 < i.0 = omega (arith, i.1) in
        sym (i.2 ∙ rw (row_open (filter_at s) (next_at closing s) p i.0 l, f.1, next_close s q b) (ap (λ (m : Listed). Some (m, q + 1)) (sym f.2)))

    pub goes_on : get_or s q 0 ≡ 32 → Goes s at t x (q + 1)
    goes_on b =
        let v = w.within in
        record {
          few = omega arith;
          names = omega arith;
          from = omega (arith, g.from);
          goes = λ n h.
              let i = g.goes n h in
              let f = one-found more (filter_at s p) w.exact in
              let l : 0 < i.0 = omega (arith, i.1) in
              let j : length s - (q + 1) < i.0 - 1 = omega (arith, i.1, in-text s q b (omega arith)) in (
                i.0 - 1,
                j,
                i.2 ∙ rw (row_open (filter_at s) (next_at closing s) p i.0 l, f.1, next-space s q b)
                    (from_first more f.0 (row (i.0 - 1) s (q + 1)) ∙ ap (λ (m : Listed). read_listed m (row (i.0 - 1) s (q + 1))) (sym f.2)),
              );
        }

-- ---- sources in parentheses: a list that was read is not empty
as_given : (x : Parsed (List Filter)) → Full x → read_listed nothing_listed x ≡ kept_sources x
as_given bad h = refl
as_given (ok p []) h = cc
as_given (ok p (f ∷ fs)) h = refl

module _ (s : List ℕ) (at : ℕ) where
  pub list_row : get_or s at 0 ≡ 40 → read_listed nothing_listed (row (length s) s (at + 1)) ≡ kept_sources (list_at (filter_at s) s at)
  list_row b = rw (← as_given (list_at (filter_at s) s at) (full_list (filter_at s) s at)) (rw (eq-eqb (get_or s at 0) 40 b))
