-- Rows of names and what is counted of them, over plain values. Assumes nothing.
use mathlib.Core.Path.{◌≡◌, refl, ap, ◌∙◌}
use mathlib.Core.List.{List, ◌∷◌}
use Prim.Native.Nat.{ℕ, ◌+◌, ◌-◌, ◌<◌}
use native.Mathlib.Numerals.{add-one}
use native.Mathlib.Omega.{arith}
use lib.ListN.{length, get_or}
use borrow.Author.Tests.{eq-eqb}
use Rattle.std.specs.Prelude.{Option, Some, None}
use Rattle.std.specs.Option.{option_map}
use Rattle.model.specs.Reading.{Parsed, bad, ok, and_then, astring_at, row_at, closing, next_at}
use Rattle.model.specs.NotifyGrammar.{names_at}
use Rattle.octets.specs.Found.{next_of}
use Rattle.read_filters.specs.Counted.{read_names, Within}
use Rattle.octets.specs.Rows.{next_close, next-found, next-lost, next-neither, next-space, row_open}

-- ---- the names of a row are counted

-- one name in front of others
abbrev pub one_more : ℕ × ℕ → ℕ × ℕ
one_more (n, p) = (n + 1, p)

read_more : (a : List ℕ) (x : Parsed (List (List ℕ))) → option_map one_more (read_names x) ≡ read_names (and_then x (λ q l. ok q (a ∷ l)))
read_more a bad = refl
read_more a (ok p l) = rw (add-one (length l))

module _ (s : List ℕ) (at n : ℕ) (h : 0 < n) where
  pub row_none : None ≡ next_of (astring_at s at) → None ≡ read_names (row_at n (astring_at s) (next_at closing s) at)
  row_none e = rw (row_open (astring_at s) (next_at closing s) at n h, next-lost (astring_at s at) e)

  module _ {p : ℕ} (e : Some p ≡ next_of (astring_at s at)) where
    pub row_more : get_or s p 0 ≡ 32 → {r : Option (ℕ × ℕ)} → r ≡ read_names (row_at (n - 1) (astring_at s) (next_at closing s) (p + 1))
        → option_map one_more r ≡ read_names (row_at n (astring_at s) (next_at closing s) at)
    row_more b f =
        let i = next-found (astring_at s at) e in
        rw (row_open (astring_at s) (next_at closing s) at n h, i.1, next-space s p b) (ap (option_map one_more) f ∙ read_more i.0 (row_at (n - 1) (astring_at s) (next_at closing s) (p + 1)))

    pub row_last : get_or s p 0 ≡ 41 → Some (1, p + 1) ≡ read_names (row_at n (astring_at s) (next_at closing s) at)
    row_last b = let i = next-found (astring_at s at) e in rw (row_open (astring_at s) (next_at closing s) at n h, i.1, next_close s p b)

    pub row-wrong : (get_or s p 0 ≡ 32 → ⊥) → (get_or s p 0 ≡ 41 → ⊥) → None ≡ read_names (row_at n (astring_at s) (next_at closing s) at)
    row-wrong b c = let i = next-found (astring_at s at) e in rw (row_open (astring_at s) (next_at closing s) at n h, i.1, next-neither s p b c)

-- ---- bounds

pub within-from : (s : List ℕ) (at : ℕ) (r : Option (ℕ × ℕ)) → Within s (at + 1) r → Within s at r
within-from s at (Some (n, q)) w = omega arith
within-from s at None w = tt

-- ---- one name, or several in parentheses

module _ (s : List ℕ) (at : ℕ) where
  pub names_row : get_or s at 0 ≡ 40 → read_names (row_at (length s) (astring_at s) (next_at closing s) (at + 1)) ≡ read_names (names_at s at)
  names_row b = rw (eq-eqb (get_or s at 0) 40 b)
