-- The names of a filter, kept by its word, over plain values. Assumes nothing.
use mathlib.Core.Path.{◌≡◌, refl}
use mathlib.Core.Bool.{Bool, true, false, cond}
use mathlib.Core.List.{List, [], ◌∷◌}
use Prim.Native.Nat.{ℕ, zero, suc, ◌+◌, ◌<◌}
use native.Mathlib.Omega.{arith}
use lib.ListN.{length, get_or}
use borrow.Author.Tests.{eq-eqb}
use Rattle.std.specs.Prelude.{Option, Some}
use Rattle.model.specs.Requests.{Filter, subtree, subtree_one, mailboxes}
use Rattle.model.specs.Reading.{Parsed, bad, ok, and_then, after_by, stands, piece, astring_at, atom_at, Next, another, over, neither, row_by, row_at, closing, next_at, list_at}
use Rattle.model.specs.NotifyGrammar.{Scope as ScopeWord, alone, subtree_of, one_level_of, mailboxes_of, unscoped, scope_of, names_at, with_names, named_by, filter_by, filter_at}
use Rattle.octets.specs.Found.{next_of}
use Rattle.read_filters.specs.Scopes.{word_for, Bears}
use Rattle.read_filters.specs.Keeping.{kept_names, kept_filter}
use Rattle.read_filters.specs.declared.Scope.{Scope}
use Rattle.read_filters.specs.declared.Scope.TheVariants.{Subtree, SubtreeOne, Mailboxes}
use Rattle.read_filters.specs.declared.Word.TheVariants.{Named}
use Rattle.read_filters.specs.declared.Kept.{Kept}
use Rattle.read_filters.proofs.Scoping.{atom}

-- ---- a row has one thing at least

module _ {A : Type 0} where
  abbrev pub NotEmpty : Parsed (List A) → Type 0
  NotEmpty bad = Unit {0}
  NotEmpty (ok p l) = 0 < length l

  some_by : (x : Next) (row : ℕ → Parsed (List A)) (a : A) → NotEmpty (row_by x row a)
  some_by (another p) row a = go (row p)
    where
      go : (y : Parsed (List A)) → NotEmpty (and_then y (λ q l. ok q (a ∷ l)))
      go bad = tt
      go (ok q l) = omega arith
  some_by (over p) row a = omega arith
  some_by neither row a = tt

  some_row : (n : ℕ) (item : ℕ → Parsed A) (next : ℕ → Next) (p : ℕ) → NotEmpty (row_at n item next p)
  unfolding row_at
  some_row zero item next p = tt
  some_row (suc n) item next p = go (item p)
    where
      go : (y : Parsed A) → NotEmpty (and_then y (λ q a. row_by (next q) (λ r. row_at n item next r) a))
      go bad = tt
      go (ok q a) = some_by (next q) (λ r. row_at n item next r) a

  some_after : (b : Bool) (p : ℕ) (f : ℕ → Parsed (List A)) → ((q : ℕ) → NotEmpty (f q)) → NotEmpty (after_by b p f)
  some_after true p f h = h p
  some_after false p f h = tt

some_names : (s : List ℕ) (at : ℕ) → NotEmpty (names_at s at)
some_names s at = go (stands s at "(")
  where
    one : (y : Parsed (List ℕ)) → NotEmpty (and_then y (λ q name. ok q (name ∷ [])))
    one bad = tt
    one (ok q name) = omega arith

    go : (b : Bool) → NotEmpty (cond b (list_at (astring_at s) s at) (and_then (astring_at s at) (λ q name. ok q (name ∷ []))))
    go true = some_after (stands s at "(") (at + 1) (λ q. row_at (length s) (astring_at s) (next_at closing s) q) (λ q. some_row (length s) (astring_at s) (next_at closing s) q)
    go false = one (astring_at s at)

-- ---- names behind a word

module _ (s : List ℕ) (at : ℕ) (k : Kept) where
  module _ (scope : Scope) (f : List ℕ → List (List ℕ) → Filter) (b : Bears scope f) where
    with_names_lem : (x : Parsed (List (List ℕ))) → NotEmpty x → kept_names k x ≡ kept_filter k (and_then x (λ r ns. with_names f r ns))
    with_names_lem bad h = refl
    with_names_lem (ok p []) h = absurd (omega arith)
    with_names_lem (ok p (n ∷ ns)) h = rw (b.named n ns)

    pub keeps-named : get_or s at 0 ≡ 32 → kept_names k (names_at s (at + 1)) ≡ kept_filter k (named_by f s at)
    keeps-named e = rw (eq-eqb (get_or s at 0) 32 e) (with_names_lem (names_at s (at + 1)) (some_names s (at + 1)))

  -- ---- by the word

  pub keeps_by : {scope : Scope} {r : Option (Kept × ℕ)} → ((o : Scope) (f : List ℕ → List (List ℕ) → Filter) → Bears o f → r ≡ kept_filter k (named_by f s at))
      → (x : ScopeWord) → Some (Named scope) ≡ word_for x → r ≡ kept_filter k (filter_by x s at)
  keeps_by h (alone f) e = cc
  keeps_by h subtree_of e = h Subtree subtree (record { scoped = λ n ns. refl; named = λ n ns. refl })
  keeps_by h one_level_of e = h SubtreeOne subtree_one (record { scoped = λ n ns. refl; named = λ n ns. refl })
  keeps_by h mailboxes_of e = h Mailboxes mailboxes (record { scoped = λ n ns. refl; named = λ n ns. refl })
  keeps_by h unscoped e = cc

  -- ---- a whole filter

  pub keeps_some : {p : ℕ} {r : Option (Kept × ℕ)} → Some p ≡ next_of (atom_at s at) → r ≡ kept_filter k (filter_by (scope_of (piece s at p)) s p) → r ≡ kept_filter k (filter_at s at)
  unfolding filter_at
  keeps_some e h = rw (atom s at e) h
