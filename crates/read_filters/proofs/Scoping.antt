-- Filters by their words, over plain values. Assumes nothing.
use mathlib.Core.Path.{◌≡◌, refl, sym, ap, ◌∙◌}
use mathlib.Core.Bool.{Bool, true, false, cond}
use mathlib.Core.List.{List, [], ◌∷◌}
use Prim.Native.Nat.{ℕ, ◌+◌, ◌<◌}
use native.Mathlib.Omega.{arith}
use lib.ListN.{length, get_or}
use lib.Dec.{ltb}
use borrow.Author.Tests.{eq-eqb}
use Rattle.std.specs.Prelude.{Option, Some, None}
use Rattle.model.specs.Requests.{Filter, subtree, subtree_one, mailboxes}
use Rattle.model.specs.Reading.{Parsed, bad, ok, is, piece, end_of, run_at, atom_at}
use Rattle.model.specs.NotifyGrammar.{Scope as ScopeWord, alone, subtree_of, one_level_of, mailboxes_of, unscoped, scope_of, names_at, with_names, named_by, filter_by, filter_at}
use Rattle.octets.specs.Found.{next_of}
use Rattle.read_filters.specs.Counted.{read_names}
use Rattle.read_filters.specs.Scopes.{word_for, read_filter, Plain, Bears, Within, WithinBehind}
use Rattle.read_filters.specs.declared.Scope.{Scope}
use Rattle.read_filters.specs.declared.Word.TheVariants.{Named}
use Rattle.read_filters.specs.declared.Filter.{Filter as FilterRead}
use Rattle.read_filters.proofs.Pairs.{read-same}
use Rattle.octets.specs.Rows.{next-found}

-- a word that stands alone is of a filter without names
either_way : (t : Bool) (x y : ScopeWord) → Plain x → Plain y → Plain (cond t x y)
either_way true x y p q = p
either_way false x y p q = q

pub plain : (w : List ℕ) → Plain (scope_of w)
unfolding scope_of
plain w =
    either_way (is w "selected") _ _ refl
    (either_way (is w "selected-delayed") _ _ refl
    (either_way (is w "inboxes") _ _ refl
    (either_way (is w "personal") _ _ refl
    (either_way (is w "subscribed") _ _ refl
    (either_way (is w "subtree") subtree_of _ tt
    (either_way (is w "subtree-one") one_level_of _ tt
    (either_way (is w "mailboxes") mailboxes_of unscoped tt tt)))))))

-- ---- names behind a word

pub counted : {n p : ℕ} (x : Parsed (List (List ℕ))) → Some (n, p) ≡ read_names x → (ns : List (List ℕ)) × (x ≡ ok p ns) × (length ns ≡ n)
counted bad e = cc
counted (ok q ns) e = let f = read-same e in (ns, rw f.1, rw f.0)

-- a filter of this scope with so many names, and the position behind it
abbrev read : Scope → ℕ → ℕ → Option (FilterRead × ℕ)
read scope n p = Some (record { scope = scope; names = n }, p)

filter_at_lem : {a b : Scope} {m n : ℕ} (p : ℕ) → a ≡ b → m ≡ n → read a m p ≡ read b n p
filter_at_lem p e f = rw (e, f)

module _ (s : List ℕ) (at : ℕ) (scope : Scope) (f : List ℕ → List (List ℕ) → Filter) (b : Bears scope f) where
  with_names_lem : {n : ℕ} (p : ℕ) (ns : List (List ℕ)) → length ns ≡ n → 0 < n → read scope n p ≡ read_filter (with_names f p ns)
  with_names_lem p [] e h = absurd (omega arith)
  with_names_lem p (x ∷ ns) e h = filter_at_lem p (sym (b.scoped x ns)) (sym e ∙ sym (ap length (b.named x ns)))

  pub named_is : get_or s at 0 ≡ 32 → {n p : ℕ} → Some (n, p) ≡ read_names (names_at s (at + 1)) → 0 < n → read scope n p ≡ read_filter (named_by f s at)
  named_is e {n} {p} g h =
      let i = counted (names_at s (at + 1)) g in
      rw (eq-eqb (get_or s at 0) 32 e, i.1) (with_names_lem p i.0 i.2 h)

-- ---- by the word

module _ (s : List ℕ) (at : ℕ) where
  pub by-named : {scope : Scope} {r : Option (FilterRead × ℕ)} → ((f : List ℕ → List (List ℕ) → Filter) → Bears scope f → r ≡ read_filter (named_by f s at))
      → (x : ScopeWord) → Some (Named scope) ≡ word_for x → r ≡ read_filter (filter_by x s at)
  by-named h (alone f) e = cc
  by-named h subtree_of e = h subtree (record { scoped = λ n ns. (cc); named = λ n ns. refl })
  by-named h one_level_of e = h subtree_one (record { scoped = λ n ns. (cc); named = λ n ns. refl })
  by-named h mailboxes_of e = h mailboxes (record { scoped = λ n ns. (cc); named = λ n ns. refl })
  by-named h unscoped e = cc

-- ---- a whole filter

-- a run is the octets up to its end
run-piece : (class : ℕ → Bool) (s : List ℕ) (at : ℕ) {p : ℕ} {w : List ℕ} → run_at class s at ≡ ok p w → w ≡ piece s at p
run-piece class s at {p} {w} e = go (ltb at (end_of class s at)) e
  where
    go : (b : Bool) → cond b (ok (end_of class s at) (piece s at (end_of class s at))) bad ≡ ok p w → w ≡ piece s at p
    go true g = let f : end_of class s at ≡ p = cc in let k : piece s at (end_of class s at) ≡ w = cc in sym k ∙ ap (piece s at) f
    go false g = cc

-- the atom that was read
pub atom : (s : List ℕ) (at : ℕ) {p : ℕ} → Some p ≡ next_of (atom_at s at) → atom_at s at ≡ ok p (piece s at p)
atom s at {p} e = let i = next-found (atom_at s at) e in i.1 ∙ ap (ok p) (run-piece _ s at i.1)

module _ (s : List ℕ) (at : ℕ) where
  pub filter_some : {p : ℕ} {r : Option (FilterRead × ℕ)} → Some p ≡ next_of (atom_at s at) → r ≡ read_filter (filter_by (scope_of (piece s at p)) s p) → r ≡ read_filter (filter_at s at)
  unfolding filter_at
  filter_some {p} e h = rw (atom s at e) h

-- ---- bounds

pub within-behind : (s : List ℕ) (at p : ℕ) (r : Option (FilterRead × ℕ)) → at < p → WithinBehind s p r → Within s at r
within-behind s at p (Some (f, q)) h w = omega arith
within-behind s at p None h w = tt
