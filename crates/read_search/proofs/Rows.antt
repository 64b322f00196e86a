-- Rows of sources and what is counted of them, one step of the definition at a time, over plain values. Assumes nothing.
use Rattle.std.proofs.Common.{◌≡◌, ℕ, ◌+◌, ◌-◌, ◌<◌, length, get_or, Option, Some, None, List, [], ◌∷◌, refl, sym, ap, ◌∙◌, arith, add-one}
use Rattle.model.specs.Requests.{Filter, selected, delayed, inboxes, personal, subscribed, subtree, subtree_one, mailboxes, names_of}
use Rattle.model.specs.Reading.{Parsed, bad, ok, and_then, row_at, closing, next_at}
use Rattle.model.specs.NotifyGrammar.{filter_at}
use Rattle.octets.specs.Rows.{in-text, next_close, next-neither, next-space, row_none as no_row, row_open}
use Rattle.read_filters.specs.Scopes.{scope_for, read_filter, Bounded as FilterBounded}
use Rattle.read_filters.specs.declared.Filter.{Filter as FilterRead}
use Rattle.read_search.specs.Sourced.{sources_of, read_sources, ahead, ReadsRow}
use Rattle.read_search.specs.declared.Sources.{Sources}

-- ---- a filter that was read, from the code's answer
abbrev pub filter_of : Filter → FilterRead
filter_of f = record { scope = scope_for f; names = length (names_of f) }

pub found : (x : Parsed Filter) {g : FilterRead} {p : ℕ} → Some (g, p) ≡ read_filter x → (f : Filter) × (x ≡ ok p f) × (filter_of f ≡ g)
found bad e = cc
found (ok q f) {g} {p} e =
    let i : ◌≡◌ {A = FilterRead × ℕ} (g, p) (filter_of f, q) = cc in
    (f, ap (λ (x : FilterRead × ℕ). ok x.1 f) (sym i), ap (λ (x : FilterRead × ℕ). x.0) (sym i))

pub missing : (x : Parsed Filter) → None ≡ read_filter x → x ≡ bad
missing bad e = refl
missing (ok q f) e = cc

-- ---- a source in front of others is counted
ahead_of : (f : Filter) (fs : List Filter) → ahead (filter_of f) (sources_of fs) ≡ sources_of (f ∷ fs)
ahead_of selected fs = rw (add-one (length fs))
ahead_of delayed fs = rw (add-one (length fs))
ahead_of inboxes fs = rw (add-one (length fs))
ahead_of personal fs = rw (add-one (length fs))
ahead_of subscribed fs = rw (add-one (length fs))
ahead_of (subtree n ns) fs = rw (add-one (length fs))
ahead_of (subtree_one n ns) fs = rw (add-one (length fs))
ahead_of (mailboxes n ns) fs = rw (add-one (length fs))

-- what the code answers where others follow
abbrev put_ahead : FilterRead → Option (Sources × ℕ) → Option (Sources × ℕ)
put_ahead g (Some (more, p)) = Some (ahead g more, p)
put_ahead g None = None

put_read : (f : Filter) (x : Parsed (List Filter)) → put_ahead (filter_of f) (read_sources x) ≡ read_sources (and_then x (λ q l. ok q (f ∷ l)))
put_read f bad = refl
put_read f (ok p fs) = ap (λ (r : Sources). Some (r, p)) (ahead_of f fs)

-- ---- one step of a row
module _ (s : List ℕ) (at : ℕ) where
  pub row_none : None ≡ read_filter (filter_at s at) → ReadsRow s at None
  row_none e = record { exact = λ n h. rw (no_row (filter_at s) (next_at closing s) at n (missing (filter_at s at) e)); within = tt }

  module _ {g : FilterRead} {p : ℕ} (e : Some (g, p) ≡ read_filter (filter_at s at)) (w : FilterBounded s at g.names p) where
    pub row_last : get_or s p 0 ≡ 41 → ReadsRow s at (Some (ahead g (sources_of []), p + 1))
    row_last b =
        let i = found (filter_at s at) e in
        let l = in-text s p b (omega arith) in
        record {
          exact =
              λ n h.
              rw (row_open (filter_at s) (next_at closing s) at n (omega arith), i.1, next_close s p b)
              (ap (λ (g : FilterRead). Some (ahead g (sources_of []), p + 1)) (sym i.2) ∙ ap (λ (r : Sources). Some (r, p + 1)) (ahead_of i.0 []));
          within = record { some = omega arith; few = omega arith; inside = omega arith };
        }

    pub row-wrong : (get_or s p 0 ≡ 32 → ⊥) → (get_or s p 0 ≡ 41 → ⊥) → ReadsRow s at None
    row-wrong b c =
        let i = found (filter_at s at) e in
        record { exact = λ n h. rw (row_open (filter_at s) (next_at closing s) at n (omega arith), i.1, next-neither s p b c); within = tt }

    module _ (b : get_or s p 0 ≡ 32) where
      more : {r : Option (Sources × ℕ)} → ReadsRow s (p + 1) r → (n : ℕ) → length s - at < n → put_ahead g r ≡ read_sources (row_at n (filter_at s) (next_at closing s) at)
      more {r} x n h =
          let i = found (filter_at s at) e in
          let l = in-text s p b (omega arith) in
          rw (row_open (filter_at s) (next_at closing s) at n (omega arith), i.1, next-space s p b)
          (ap (put_ahead g) (x.exact (n - 1) (omega arith))
          ∙ ap (λ (g : FilterRead). put_ahead g (read_sources (row_at (n - 1) (filter_at s) (next_at closing s) (p + 1)))) (sym i.2)
          ∙ put_read i.0 (row_at (n - 1) (filter_at s) (next_at closing s) (p + 1)))

      pub row-ends : ReadsRow s (p + 1) None → ReadsRow s at None
      row-ends x = record { exact = λ n h. more x n h; within = tt }

      pub row-goes : {r : Sources} {q : ℕ} → ReadsRow s (p + 1) (Some (r, q)) → ReadsRow s at (Some (ahead g r, q))
      row-goes x = let v = x.within in record { exact = λ n h. more x n h; within = record { some = omega arith; few = omega arith; inside = omega arith } }
