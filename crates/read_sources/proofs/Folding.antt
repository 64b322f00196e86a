-- Sources that are listed one after another are listed as a whole. Assumes nothing.
use mathlib.Core.Path.{◌≡◌, refl, sym, ◌∙◌}
use mathlib.Core.List.{List, [], ◌∷◌}
use Prim.Native.Nat.{ℕ}
use native.Mathlib.Numerals.{add-one}
use native.Mathlib.Omega.{arith}
use Rattle.model.specs.Requests.{Filter, names_of}
use Rattle.read_filters.specs.declared.Kept.{Kept}
use Rattle.read_filters.proofs.Filling.{with-more}
use Rattle.read_sources.specs.Listing.{add_filter, add_all, all_names, whole_list}
use Rattle.read_sources.specs.declared.Source.{Source}
use Rattle.read_sources.specs.declared.Listed.{Listed}

listed_so : {c d : ℕ} {l m : List Source} {k j : Kept} → c ≡ d → l ≡ m → k ≡ j
    → ◌≡◌ {A = Listed} (record { count = c; sources = l; kept = k }) (record { count = d; sources = m; kept = j })
listed_so e f g = cc

kept_so : (k : Kept) {c : ℕ} → k.count ≡ c → ◌≡◌ {A = Kept} k (record { count = c; names = k.names })
kept_so k e = rw (sym e)

pub listed_all : (t : Listed) (fs : List Filter) → add_all t fs ≡ whole_list t fs
listed_all t [] = listed_so (omega arith) refl (kept_so t.kept (omega arith))
listed_all t (f ∷ fs) = listed_all (add_filter t f) fs ∙ listed_so (omega arith) (rw (add-one t.count)) (with-more t.kept (names_of f) (all_names fs))
