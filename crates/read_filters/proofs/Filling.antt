-- Names that are kept in several steps. Assumes nothing.
use mathlib.Core.Path.{◌≡◌, sym, ◌∙◌}
use mathlib.Core.List.{List, ◌++◌, map, map-append}
use Prim.Native.Nat.{ℕ}
use native.Mathlib.Omega.{arith}
use lib.ListN.{length-append, length-map}
use Rattle.model.specs.Listing.{lend_name}
use Rattle.model.specs.declared.LentName.{LentName}
use Rattle.octets.specs.Stores.{sets-append}
use Rattle.read_filters.specs.Keeping.{with_all}
use Rattle.read_filters.specs.declared.Kept.{Kept}

counted_so : {c d : ℕ} {l m : List LentName} → c ≡ d → l ≡ m → ◌≡◌ {A = Kept} (record { count = c; names = l }) (record { count = d; names = m })
counted_so e f = cc

-- names behind names
pub with-more : (k : Kept) (ns ms : List (List ℕ)) → with_all (with_all k ns) ms ≡ with_all k (ns ++ ms)
with-more k ns ms =
    counted_so (omega (arith, length-append ns ms))
    (rw map-append (sym (sets-append k.names k.count (map lend_name ns) (map lend_name ms) ∙ rw length-map)))
