-- Groups and names that are kept in several steps, and the session that holds them, over plain values. Assumes nothing.
use mathlib.Core.Path.{◌≡◌, refl, ap, sym, ◌∙◌}
use mathlib.Core.List.{List, [], ◌∷◌, map}
use Prim.Native.Nat.{ℕ, suc, ◌+◌, ◌≤◌, ◌<◌}
use native.Mathlib.Numerals.{add-one}
use native.Mathlib.Omega.{arith}
use lib.ListN.{length, length-append, length-map}
use borrow.Author.Tests.{lt-ltb}
use Rattle.model.specs.Requests.{names_of, Asked}
use Rattle.model.specs.Limits.{name_count}
use Rattle.model.specs.Memory.{no_group, no_name}
use Rattle.model.specs.Listing.{lend_group, lend_groups, lend_name, all_names, watching}
use Rattle.model.specs.declared.LentGroup.{LentGroup}
use Rattle.model.specs.declared.LentName.{LentName}
use Rattle.model.specs.declared.Session.{Session}
use Rattle.octets.specs.Stores.{fill}
use Rattle.read_filters.proofs.Filling.{with-more}
use Rattle.read_filters.specs.Keeping.{nothing_kept, with_all}
use Rattle.read_filters.specs.declared.Kept.{Kept}
use Rattle.read_notify.specs.Tallies.{filters_of}
use Rattle.read_notify.specs.Watched.{low_of, lent_of, nothing_watched, with_group, with_groups, settle}
use Rattle.read_notify.specs.declared.Watch.{Watch}

-- numbers that are octets
low_so : (x : ℕ) → x < 256 → low_of x ≡ x
low_so x h = rw (lt-ltb x 256 h)

pub lent_so : (first : ℕ) (g : Asked) → first < 256 → length (names_of g.filter) < 256 → lent_of first g ≡ lend_group first g
lent_so first g h l = rw (lt-ltb first 256 h, lt-ltb (length (names_of g.filter)) 256 l)

watch_so : {c d : ℕ} {l m : List LentGroup} → c ≡ d → l ≡ m → ◌≡◌ {A = Watch} (record { count = c; groups = l }) (record { count = d; groups = m })
watch_so e f = cc

pub groups_first : (w : Watch) (first : ℕ) (g : Asked) (gs : List Asked) → with_groups w first (g ∷ gs) ≡ with_groups (with_group w (lend_group first g)) (first + length (names_of g.filter)) gs
groups_first w first g gs = watch_so (omega arith) (rw (add-one w.count))

pub names_first : (k : Kept) (g : Asked) (gs : List Asked) → with_all k (all_names (g ∷ gs)) ≡ with_all (with_all k (names_of g.filter)) (all_names gs)
names_first k g gs = sym (with-more k (names_of g.filter) (all_names gs))

-- ---- how many names
pub names-count : (gs : List Asked) → length (all_names gs) ≡ name_count (filters_of gs)
names-count [] = refl
names-count (g ∷ gs) = length-append (names_of g.filter) (all_names gs) ∙ ap (λ n. length (names_of g.filter) + n) (names-count gs)

groups-count : (first : ℕ) (gs : List Asked) → length (lend_groups first gs) ≡ length gs
groups-count first [] = refl
groups-count first (g ∷ gs) = ap suc (groups-count (first + length (names_of g.filter)) gs)

-- ---- the session
session_so : (s : Session) {c d : ℕ} {l m : List LentGroup} {n o : List LentName} → c ≡ d → l ≡ m → n ≡ o
    → ◌≡◌ {A = Session} (record { selected = s.selected; notified = 1; groupcount = c; told = s.told; groups = l; names = n }) (record { selected = s.selected; notified = 1; groupcount = d; told = s.told; groups = m; names = o })
session_so s e f g = rw (e, f, g)

pub settled_so : (s : Session) (w : Watch) (k : Kept) (gs : List Asked) → length gs ≤ 8 → name_count (filters_of gs) ≤ 16
    → w ≡ with_groups nothing_watched 0 gs → k ≡ with_all nothing_kept (all_names gs) → settle s w k ≡ watching s gs
settled_so s w k gs h l e f =
    session_so s
    (rw e (low_so (0 + length gs) (omega arith) ∙ omega arith))
    (ap (λ (x : Watch). x.groups) e ∙ fill 8 no_group (lend_groups 0 gs) (omega (arith, groups-count 0 gs)))
    (ap (λ (x : Kept). x.names) f ∙ fill 16 no_name (map lend_name (all_names gs)) (omega (arith, length-map (all_names gs) lend_name, names-count gs)))
