-- Groups that are counted and kept one after another, over plain values. Assumes nothing.
use mathlib.Core.Path.{◌≡◌, refl, sym, ap, ◌∙◌}
use mathlib.Core.Bool.{Bool, true, false, cond}
use mathlib.Core.List.{List, [], ◌∷◌}
use Prim.Native.Nat.{ℕ, zero, suc, ◌+◌, ◌-◌, ◌≤◌, ◌<◌}
use native.Mathlib.Omega.{arith}
use native.Mathlib.Nat.{add-zero}
use lib.Dec.{eqb}
use lib.ListN.{length, get_or}
use borrow.Author.Tests.{ne_eqb}
use Rattle.std.specs.Prelude.{Some, None}
use Rattle.model.specs.Requests.{Filter, names_of, Event, Asked}
use Rattle.model.specs.Limits.{name_count}
use Rattle.model.specs.Reading.{Parsed, bad, ok, and_then, stands, after, after_by, over, neither, row_by, row_at, line_end, next_at}
use Rattle.model.specs.NotifyGrammar.{filter_at, events_at, groupable, group_by, group_at, groups_at}
use Rattle.model.specs.Listing.{lend_group, all_names}
use Rattle.read_filters.specs.Keeping.{nothing_kept, with_all}
use Rattle.read_filters.specs.declared.Kept.{Kept}
use Rattle.read_notify.specs.Tallies.{filters_of, tally_of, no_tally, read_tally, add}
use Rattle.read_notify.specs.Readings.{Bounded, join, setting, KeepsAt}
use Rattle.read_notify.specs.Watched.{lent_of, read_lent, LentWithin, nothing_watched, with_group, with_groups}
use Rattle.read_notify.specs.declared.Tally.{Tally}
use Rattle.read_notify.specs.declared.Notify.TheVariants.{Groups}
use Rattle.read_notify.specs.declared.Watch.{Watch}
use Rattle.read_notify.specs.declared.Lent.{Lent}
use Rattle.read_filters.proofs.Pairs.{read-same}
use Rattle.read_notify.proofs.Rows.{next_another, next_over, next-neither}
use Rattle.read_notify.proofs.Grouping.{set_lost, set_found}
use Rattle.read_notify.proofs.Counting.{tally-more, add_none, add_right}
use Rattle.read_notify.proofs.Filling.{lent_so, groups_first, names_first, names-count, settled_so}
use Rattle.octets.specs.Rows.{row_another, row-neither, row_none, row_open, row_over}

-- ---- the filter of a group that was read
module _ (s : List ℕ) {p : ℕ} {g : Asked} where
  made_last : (f : Filter) (es : List Event) (b : Bool) (q : ℕ) → after_by b q (λ e. ok e (record { filter = f; events = es })) ≡ ok p g → f ≡ g.filter
  made_last f es true q h = let k : ◌≡◌ {A = Asked} (record { filter = f; events = es }) g = cc in ap (λ (a : Asked). a.filter) k
  made_last f es false q h = cc

  made-events : (f : Filter) (x : Parsed (List Event)) → and_then x (λ r events. after s r ")" λ e. ok e (record { filter = f; events = events })) ≡ ok p g → f ≡ g.filter
  made-events f bad h = cc
  made-events f (ok r es) h = made_last f es (stands s r ")") (r + 1) h

  made-space : (f : Filter) (b : Bool) (q : ℕ) → after_by b q (λ q. and_then (events_at s q) λ r events. after s r ")" λ e. ok e (record { filter = f; events = events })) ≡ ok p g → f ≡ g.filter
  made-space f true q h = made-events f (events_at s q) h
  made-space f false q h = cc

  made_by : (f : Filter) (b : Bool) (r : ℕ) → group_by b f s r ≡ ok p g → f ≡ g.filter
  made_by f true r h = made-space f (stands s r " ") (r + 1) h
  made_by f false r h = cc

  made-filter : (x : Parsed Filter) → and_then x (λ r f. group_by (groupable f) f s r) ≡ ok p g → (q : ℕ) × (x ≡ ok q g.filter)
  made-filter bad h = cc
  made-filter (ok r f) h = (r, ap (ok r) (made_by f (groupable f) r h))

  group-filter : (at : ℕ) → group_at s at ≡ ok p g → (q : ℕ) × (filter_at s (at + 1) ≡ ok q g.filter)
  unfolding group_at
  group-filter at h = go (stands s at "(") h
    where
      go : (b : Bool) → after_by b (at + 1) (λ q. and_then (filter_at s q) λ r f. group_by (groupable f) f s r) ≡ ok p g → (q : ℕ) × (filter_at s (at + 1) ≡ ok q g.filter)
      go true e = made-filter (filter_at s (at + 1)) e
      go false e = cc

-- ---- what was read, from the code's answer
lent_found : (first : ℕ) {q : ℕ} {l : Lent} (x : Parsed Asked) → Some (l, q) ≡ read_lent first x → (g : Asked) × (x ≡ ok q g) × (lent_of first g ≡ l.group) × (tally_of (g ∷ []) ≡ l.tally)
lent_found first bad h = cc
lent_found first (ok p g) h = let e = read-same h in (g, rw e.1, rw e.0, rw e.0)

lent-lost : (first : ℕ) (x : Parsed Asked) → None ≡ read_lent first x → x ≡ bad
lent-lost first bad h = refl
lent-lost first (ok p g) h = cc

-- ---- no name more
no_names : (k : Kept) → with_all k [] ≡ k
no_names k = rw (add-zero k.count)

-- ---- one step of a row that fits
module _ (s : List ℕ) where
  abbrev pub row : ℕ → ℕ → Parsed (List Asked)
  row m p = row_at m (group_at s) (next_at line_end s) p

  fuelled : (m p : ℕ) {q : ℕ} {rest : List Asked} → row m p ≡ ok q rest → 0 < m
  unfolding row_at
  fuelled zero p h = cc
  fuelled (suc m) p h = omega arith

  cons-found : {q : ℕ} {rest : List Asked} (g : Asked) (x : Parsed (List Asked)) → and_then x (λ r l. ok r (g ∷ l)) ≡ ok q rest → (l : List Asked) × (x ≡ ok q l) × (rest ≡ g ∷ l)
  cons-found g bad h = cc
  cons-found g (ok r l) h = (l, (cc), (cc))

  last_found : {q : ℕ} {rest : List Asked} (g : Asked) (b : Bool) (e m : ℕ) → row_by (cond b (over e) neither) (λ r. row m r) g ≡ ok q rest → rest ≡ g ∷ []
  last_found {rest = rest} g true e m h = let k : (g ∷ []) ≡ rest = cc in sym k
  last_found g false e m h = cc

  module _ (m p : ℕ) {q : ℕ} {rest : List Asked} (h : row m p ≡ ok q rest) {next : ℕ} {g : Asked} (e : group_at s p ≡ ok next g) where
    opened : row_by (next_at line_end s next) (λ r. row (m - 1) r) g ≡ ok q rest
    opened = rw (row_open (group_at s) (next_at line_end s) p m (fuelled m p h), e) at h

    row_more : get_or s next 0 ≡ 32 → (l : List Asked) × (row (m - 1) (next + 1) ≡ ok q l) × (rest ≡ g ∷ l)
    row_more b = cons-found g (row (m - 1) (next + 1)) (rw (next_another s next b) at opened)

    row_last : (get_or s next 0 ≡ 32 → ⊥) → rest ≡ g ∷ []
    row_last b = last_found g (eqb next (length s)) next (m - 1) (rw (ne_eqb (get_or s next 0) 32 b) at opened)

-- ---- tallies
read_join : (g : Asked) (x : Parsed (List Asked)) → join (tally_of (g ∷ [])) (read_tally x) ≡ read_tally (and_then x (λ p l. ok p (g ∷ l)))
read_join g bad = refl
read_join g (ok p l) = ap (ok p) (tally-more g l)

join_none : (x : Parsed Tally) → x ≡ join no_tally x
join_none bad = refl
join_none (ok p t) = ap (ok p) (sym (add_none t))

join_join : (a b : Tally) (x : Parsed Tally) → join a (join b x) ≡ join (add a b) x
join_join a b bad = refl
join_join a b (ok p t) = ap (ok p) (sym (add_right a b t))

-- ---- the loop
-- what is left from p on, behind what was counted and is kept, says what the groups from `at` on say
pub record Goes (s : List ℕ) (at : ℕ) (t : Tally) (w : Watch) (k : Kept) (p : ℕ) : Type 0 where
  pub from : at ≤ p
  pub counts : (t.groups + at ≤ p) × (t.names + at ≤ p) × (t.selected + at ≤ p)
  pub groups : w.count ≤ p
  pub names : k.count ≤ p
  pub tallied : (m : ℕ) × (length s - p ≤ m) × (read_tally (groups_at s at) ≡ join t (read_tally (row s m p)))
  pub goes : (q : ℕ) (gs : List Asked) → groups_at s at ≡ ok q gs → name_count (filters_of gs) ≤ 16
      → (m : ℕ) × (rest : List Asked) × (row s m p ≡ ok q rest) × (with_groups w k.count rest ≡ with_groups nothing_watched 0 gs) × (with_all k (all_names rest) ≡ with_all nothing_kept (all_names gs))

pub goes_start : (s : List ℕ) (at : ℕ) (t : Tally) (w : Watch) (k : Kept) → t ≡ no_tally → w ≡ nothing_watched → k ≡ nothing_kept → Goes s at t w k at
goes_start s at t w k d e f = record {
  from = omega arith;
  counts = rw d (omega arith, omega arith, omega arith);
  groups = omega (arith, ap (λ (x : Watch). x.count) e);
  names = omega (arith, ap (λ (x : Kept). x.count) f);
  tallied = (length s, omega arith, join_none (read_tally (groups_at s at)) ∙ ap (λ (x : Tally). join x (read_tally (groups_at s at))) (sym d));
  goes = λ q gs h l. (length s, gs, h, ap (λ (x : Watch). with_groups x k.count gs) e ∙ ap (λ (x : Kept). with_groups nothing_watched x.count gs) f, ap (λ (x : Kept). with_all x (all_names gs)) f);
}

module _ (s : List ℕ) (at : ℕ) (t : Tally) (w : Watch) (k : Kept) (p : ℕ) (o : Goes s at t w k p) where
  module _ (e : None ≡ read_lent k.count (group_at s p)) where
    none-there : (m : ℕ) → row s m p ≡ bad
    none-there m = row_none (group_at s) (next_at line_end s) p m (lent-lost k.count (group_at s p) e)

    pub goes_none : (status : Bool) → KeepsAt s at (setting status (groups_at s at)) None
    goes_none status = set_lost s at status (groups_at s at) (sym (o.tallied.2 ∙ ap (λ (x : Parsed (List Asked)). join t (read_tally x)) (none-there o.tallied.0)))

  module _ {got : Lent} {next : ℕ} (e : Some (got, next) ≡ read_lent k.count (group_at s p)) (b : LentWithin s p (Some (got, next))) where
    -- the group that stands at p
    the : (g : Asked) × (group_at s p ≡ ok next g) × (lent_of k.count g ≡ got.group) × (tally_of (g ∷ []) ≡ got.tally)
    the = lent_found k.count (group_at s p) e

    name-count : length (names_of the.0.filter) ≡ got.tally.names
    name-count = omega (arith, ap (λ (x : Tally). x.names) the.3)

    module _ {k' : Kept} (f : (q : ℕ) (x : Filter) → filter_at s (p + 1) ≡ ok q x → length (names_of x) ≡ got.tally.names → k' ≡ with_all k (names_of x)) where
      the_names : k' ≡ with_all k (names_of the.0.filter)
      the_names = let i = group-filter s p the.1 in f i.0 the.0.filter i.1 name-count

      kept-count : k'.count ≡ k.count + got.tally.names
      kept-count = ap (λ (x : Kept). x.count) the_names ∙ ap (λ m. k.count + m) name-count

      module _ (v : Watch) (x : v ≡ with_group w got.group) (u : Tally) (y : u ≡ add t got.tally) where
        -- with this group the rest says the same
        step : (rest gs : List Asked) → name_count (filters_of gs) ≤ 16
            → with_groups w k.count (the.0 ∷ rest) ≡ with_groups nothing_watched 0 gs → with_all k (all_names (the.0 ∷ rest)) ≡ with_all nothing_kept (all_names gs)
            → (with_groups v k'.count rest ≡ with_groups nothing_watched 0 gs) × (with_all k' (all_names rest) ≡ with_all nothing_kept (all_names gs))
        step rest gs l a d =
            let c : k.count + length (all_names (the.0 ∷ rest)) ≡ 0 + length (all_names gs) = ap (λ (y : Kept). y.count) d in
            let n = names-count gs in
            let m = names-count (the.0 ∷ rest) in
            let j : lent_of k.count the.0 ≡ lend_group k.count the.0 = lent_so k.count the.0 (omega arith) (omega arith) in (
              ap (λ (y : Watch). with_groups y k'.count rest) (x ∙ ap (with_group w) (sym the.2 ∙ j))
                  ∙ ap (λ (y : Kept). with_groups (with_group w (lend_group k.count the.0)) y.count rest) the_names
                  ∙ sym (groups_first w k.count the.0 rest) ∙ a,
              ap (λ (y : Kept). with_all y (all_names rest)) the_names ∙ sym (names_first k the.0 rest) ∙ d,
            )

        fuel : 0 < o.tallied.0
        fuel = omega (arith, o.tallied.1, b.2, b.3)

        sums : (u.groups ≡ t.groups + got.tally.groups) × (u.names ≡ t.names + got.tally.names) × (u.selected ≡ t.selected + got.tally.selected)
        sums = (ap (λ (z : Tally). z.groups) y, ap (λ (z : Tally). z.names) y, ap (λ (z : Tally). z.selected) y)

        pub goes_on : get_or s next 0 ≡ 32 → Goes s at u v k' (next + 1)
        goes_on c = record {
          from = omega (arith, o.from, b.2);
          counts = (omega (arith, o.counts.0, sums.0, b.0, b.2), omega (arith, o.counts.1, sums.1, b.2), omega (arith, o.counts.2, sums.2, b.1, b.2));
          groups = omega (arith, ap (λ (y : Watch). y.count) x, o.groups, b.2);
          names = omega (arith, kept-count, o.names, b.2);
          tallied = (
            o.tallied.0 - 1,
            omega (arith, o.tallied.1, b.2, fuel),
            o.tallied.2
                ∙ (ap (λ (z : Parsed (List Asked)). join t (read_tally z)) (row_another (group_at s) (next_at line_end s) p o.tallied.0 fuel the.1 (next_another s next c))
                ∙ (ap (join t) (sym (read_join the.0 (row s (o.tallied.0 - 1) (next + 1))))
                ∙ (ap (λ (z : Tally). join t (join z (read_tally (row s (o.tallied.0 - 1) (next + 1))))) the.3
                ∙ (join_join t got.tally (read_tally (row s (o.tallied.0 - 1) (next + 1))) ∙ ap (λ (z : Tally). join z (read_tally (row s (o.tallied.0 - 1) (next + 1)))) (sym y))))),
          );
          goes = λ q gs h l.
              let i = o.goes q gs h l in
              let j = row_more s i.0 p i.2 the.1 c in
              let r = step j.0 gs l (rw j.2 at i.3) (rw j.2 at i.4) in
              (i.0 - 1, j.0, j.1, r.0, r.1);
        }

        none_left : (y : Watch) (i : ℕ) → with_groups y i [] ≡ y
        none_left y i = rw (add-zero y.count)

        module _ (c : get_or s next 0 ≡ 32 → ⊥) where
          tally_last : next ≡ length s → ok next u ≡ read_tally (groups_at s at)
          tally_last d = sym (
              o.tallied.2
              ∙ (ap (λ (z : Parsed (List Asked)). join t (read_tally z)) (row_over (group_at s) (next_at line_end s) p o.tallied.0 fuel the.1 (next_over s next c d))
              ∙ ap (ok next) (ap (add t) the.3 ∙ sym y)))

          tally-wrong : (next ≡ length s → ⊥) → bad ≡ read_tally (groups_at s at)
          tally-wrong d = sym (
              o.tallied.2
              ∙ ap (λ (z : Parsed (List Asked)). join t (read_tally z)) (row-neither (group_at s) (next_at line_end s) p o.tallied.0 fuel the.1 (next-neither s next c d)))

          last_bounds : Bounded s at u next
          last_bounds = record {
            groups = omega (arith, o.counts.0, sums.0, b.0, b.2);
            names = omega (arith, o.counts.1, sums.1, b.2);
            selected = omega (arith, o.counts.2, sums.2, b.1, b.2);
            behind = omega (arith, o.from, b.2);
            inside = b.3;
          }

          pub goes_last : (status : Bool) → next ≡ length s → KeepsAt s at (setting status (groups_at s at)) (Some (Groups (record { status = status; tally = u; watch = v; kept = k' }), next))
          goes_last status d =
              set_found s at (record { status = status; tally = u; watch = v; kept = k' }) next (groups_at s at) (tally_last d) last_bounds λ q gs h a l z.
              let i = o.goes q gs h l in
              let j = row_last s i.0 p i.2 the.1 c in
              let r = step [] gs l (rw j at i.3) (rw j at i.4) in
              settled_so z v k' gs a l (sym (none_left v k'.count) ∙ r.0) (sym (no_names k') ∙ r.1)

          pub goes-wrong : (status : Bool) → (next ≡ length s → ⊥) → KeepsAt s at (setting status (groups_at s at)) None
          goes-wrong status d = set_lost s at status (groups_at s at) (tally-wrong d)
