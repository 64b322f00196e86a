-- One group as a session holds it, case by case, over plain values. Assumes nothing.
use mathlib.Core.Path.{◌≡◌, sym, ap, ◌∙◌}
use mathlib.Core.Bool.{Bool, true}
use mathlib.Core.List.{List}
use Prim.Native.Nat.{ℕ, ◌+◌, ◌<◌}
use native.Mathlib.Omega.{arith}
use lib.ListN.{length, get_or}
use borrow.Author.Tests.{eq-eqb}
use Rattle.std.specs.Prelude.{Option, Some, None}
use Rattle.model.specs.Requests.{Filter, names_of}
use Rattle.model.specs.NotifyGrammar.{filter_at, events_at, groupable, group_by, group_at}
use Rattle.model.specs.Listing.{selector_number}
use Rattle.model.specs.declared.LentGroup.{LentGroup}
use Rattle.read_filters.specs.Scopes.{scope_for, Grouped, read_filter}
use Rattle.read_filters.specs.declared.Scope.{Scope}
use Rattle.read_filters.specs.declared.Filter.{Filter as FilterRead}
use Rattle.read_events.specs.Gathered.{gather_events, read_events}
use Rattle.read_events.specs.declared.Events.{Events}
use Rattle.read_notify.specs.Watched.{lent_by, read_lent, LentWithin, LentBehind}
use Rattle.read_notify.specs.Tallies.{tally_by}
use Rattle.read_notify.specs.declared.Tally.{Tally}
use Rattle.read_notify.specs.declared.Lent.{Lent}
use Rattle.read_notify.proofs.Counting.{tally_one}
use Rattle.read_notify.proofs.Grouping.{events-found, filter-found}

-- a group that was read, with what it comes to, and the position behind it
abbrev lent : LentGroup → Tally → ℕ → Option (Lent × ℕ)
lent g t p = Some (record { group = g; tally = t }, p)

lent_eq : {a b m n : ℕ} (first q : ℕ) {c d : Scope} {e e' : Events} → a ≡ b → c ≡ d → m ≡ n → e ≡ e' → lent (lent_by a m first e) (tally_by c m e) q ≡ lent (lent_by b n first e') (tally_by d n e') q
lent_eq first q w x y z = rw (w, x, y, z)

-- ---- behind its filter
module _ (s : List ℕ) (at first : ℕ) (f : Filter) where
  module _ (b : get_or s at 0 ≡ 32) where
    module _ {e : Events} {q : ℕ} (h : Some (e, q) ≡ read_events (events_at s (at + 1))) where
      pub behind_lent : {selector n : ℕ} {scope : Scope} {l : LentGroup} {t : Tally} → get_or s q 0 ≡ 41 → selector ≡ selector_number f → scope_for f ≡ scope → length (names_of f) ≡ n
          → l ≡ lent_by selector n first e → t ≡ tally_by scope n e → lent l t (q + 1) ≡ read_lent first (group_by true f s at)
      behind_lent {selector} {n} {scope} {l} {t} c sc so nc k m =
          let i = events-found (events_at s (at + 1)) h in
          rw (eq-eqb (get_or s at 0) 32 b, i.1, eq-eqb (get_or s q 0) 41 c)
          (ap (λ (g : LentGroup). lent g t (q + 1)) k ∙ ap (λ (u : Tally). lent (lent_by selector n first e) u (q + 1)) m
          ∙ lent_eq first (q + 1) sc (sym so) (sym nc) (sym i.2)
          ∙ ap (λ (u : Tally). lent (lent_by (selector_number f) (length (names_of f)) first (gather_events i.0)) u (q + 1)) (tally_one f i.0))

-- ---- from its parenthesis on
module _ (s : List ℕ) (at first : ℕ) where
  module _ (b : get_or s at 0 ≡ 40) where
    module _ {filter : FilterRead} {q : ℕ} (h : Some (filter, q) ≡ read_filter (filter_at s (at + 1))) where
      pub lent_by_lem : {b : Bool} → Grouped filter.scope b → b ≡ true → {r : Option (Lent × ℕ)} → ((f : Filter) → scope_for f ≡ filter.scope → length (names_of f) ≡ filter.names → r ≡ read_lent first (group_by true f s q)) → r ≡ read_lent first (group_at s at)
      unfolding group_at
      lent_by_lem a m k =
          let i = filter-found (filter_at s (at + 1)) h in
          let g : groupable i.0 ≡ true = sym (a i.0 i.2) ∙ m in
          rw (eq-eqb (get_or s at 0) 40 b, i.1, g) (k i.0 i.2 i.3)

pub within_lent : (s : List ℕ) (at n q : ℕ) (r : Option (Lent × ℕ)) → n + (at + 1) < q → LentBehind s q n r → LentWithin s at r
within_lent s at n q (Some (l, p)) h w = (w.0, w.1, omega (arith, w.2, w.3), w.4)
within_lent s at n q None h w = tt
