-- Filters, events and the command, case by case, over plain values. Assumes nothing.
use mathlib.Core.Path.{◌≡◌, refl}
use mathlib.Core.Bool.{Bool, true, false}
use mathlib.Core.List.{List}
use Prim.Native.Nat.{ℕ, ◌+◌, ◌≤◌}
use native.Mathlib.Omega.{arith}
use lib.ListN.{length, get_or}
use borrow.Author.Tests.{eq-eqb}
use Rattle.std.specs.Prelude.{Option, Some, None}
use Rattle.model.specs.Octets.{atom_octet}
use Rattle.model.specs.Requests.{Filter, names_of, Event, Asked, Command}
use Rattle.model.specs.Reading.{Parsed, bad, ok, is, piece, end_of, word_at}
use Rattle.model.specs.NotifyGrammar.{groups_at, set_by, notify_at}
use Rattle.read_filters.specs.Scopes.{scope_for, read_filter}
use Rattle.read_filters.specs.declared.Filter.{Filter as FilterRead}
use Rattle.read_events.specs.Gathered.{gather_events, read_events}
use Rattle.read_events.specs.declared.Events.{Events}
use Rattle.read_filters.proofs.Pairs.{read-same}
use Rattle.read_notify.specs.Tallies.{tally_of, read_tally}
use Rattle.read_notify.specs.Readings.{Bounded, Kept_of, setting, NotifyWithin, KeepsAt}
use Rattle.read_notify.specs.declared.Groups.{Groups as Gathered}
use Rattle.read_notify.specs.declared.Notify.{Notify}
use Rattle.read_notify.specs.declared.Notify.TheVariants.{Nothing, Groups}

-- ---- what was read, from the code's answer
pub events-found : {e : Events} {q : ℕ} (x : Parsed (List Event)) → Some (e, q) ≡ read_events x → (es : List Event) × (x ≡ ok q es) × (gather_events es ≡ e)
events-found bad h = cc
events-found (ok p es) h = let e = read-same h in (es, rw e.1, rw e.0)

pub filter-found : {f : FilterRead} {q : ℕ} (x : Parsed Filter) → Some (f, q) ≡ read_filter x → (g : Filter) × (x ≡ ok q g) × (scope_for g ≡ f.scope) × (length (names_of g) ≡ f.names)
filter-found bad h = cc
filter-found (ok p g) h = let e = read-same h in (g, rw e.1, rw e.0, rw e.0)

-- ---- the command by its words
module _ (s : List ℕ) (at : ℕ) {end : ℕ} (e : end ≡ end_of atom_octet s at) where
  pub set-status : is (piece s at end) "STATUS" ≡ true → get_or s end 0 ≡ 32 → setting true (groups_at s (end + 1)) ≡ set_by (word_at s at "STATUS") s at
  set-status h b = rw (rw e at h, eq-eqb (get_or s (end_of atom_octet s at) 0) 32 (rw e at b), e)

  pub notify-set : is (piece s at end) "NONE" ≡ false → is (piece s at end) "SET" ≡ true → get_or s end 0 ≡ 32 → set_by (word_at s (end + 1) "STATUS") s (end + 1) ≡ notify_at s at
  unfolding notify_at
  notify-set n h b = rw (rw e at n, rw e at h, eq-eqb (get_or s (end_of atom_octet s at) 0) 32 (rw e at b), e)

-- ---- what is kept of it
pub keeps_as : {s : List ℕ} {at : ℕ} {x y : Parsed Command} {r : Option (Notify × ℕ)} → x ≡ y → KeepsAt s at x r → KeepsAt s at y r
keeps_as e k = rw e at k

module _ (s : List ℕ) (at : ℕ) where
  pub keeps-bad : KeepsAt s at bad None
  keeps-bad = record { is = record { exact = refl; keeps = λ q status gs h. tt }; within = tt }

-- groups that were gathered, and where they do not fit
pub set_lost : (s : List ℕ) (at : ℕ) (status : Bool) (x : Parsed (List Asked)) → bad ≡ read_tally x → KeepsAt s at (setting status x) None
set_lost s at status bad e = keeps-bad s at
set_lost s at status (ok q gs) e = cc

module _ (s : List ℕ) (at : ℕ) (g : Gathered) (p : ℕ) where
  pub set_found : (x : Parsed (List Asked)) → ok p g.tally ≡ read_tally x → Bounded s at g.tally p → ((q : ℕ) (gs : List Asked) → x ≡ ok q gs → Kept_of g.watch g.kept gs)
      → KeepsAt s at (setting g.status x) (Some (Groups g, p))
  set_found bad e w k = cc
  set_found (ok q gs) e w k =
      let f : p ≡ q = cc in
      let h : g.tally ≡ tally_of gs = cc in
      record { is = record { exact = rw (f, h); keeps = λ r b ms m. k r ms cc }; within = w }

notify-later : (s : List ℕ) (at q : ℕ) (r : Option (Notify × ℕ)) → at ≤ q → q ≤ length s → NotifyWithin s q r → NotifyWithin s at r
notify-later s at q None h l w = tt
notify-later s at q (Some (Nothing, p)) h l w = (omega arith, omega arith)
notify-later s at q (Some (Groups g, p)) h l w = record { groups = omega arith; names = omega arith; selected = omega arith; behind = omega arith; inside = omega arith }

pub keeps-later : (s : List ℕ) (at q : ℕ) {x : Parsed Command} (r : Option (Notify × ℕ)) → at ≤ q → q ≤ length s → KeepsAt s q x r → KeepsAt s at x r
keeps-later s at q r h l k = record { is = k.is; within = notify-later s at q r h l k.within }
