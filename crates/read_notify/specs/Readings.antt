-- What the readers of groups and of the command answer: what was read, the position behind it, and what is kept. Assumes nothing: these are
-- definitions.
use Rattle.std.specs.Prelude.{◌≡◌, Option, Some, None, Bool, List, ℕ, ◌+◌, ◌-◌, ◌≤◌, ◌<◌, length}
use Rattle.std.specs.Option.{option_map}
use Rattle.model.specs.Requests.{Asked, Command, notify_none, notify_set, search}
use Rattle.model.specs.Limits.{name_count}
use Rattle.model.specs.Reading.{Parsed, bad, ok, and_then}
use Rattle.model.specs.Listing.{watching}
use Rattle.model.specs.declared.Session.{Session}
use Rattle.read_filters.specs.declared.Kept.{Kept}
use Rattle.read_notify.specs.Tallies.{filters_of, tally_of, add}
use Rattle.read_notify.specs.Watched.{settle}
use Rattle.read_notify.specs.declared.Tally.{Tally}
use Rattle.read_notify.specs.declared.Watch.{Watch}
use Rattle.read_notify.specs.declared.Notify.{Notify}
use Rattle.read_notify.specs.declared.Notify.TheVariants.{Nothing, Groups}

-- groups end in the text, behind their beginning, and no count is above that of their octets
pub record Bounded (s : List ℕ) (at : ℕ) (t : Tally) (p : ℕ) : Type 0 where
  pub groups : t.groups + at ≤ p
  pub names : t.names + at ≤ p
  pub selected : t.selected + at ≤ p
  pub behind : at < p
  pub inside : p ≤ length s

-- ---- groups
-- a tally put to those that follow it
abbrev pub join : Tally → Parsed Tally → Parsed Tally
join t (ok p rest) = ok p (add t rest)
join t bad = bad

-- these are what is kept of groups, if they are few enough
abbrev pub Kept_of : Watch → Kept → List Asked → Type 0
Kept_of w k gs = length gs ≤ 8 → name_count (filters_of gs) ≤ 16 → (y : Session) → settle y w k ≡ watching y gs

-- ---- the command
-- what a NOTIFY asks: no more notices, or groups, with or without STATUS, that come to this
abbrev pub asked : Notify → Option (Bool × Tally)
asked Nothing = None
asked (Groups g) = Some (g.status, g.tally)

abbrev pub read_notify : Parsed Command → Option (Option (Bool × Tally) × ℕ)
read_notify bad = None
read_notify (ok p notify_none) = Some (None, p)
read_notify (ok p (notify_set status gs)) = Some (Some (status, tally_of gs), p)
read_notify (ok p (search q)) = None

-- NOTIFY SET with these groups; `status` says whether STATUS stands before them
abbrev pub setting : Bool → Parsed (List Asked) → Parsed Command
setting status x = and_then x λ r groups. ok r (notify_set status groups)

-- what is kept of the groups that a NOTIFY asks
abbrev pub Held : Option (Notify × ℕ) → List Asked → Type 0
Held None gs = Unit {0}
Held (Some (Nothing, p)) gs = Unit {0}
Held (Some (Groups g, p)) gs = Kept_of g.watch g.kept gs

-- groups end in the text; the word NONE may stand behind it only where the position does
abbrev pub NotifyWithin : List ℕ → ℕ → Option (Notify × ℕ) → Type 0
NotifyWithin s at None = Unit {0}
NotifyWithin s at (Some (Nothing, p)) = (at ≤ p) × (p ≤ at + (length s - at))
NotifyWithin s at (Some (Groups g, p)) = Bounded s at g.tally p

-- r is the command x, and what is kept of its groups
pub record Keeps (x : Parsed Command) (r : Option (Notify × ℕ)) : Type 0 where
  pub exact : option_map (λ (n : Notify × ℕ). (asked n.0, n.1)) r ≡ read_notify x
  pub keeps : (q : ℕ) (status : Bool) (gs : List Asked) → x ≡ ok q (notify_set status gs) → Held r gs

pub record KeepsAt (s : List ℕ) (at : ℕ) (x : Parsed Command) (r : Option (Notify × ℕ)) : Type 0 where
  pub is : Keeps x r
  pub within : NotifyWithin s at r
