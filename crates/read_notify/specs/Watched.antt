-- What is kept of the groups of NOTIFY SET: each as a session holds it, and their names. Assumes nothing: these are definitions.
use Rattle.std.specs.Prelude.{◌≡◌, Option, Some, None, Bool, true, cond, ◌&&◌, List, [], ◌∷◌, ℕ, ◌+◌, ◌≤◌, ◌<◌, eqb, leb, ltb, length, set, replicate}
use Rattle.std.proofs.lemmas.List.Edits.{sets}
use Rattle.model.specs.Text.{pack}
use Rattle.model.specs.Requests.{Filter, names_of, Asked, Command, notify_none, notify_set, search}
use Rattle.model.specs.Limits.{name_count}
use Rattle.model.specs.Reading.{Parsed, bad, ok}
use Rattle.model.specs.NotifyGrammar.{filter_at, group_by}
use Rattle.model.specs.Memory.{no_group, silenced}
use Rattle.model.specs.Listing.{selector_number, lend_groups, watching}
use Rattle.model.specs.declared.LentGroup.{LentGroup}
use Rattle.model.specs.declared.Session.{Session}
use Rattle.read_attributes.specs.declared.Attributes.{Attributes}
use Rattle.read_events.specs.Gathered.{gather_events}
use Rattle.read_events.specs.declared.Events.{Events}
use Rattle.read_filters.specs.Scopes.{scope_for}
use Rattle.read_filters.specs.declared.Scope.{Scope}
use Rattle.read_filters.specs.Keeping.{with_all}
use Rattle.read_filters.specs.declared.Kept.{Kept}
use Rattle.read_notify.specs.Tallies.{filters_of, tally_of}
use Rattle.read_notify.specs.declared.Watch.{Watch}
use Rattle.read_notify.specs.declared.Lent.{Lent}

-- ---- the session that a NOTIFY sets
-- groups that fit into a session: at most 8, with at most 16 names
abbrev pub few : List Asked → Bool
few gs = leb (length gs) 8 && leb (name_count (filters_of gs)) 16

abbrev pub watched_by : Parsed Command → Session → Session
watched_by bad s = s
watched_by (ok p notify_none) s = silenced s
watched_by (ok p (notify_set status gs)) s = cond (few gs) (watching s gs) s
watched_by (ok p (search q)) s = s

-- ---- one group, from what the code has of it
-- a number as an octet
abbrev pub low_of : ℕ → ℕ
low_of x = cond (ltb x 256) x 0

abbrev pub bits_of : Events → ℕ
bits_of e = pack (e.new ∷ e.expunge ∷ e.flag ∷ e.name ∷ e.subscription ∷ [])

abbrev pub fetch_bits : Attributes → ℕ
fetch_bits a = pack (a.uid ∷ a.flags ∷ a.size ∷ [])

abbrev pub first_of : ℕ → ℕ → ℕ
first_of names first = cond (eqb names 0) 0 (low_of first)

abbrev pub lent_by : ℕ → ℕ → ℕ → Events → LentGroup
lent_by selector names first e = record {
  selector = selector;
  first = first_of names first;
  count = low_of names;
  events = bits_of e;
  attributes = fetch_bits e.attributes;
}

-- a group that was read, with what it comes to; its names begin at `first`
abbrev pub lent_of : ℕ → Asked → LentGroup
lent_of first g = lent_by (selector_number g.filter) (length (names_of g.filter)) first (gather_events g.events)

abbrev pub read_lent : ℕ → Parsed Asked → Option (Lent × ℕ)
read_lent first bad = None
read_lent first (ok p g) = Some (record { group = lent_of first g; tally = tally_of (g ∷ []) }, p)

-- a group ends in the text; it has no more names than octets behind its parenthesis
abbrev pub LentWithin : List ℕ → ℕ → Option (Lent × ℕ) → Type 0
LentWithin s at (Some (l, p)) = (l.tally.groups ≤ 1) × (l.tally.selected ≤ 1) × (l.tally.names + (at + 1) < p) × (p ≤ length s)
LentWithin s at None = Unit {0}

-- r is the answer x of the definitions
pub record Lends (s : List ℕ) (at : ℕ) (x r : Option (Lent × ℕ)) : Type 0 where
  pub exact : r ≡ x
  pub within : LentWithin s at r

-- behind its filter
abbrev pub LentBehind : List ℕ → ℕ → ℕ → Option (Lent × ℕ) → Type 0
LentBehind s at names (Some (l, p)) = (l.tally.groups ≤ 1) × (l.tally.selected ≤ 1) × (l.tally.names ≡ names) × (at < p) × (p ≤ length s)
LentBehind s at names None = Unit {0}

pub record LendsBehind (s : List ℕ) (at : ℕ) (scope : Scope) (n first : ℕ) (r : Option (Lent × ℕ)) : Type 0 where
  pub exact : (f : Filter) → scope_for f ≡ scope → length (names_of f) ≡ n → r ≡ read_lent first (group_by true f s at)
  pub within : LentBehind s at n r

-- ---- groups
abbrev pub nothing_watched : Watch
nothing_watched = record { count = 0; groups = replicate 8 no_group }

abbrev pub with_group : Watch → LentGroup → Watch
with_group w g = record { count = w.count + 1; groups = set w.groups w.count g }

-- groups behind those that are kept; their names begin at `first`
abbrev pub with_groups : Watch → ℕ → List Asked → Watch
with_groups w first gs = record { count = w.count + length gs; groups = sets w.groups w.count (lend_groups first gs) }

abbrev pub settle : Session → Watch → Kept → Session
settle s w k = record { selected = s.selected; notified = 1; groupcount = low_of w.count; told = s.told; groups = w.groups; names = k.names }

-- the names of the filter at a position are kept behind those of k
pub record KeepsMore (s : List ℕ) (at names : ℕ) (k r : Kept) : Type 0 where
  pub exact : (q : ℕ) (f : Filter) → filter_at s at ≡ ok q f → length (names_of f) ≡ names → r ≡ with_all k (names_of f)
