-- What is counted of a search's sources, as the code answers it. Assumes nothing: these are definitions.
use Rattle.std.specs.Prelude.{◌≡◌, Option, Some, None, Bool, true, List, ℕ, ◌+◌, ◌-◌, ◌≤◌, ◌<◌, length}
use Rattle.model.specs.Lists.{anyb}
use Rattle.model.specs.Requests.{Filter, of_selected}
use Rattle.model.specs.Limits.{name_count}
use Rattle.model.specs.Replies.{is_delayed}
use Rattle.model.specs.Reading.{Parsed, row_at, next_at, closing, list_at}
use Rattle.model.specs.NotifyGrammar.{filter_at}
use Rattle.read_filters.specs.declared.Scope.{Scope}
use Rattle.read_filters.specs.declared.Scope.TheVariants.{Selected, Delayed, Inboxes, Personal, Subscribed, Subtree, SubtreeOne, Mailboxes}
use Rattle.read_filters.specs.declared.Filter.{Filter as FilterRead}
use Rattle.octets.specs.Joined.{read_by}
use Rattle.read_search.specs.declared.Sources.{Sources}

-- how many, how many names, whether one is for NOTIFY alone, whether one is about the selected mailbox
abbrev pub sources_of : List Filter → Sources
sources_of fs =
    record { count = length fs; names = name_count fs; delayed = anyb is_delayed fs; selected = anyb of_selected fs }

abbrev pub read_sources : Parsed (List Filter) → Option (Sources × ℕ)
read_sources x = read_by sources_of x

-- ---- a source in front of others
-- a source of this scope is such, or one of the others is
abbrev pub delayed_scope : Scope → Bool → Bool
delayed_scope Selected more = more
delayed_scope Delayed more = true
delayed_scope Inboxes more = more
delayed_scope Personal more = more
delayed_scope Subscribed more = more
delayed_scope Subtree more = more
delayed_scope SubtreeOne more = more
delayed_scope Mailboxes more = more

abbrev pub selected_scope : Scope → Bool → Bool
selected_scope Selected more = true
selected_scope Delayed more = true
selected_scope Inboxes more = more
selected_scope Personal more = more
selected_scope Subscribed more = more
selected_scope Subtree more = more
selected_scope SubtreeOne more = more
selected_scope Mailboxes more = more

abbrev pub ahead : FilterRead → Sources → Sources
ahead f more =
    record {
      count = more.count + 1;
      names = f.names + more.names;
      delayed = delayed_scope f.scope more.delayed;
      selected = selected_scope f.scope more.selected;
    }

-- there is room in the counts for one more with n names
pub record RoomFor (n : ℕ) (more : Sources) : Type 0 where
  pub one : more.count < 18446744073709551615
  pub names : n + more.names < 18446744073709551616

-- ---- the readers
-- sources end in the text, and with their names are no more than the octets that they stand in
pub record Bounded (s : List ℕ) (at p : ℕ) (r : Sources) : Type 0 where
  pub some : 0 < r.count
  pub few : r.count + r.names + at ≤ p
  pub inside : p ≤ length s

abbrev pub Within : List ℕ → ℕ → Option (Sources × ℕ) → Type 0
Within s at (Some (r, p)) = Bounded s at p r
Within s at None = Unit {0}

-- r is a row of sources up to its parenthesis, whatever the number of steps, if it is enough
pub record ReadsRow (s : List ℕ) (at : ℕ) (r : Option (Sources × ℕ)) : Type 0 where
  pub exact : (n : ℕ) → length s - at < n → r ≡ read_sources (row_at n (filter_at s) (next_at closing s) at)
  pub within : Within s at r

-- r is the sources in parentheses
pub record ReadsSources (s : List ℕ) (at : ℕ) (r : Option (Sources × ℕ)) : Type 0 where
  pub exact : r ≡ read_sources (list_at (filter_at s) s at)
  pub within : Within s at r
