-- Whom a filter is about, as the code answers it. Assumes nothing: these are definitions.
use Rattle.std.specs.Prelude.{◌≡◌, Option, Some, None, Bool, List, [], ◌∷◌, ℕ, ◌+◌, ◌≤◌, ◌<◌, length}
use Rattle.model.specs.Requests.{Filter, selected, delayed, inboxes, personal, subscribed, subtree, subtree_one, mailboxes, names_of}
use Rattle.model.specs.Reading.{Parsed, bad, ok}
use Rattle.model.specs.NotifyGrammar.{Scope as ScopeWord, alone, subtree_of, one_level_of, mailboxes_of, unscoped, named_by, filter_by, groupable}
use Rattle.model.specs.Listing.{selector_number}
use Rattle.read_filters.specs.declared.Scope.{Scope}
use Rattle.read_filters.specs.declared.Scope.TheVariants.{Selected, Delayed, Inboxes, Personal, Subscribed, Subtree, SubtreeOne, Mailboxes}
use Rattle.read_filters.specs.declared.Word.{Word}
use Rattle.read_filters.specs.declared.Word.TheVariants.{Alone, Named}
use Rattle.read_filters.specs.declared.Filter.{Filter as FilterRead}

-- whom a filter is about, without its names
abbrev pub scope_for : Filter → Scope
scope_for selected = Selected
scope_for delayed = Delayed
scope_for inboxes = Inboxes
scope_for personal = Personal
scope_for subscribed = Subscribed
scope_for (subtree n ns) = Subtree
scope_for (subtree_one n ns) = SubtreeOne
scope_for (mailboxes n ns) = Mailboxes

-- r is the number of the selector of each filter that is about this scope
abbrev pub Numbered : Scope → ℕ → Type 0
Numbered scope r = (f : Filter) → scope_for f ≡ scope → r ≡ selector_number f

-- r says of each filter that is about this scope whether a group may have it
abbrev pub Grouped : Scope → Bool → Type 0
Grouped scope r = (f : Filter) → scope_for f ≡ scope → r ≡ groupable f

abbrev pub read_filter : Parsed Filter → Option (FilterRead × ℕ)
read_filter bad = None
read_filter (ok p f) = Some (record { scope = scope_for f; names = length (names_of f) }, p)

-- a filter ends in the text; behind its word it has no more names than octets
pub record Bounded (s : List ℕ) (at n p : ℕ) : Type 0 where
  pub few : n + at < p
  pub inside : p ≤ length s

abbrev pub Within : List ℕ → ℕ → Option (FilterRead × ℕ) → Type 0
Within s at (Some (f, p)) = Bounded s at f.names p
Within s at None = Unit {0}

-- r is the answer x of the definitions
pub record ReadsFilter (s : List ℕ) (at : ℕ) (x r : Option (FilterRead × ℕ)) : Type 0 where
  pub exact : r ≡ x
  pub within : Within s at r

-- ---- by the filter's word
abbrev pub word_for : ScopeWord → Option Word
word_for (alone f) = Some (Alone (scope_for f))
word_for subtree_of = Some (Named Subtree)
word_for one_level_of = Some (Named SubtreeOne)
word_for mailboxes_of = Some (Named Mailboxes)
word_for unscoped = None

-- a filter whose word stands alone has no names
abbrev pub Plain : ScopeWord → Type 0
Plain (alone f) = names_of f ≡ []
Plain subtree_of = Unit {0}
Plain one_level_of = Unit {0}
Plain mailboxes_of = Unit {0}
Plain unscoped = Unit {0}

-- the filters that names make are about this scope, and have these names
pub record Bears (scope : Scope) (f : List ℕ → List (List ℕ) → Filter) : Type 0 where
  pub scoped : (n : List ℕ) (ns : List (List ℕ)) → scope_for (f n ns) ≡ scope
  pub named : (n : List ℕ) (ns : List (List ℕ)) → names_of (f n ns) ≡ n ∷ ns

-- behind a word the bounds are one octet wider: the word has none of its own here
pub record BoundedBehind (s : List ℕ) (at n p : ℕ) : Type 0 where
  pub few : n + at ≤ p
  pub inside : p ≤ length s

abbrev pub WithinBehind : List ℕ → ℕ → Option (FilterRead × ℕ) → Type 0
WithinBehind s at (Some (f, p)) = BoundedBehind s at f.names p
WithinBehind s at None = Unit {0}

-- r is the filter of this scope, whose names stand behind the position of its word's end
pub record ReadsNamed (s : List ℕ) (at : ℕ) (scope : Scope) (r : Option (FilterRead × ℕ)) : Type 0 where
  pub exact : (f : List ℕ → List (List ℕ) → Filter) → Bears scope f → r ≡ read_filter (named_by f s at)
  pub within : WithinBehind s at r

-- r is the filter of this word, whatever the definitions' word that it stands for
pub record ReadsBy (s : List ℕ) (at : ℕ) (word : Word) (r : Option (FilterRead × ℕ)) : Type 0 where
  pub exact : (x : ScopeWord) → Plain x → Some word ≡ word_for x → r ≡ read_filter (filter_by x s at)
  pub within : WithinBehind s at r
