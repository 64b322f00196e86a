-- Worked examples: what the definitions say of a few lines. Assumes nothing.
use Rattle.std.specs.Prelude.{◌≡◌, refl, Some, None, ℕ, get_or}
use Rattle.std.specs.Option.{option_map}
use Rattle.model.specs.Text.{octets}
use Rattle.model.specs.Lists.{same}
use Rattle.model.specs.Names.{no_part_empty}
use Rattle.model.specs.Reading.{run_length, unquote, row_at}
use Rattle.model.specs.Memory.{no_name}
use Rattle.model.specs.NotifyGrammar.{scope_of, filter_at}
use Rattle.model.specs.Listing.{lend_name}
use Rattle.read_filters.specs.Scopes.{read_filter}
use Rattle.read_filters.specs.Keeping.{nothing_kept, kept_filter}
use Rattle.read_filters.specs.declared.Scope.TheVariants.{Delayed, Mailboxes}
use Rattle.read_filters.specs.declared.Kept.{Kept}

-- two names, one of them in quotes
two_names : read_filter (filter_at (octets "mailboxes (a \"b\") x") 0) ≡ Some (record { scope = Mailboxes; names = 2 }, 17)
unfolding filter_at scope_of run_length unquote row_at same
two_names = refl

-- a word in another case that stands alone
no_names : read_filter (filter_at (octets "(Selected-Delayed (") 1) ≡ Some (record { scope = Delayed; names = 0 }, 17)
unfolding filter_at scope_of run_length unquote row_at same
no_names = refl

-- a list has one name at least
empty_list : read_filter (filter_at (octets "mailboxes ()") 0) ≡ None
unfolding filter_at scope_of run_length unquote row_at same
empty_list = refl

-- the second of two names, as a mailbox would have it
second_name : option_map (λ (r : Kept × ℕ). get_or r.0.names 1 no_name) (kept_filter nothing_kept (filter_at (octets "subtree (a iNbOx)") 0)) ≡ Some (lend_name (octets "INBOX"))
unfolding filter_at scope_of run_length unquote row_at same no_part_empty
second_name = refl
