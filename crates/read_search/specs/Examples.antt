-- Worked examples: how searches are answered. Assumes nothing.
use Rattle.std.specs.Prelude.{◌≡◌, refl, true, false}
use Prim.Native.String.{String}
use Rattle.model.specs.Lists.{same}
use Rattle.model.specs.Text.{octets}
use Rattle.model.specs.Limits.{limits, key_count, key_depth, some_test}
use Rattle.model.specs.Reading.{run_length, unquote, value_from, number_at, row_at, number_set_at, date_at}
use Rattle.model.specs.NotifyGrammar.{scope_of, filter_at}
use Rattle.model.specs.SearchGrammar.{keyword_of, start_at, key_at, returns_at, charset_at, search_at}
use Rattle.model.specs.declared.Reply.{Reply}
use Rattle.model.specs.declared.Reply.TheVariants.{Bad, Unsupported, BadCharset, TooLarge, Accepted}
use Rattle.read_keys.specs.Table.{code, parts_most}
use Rattle.read_search.specs.Searched.{read_search}
use Rattle.read_search.specs.Judged.{reply_by_read}

-- the reply to what stands behind ESEARCH, with a mailbox selected and with none
abbrev selected : String → Reply
selected t = reply_by_read limits true (read_search (search_at (octets t) 0))

abbrev unselected : String → Reply
unselected t = reply_by_read limits false (read_search (search_at (octets t) 0))

answered : (unselected "IN (personal mailboxes (a \"b c\")) RETURN (MIN COUNT) CHARSET utf-8 UNSEEN" ≡ Accepted)
    × (selected "ALL" ≡ Accepted)
    × (unselected "ALL" ≡ Bad)
    × (selected "IN (selected-delayed) ALL" ≡ Bad)
    × (unselected "IN (personal) RETURN (MIN MIN) ALL" ≡ Bad)
    × (unselected "IN (personal) CHARSET x ALL" ≡ BadCharset)
    × (selected "IN (inboxes inboxes inboxes inboxes inboxes inboxes inboxes inboxes inboxes) ALL" ≡ TooLarge)
unfolding search_at filter_at scope_of returns_at charset_at key_at start_at keyword_of number_set_at row_at number_at date_at run_length unquote value_from same key_count key_depth some_test code parts_most
answered = (refl, refl, refl, refl, refl, refl, refl)

-- a key that is not supported is told before a charset that is not known
unsupported_first : unselected "IN (personal) CHARSET x OLD" ≡ Unsupported
unfolding search_at filter_at scope_of returns_at charset_at key_at start_at keyword_of number_set_at row_at number_at date_at run_length unquote value_from same key_count key_depth some_test code parts_most
unsupported_first = refl
