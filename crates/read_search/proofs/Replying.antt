-- The reply by what the code knows of a search is the reply of the definitions. Assumes nothing.
use mathlib.Core.Path.{◌≡◌, refl, ap, ◌∙◌}
use mathlib.Core.Bool.{Bool, cond, not, ◌&&◌, ◌||◌}
use mathlib.Core.List.{List, [], ◌∷◌}
use Prim.Native.Nat.{ℕ, suc}
use native.Mathlib.Omega.{arith}
use lib.Dec.{eqb, ltb}
use lib.ListN.{length}
use borrow.Author.Tests.{ne_eqb}
use Rattle.model.specs.Lists.{anyb}
use Rattle.model.specs.Requests.{Filter, of_selected, Charset, Keys, Search, Command, notify_none, notify_set, search}
use Rattle.model.specs.Limits.{some_tests, too_many_filters, keys_count, keys_depth}
use Rattle.model.specs.Replies.{is_delayed, needs_selected, unsupported_test, unknown_charset, reply_of}
use Rattle.model.specs.Reading.{Parsed, bad, ok, and_then}
use Rattle.model.specs.SearchGrammar.{Return, program_at, search_for, search_at}
use Rattle.model.specs.declared.Limits.{Limits}
use Rattle.model.specs.declared.Reply.{Reply}
use Rattle.model.specs.declared.Reply.TheVariants.{Bad, Unsupported, BadCharset, TooLarge, Accepted}
use Rattle.read_keys.specs.Table.{parts_mosts}
use Rattle.read_keys.proofs.Most.{most_parts}
use Rattle.read_search.specs.Parts.{in_at, return_at, charset_part_at}
use Rattle.read_search.specs.Searched.{asked_of, read_search}
use Rattle.read_search.specs.Judged.{reply_by_asked, reply_by_read}

-- ---- the selected mailbox

needs-selected : (fs : List Filter) → (eqb (length fs) 0 || anyb of_selected fs) ≡ needs_selected fs
needs-selected [] = refl
needs-selected (f ∷ fs) = rw (ne_eqb (suc (length fs)) 0 (λ e. omega arith))

-- ---- the reply

-- by its tests; `need` and `large` are those that the two sides write differently
abbrev ladder : Bool → Bool → Bool → Bool → Bool → Bool → Bool → Bool → Reply
ladder sel delayed need unsupported unknown filters counts parts =
    cond (delayed || (not sel && need)) Bad
    (cond unsupported Unsupported (cond unknown BadCharset (cond (filters || (counts || parts)) TooLarge Accepted)))

pub reply_same : (l : Limits) (sel : Bool) (q : Search) (p : ℕ) → reply_by_asked l sel (asked_of q) ≡ reply_of l sel (ok p (search q))
reply_same l sel q p =
    ap (λ (b : Bool). ladder sel (anyb is_delayed q.sources) b (some_tests unsupported_test q.keys) (unknown_charset q.charset) (too_many_filters l q.sources) (ltb l.keys (keys_count q.keys) || ltb l.depth (keys_depth q.keys)) (ltb l.parts (parts_mosts q.keys))) (needs-selected q.sources)
    ∙ ap (λ (b : Bool). ladder sel (anyb is_delayed q.sources) (needs_selected q.sources) (some_tests unsupported_test q.keys) (unknown_charset q.charset) (too_many_filters l q.sources) (ltb l.keys (keys_count q.keys) || ltb l.depth (keys_depth q.keys)) b) (most_parts l q.keys)

-- ---- no other command stands behind ESEARCH

abbrev OnlySearch : Parsed Command → Type 0
OnlySearch bad = Unit {0}
OnlySearch (ok p notify_none) = ⊥
OnlySearch (ok p (notify_set status gs)) = ⊥
OnlySearch (ok p (search q)) = Unit {0}

by-keys : (fs : List Filter) (rs : List Return) (c : Charset) (x : Parsed Keys) → OnlySearch (and_then x (λ e ks. ok e (search (search_for fs rs c ks))))
by-keys fs rs c bad = tt
by-keys fs rs c (ok e ks) = tt

by-charset : (s : List ℕ) (fs : List Filter) (rs : List Return) (x : Parsed Charset) → OnlySearch (and_then x (λ t c. and_then (program_at s t) (λ e ks. ok e (search (search_for fs rs c ks)))))
by-charset s fs rs bad = tt
by-charset s fs rs (ok t c) = by-keys fs rs c (program_at s t)

by_returns : (s : List ℕ) (fs : List Filter) (x : Parsed (List Return)) → OnlySearch (and_then x (λ r rs. and_then (charset_part_at s r) (λ t c. and_then (program_at s t) (λ e ks. ok e (search (search_for fs rs c ks))))))
by_returns s fs bad = tt
by_returns s fs (ok r rs) = by-charset s fs rs (charset_part_at s r)

by-sources : (s : List ℕ) (x : Parsed (List Filter)) → OnlySearch (and_then x (λ q fs. and_then (return_at s q) (λ r rs. and_then (charset_part_at s r) (λ t c. and_then (program_at s t) (λ e ks. ok e (search (search_for fs rs c ks)))))))
by-sources s bad = tt
by-sources s (ok q fs) = by_returns s fs (return_at s q)

only-search : (s : List ℕ) (at : ℕ) → OnlySearch (search_at s at)
unfolding search_at
only-search s at = by-sources s (in_at s at)

reply_by_lem : (l : Limits) (sel : Bool) (x : Parsed Command) → OnlySearch x → reply_by_read l sel (read_search x) ≡ reply_of l sel x
reply_by_lem l sel bad h = refl
reply_by_lem l sel (ok p notify_none) h = absurd h
reply_by_lem l sel (ok p (notify_set status gs)) h = absurd h
reply_by_lem l sel (ok p (search q)) h = reply_same l sel q p

-- the reply by what was read is the reply to the line
pub reply_read : (l : Limits) (sel : Bool) (s : List ℕ) (at : ℕ) → reply_by_read l sel (read_search (search_at s at)) ≡ reply_of l sel (search_at s at)
reply_read l sel s at = reply_by_lem l sel (search_at s at) (only-search s at)
