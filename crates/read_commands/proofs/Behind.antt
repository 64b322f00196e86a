-- Behind NOTIFY stands no search, and behind ESEARCH nothing else. Assumes nothing.
use mathlib.Core.Bool.{Bool, true, false}
use mathlib.Core.List.{List, []}
use Prim.Native.Nat.{ℕ, ◌+◌}
use Rattle.model.specs.Octets.{atom_octet}
use Rattle.model.specs.Requests.{Filter, Charset, none, Keys, Asked, Command, notify_none, notify_set, search}
use Rattle.model.specs.Reading.{Parsed, bad, ok, and_then, after_by, stands, end_of, word_at, list_at}
use Rattle.model.specs.NotifyGrammar.{filter_at, groups_at, set_by, Form, cancel, replace, formless, form_at, notify_by, notify_at}
use Rattle.model.specs.SearchGrammar.{Return, returns_at, charset_at, option_at, program_at, search_for, search_at}

-- ---- NOTIFY
abbrev pub NotSearch : Parsed Command → Type 0
NotSearch bad = Unit {0}
NotSearch (ok p notify_none) = Unit {0}
NotSearch (ok p (notify_set status gs)) = Unit {0}
NotSearch (ok p (search q)) = ⊥

by_groups : (status : Bool) (x : Parsed (List Asked)) → NotSearch (and_then x (λ r gs. ok r (notify_set status gs)))
by_groups status bad = tt
by_groups status (ok r gs) = tt

by_blank : (s : List ℕ) (p : ℕ) (b : Bool) → NotSearch (after_by b p (λ q. and_then (groups_at s q) (λ r gs. ok r (notify_set true gs))))
by_blank s p true = by_groups true (groups_at s p)
by_blank s p false = tt

by-status : (s : List ℕ) (p : ℕ) (b : Bool) → NotSearch (set_by b s p)
by-status s p true = by_blank s (end_of atom_octet s p + 1) (stands s (end_of atom_octet s p) " ")
by-status s p false = by_groups false (groups_at s p)

by-set : (s : List ℕ) (p : ℕ) (b : Bool) → NotSearch (after_by b p (λ q. set_by (word_at s q "STATUS") s q))
by-set s p true = by-status s p (word_at s p "STATUS")
by-set s p false = tt

by_form : (s : List ℕ) (p : ℕ) (f : Form) → NotSearch (notify_by f s p)
by_form s p cancel = tt
by_form s p replace = by-set s (p + 1) (stands s p " ")
by_form s p formless = tt

pub not-search : (s : List ℕ) (p : ℕ) → NotSearch (notify_at s p)
unfolding notify_at
not-search s p = by_form s (end_of atom_octet s p) (form_at s p)

-- ---- ESEARCH
abbrev pub OnlySearch : Parsed Command → Type 0
OnlySearch bad = Unit {0}
OnlySearch (ok p notify_none) = ⊥
OnlySearch (ok p (notify_set status gs)) = ⊥
OnlySearch (ok p (search q)) = Unit {0}

module _ (s : List ℕ) where
  by-keys : (fs : List Filter) (rs : List Return) (c : Charset) (x : Parsed Keys) → OnlySearch (and_then x (λ e ks. ok e (search (search_for fs rs c ks))))
  by-keys fs rs c bad = tt
  by-keys fs rs c (ok e ks) = tt

  by-charset : (fs : List Filter) (rs : List Return) (x : Parsed Charset) → OnlySearch (and_then x (λ t c. and_then (program_at s t) (λ e ks. ok e (search (search_for fs rs c ks)))))
  by-charset fs rs bad = tt
  by-charset fs rs (ok t c) = by-keys fs rs c (program_at s t)

  by_returns : (fs : List Filter) (x : Parsed (List Return)) → OnlySearch (and_then x (λ r rs. and_then (option_at "CHARSET" (charset_at s) none s r) (λ t c. and_then (program_at s t) (λ e ks. ok e (search (search_for fs rs c ks))))))
  by_returns fs bad = tt
  by_returns fs (ok r rs) = by-charset fs rs (option_at "CHARSET" (charset_at s) none s r)

  by-sources : (x : Parsed (List Filter)) → OnlySearch (and_then x (λ q fs. and_then (option_at "RETURN" (returns_at s) [] s q) (λ r rs. and_then (option_at "CHARSET" (charset_at s) none s r) (λ t c. and_then (program_at s t) (λ e ks. ok e (search (search_for fs rs c ks)))))))
  by-sources bad = tt
  by-sources (ok q fs) = by_returns fs (option_at "RETURN" (returns_at s) [] s q)

  pub only-search : (at : ℕ) → OnlySearch (search_at s at)
  unfolding search_at
  only-search at = by-sources (option_at "IN" (list_at (filter_at s) s) [] s at)
