-- A line as a whole, case by case, over plain values: what the code answers is what the definitions say. Assumes nothing.
use Rattle.std.proofs.Common.{◌≡◌, ℕ, ◌+◌, length, get_or, Option, Some, None, Bool, true, false, cond, List, refl, sym, ap, ◌⊎◌, inl, inr, eqb, eq-eqb}
use Rattle.model.specs.Requests.{Verb as Word, notify, esearch, other_verb, Command, notify_none, notify_set, search}
use Rattle.model.specs.Reading.{Parsed, bad, ok, and_then, after_by, stands, atom_at}
use Rattle.model.specs.NotifyGrammar.{notify_at}
use Rattle.model.specs.SearchGrammar.{search_at}
use Rattle.model.specs.Commands.{tag_end, tagged, verb_at, command_by, command_of}
use Rattle.model.specs.declared.Limits.{Limits}
use Rattle.model.specs.declared.Session.{Session}
use Rattle.read_options.specs.Heads.{verb_of, read_verb}
use Rattle.read_options.specs.declared.Verb.{Verb}
use Rattle.read_options.specs.declared.Verb.TheVariants.{Notify, Esearch, Other}
use Rattle.read_notify.specs.Readings.{read_notify, Keeps}
use Rattle.read_notify.specs.Ladder.{reply_by-tally}
use Rattle.read_notify.specs.Watched.{watched_by}
use Rattle.read_notify.specs.declared.Notify.{Notify as Asking}
use Rattle.read_notify.specs.declared.Tally.{Tally}
use Rattle.read_notify.specs.Tallies.{tally_of}
use Rattle.read_search.specs.Searched.{read_search, Cells}
use Rattle.read_search.proofs.Replying.{reply_same}
use Rattle.read_commands.specs.Judging.{answer_of, judged_of, whole, whole_by, word_of, judged_by, notified, searched, Heads}
use Rattle.read_commands.proofs.Behind.{NotSearch, not-search, OnlySearch, only-search}

abbrev spaced : List ℕ → Bool → (ℕ → Parsed Command) → ℕ → Parsed Command
spaced s b f p = whole s (after_by b (p + 1) f)

-- ---- the answer
notify-said : (l : Limits) (sel : Bool) (x : Parsed Command) → NotSearch x → notified l (read_notify x) ≡ judged_of l sel x
notify-said l sel bad h = refl
notify-said l sel (ok p notify_none) h = refl
notify-said l sel (ok p (notify_set status gs)) h = ap (answer_of Notify) (reply_by-tally l sel p status gs)
notify-said l sel (ok p (search q)) h = absurd h

not_by : (p : ℕ) (c : Command) (t : Bool) → NotSearch (ok p c) → NotSearch (cond t (ok p c) bad)
not_by p c true h = h
not_by p c false h = tt

not_whole : (s : List ℕ) (x : Parsed Command) → NotSearch x → NotSearch (whole s x)
not_whole s bad h = tt
not_whole s (ok p c) h = not_by p c (eqb p (length s)) h

not-spaced : (s : List ℕ) (at : ℕ) (t : Bool) → NotSearch (spaced s t (λ q. notify_at s q) at)
not-spaced s at true = not_whole s (notify_at s (at + 1)) (not-search s (at + 1))
not-spaced s at false = tt

pub notify_is : (l : Limits) (sel : Bool) (s : List ℕ) (at : ℕ) → notified l (read_notify (whole_by notify s at)) ≡ judged_of l sel (whole_by notify s at)
notify_is l sel s at = notify-said l sel (whole_by notify s at) (not-spaced s at (stands s at " "))

no_cells : (b b' : List ℕ) (x : Parsed Command) → NotSearch x → Cells b b' x
no_cells b b' bad h = tt
no_cells b b' (ok p notify_none) h = tt
no_cells b b' (ok p (notify_set status gs)) h = tt
no_cells b b' (ok p (search q)) h = absurd h

pub notify_cells : (b b' s : List ℕ) (at : ℕ) → Cells b b' (whole_by notify s at)
notify_cells b b' s at = no_cells b b' (whole_by notify s at) (not-spaced s at (stands s at " "))

search-said : (l : Limits) (sel : Bool) (x : Parsed Command) → OnlySearch x → searched l sel (read_search x) ≡ judged_of l sel x
search-said l sel bad h = refl
search-said l sel (ok p notify_none) h = absurd h
search-said l sel (ok p (notify_set status gs)) h = absurd h
search-said l sel (ok p (search q)) h = ap (answer_of Esearch) (reply_same l sel q p)

only_by : (p : ℕ) (c : Command) (t : Bool) → OnlySearch (ok p c) → OnlySearch (cond t (ok p c) bad)
only_by p c true h = h
only_by p c false h = tt

only_whole : (s : List ℕ) (x : Parsed Command) → OnlySearch x → OnlySearch (whole s x)
only_whole s bad h = tt
only_whole s (ok p c) h = only_by p c (eqb p (length s)) h

only-spaced : (s : List ℕ) (at : ℕ) (t : Bool) → OnlySearch (spaced s t (λ q. search_at s q) at)
only-spaced s at true = only_whole s (search_at s (at + 1)) (only-search s (at + 1))
only-spaced s at false = tt

pub search_is : (l : Limits) (sel : Bool) (s : List ℕ) (at : ℕ) → searched l sel (read_search (whole_by esearch s at)) ≡ judged_of l sel (whole_by esearch s at)
search_is l sel s at = search-said l sel (whole_by esearch s at) (only-spaced s at (stands s at " "))

-- ---- the verb
word_back : (w : Word) → word_of (verb_of w) ≡ w
word_back notify = refl
word_back esearch = refl
word_back other_verb = refl

abbrev ByAtom : List ℕ → Parsed (List ℕ) → Parsed Command
ByAtom s x = whole s (and_then x (λ q w. command_by (verb_at w) s q))

-- by the verb that was read, or none
abbrev by_verb : List ℕ → Option (Verb × ℕ) → Parsed Command
by_verb s (Some (v, at)) = judged_by v s at
by_verb s None = bad

verb_by : (s : List ℕ) (x : Parsed (List ℕ)) → by_verb s (read_verb x) ≡ ByAtom s x
verb_by s bad = refl
verb_by s (ok p w) = rw (word_back (verb_at w))

heads_as : (s : List ℕ) (r : Option (Verb × ℕ)) → by_verb s r ≡ command_of s → Heads s r
heads_as s (Some (v, at)) e = e
heads_as s None e = e

module _ (s : List ℕ) where
  pub no_tag : tagged s ≡ false → bad ≡ command_of s
  unfolding command_of
  no_tag e = rw e

  pub heads_by : (end : ℕ) → end ≡ tag_end s → tagged s ≡ true → (r : Option (Verb × ℕ)) → r ≡ read_verb (atom_at s (end + 1)) → Heads s r
  unfolding command_of
  heads_by end e t r f = heads_as s r (rw (t, f, e) (verb_by s (atom_at s (tag_end s + 1))))

-- ---- what is kept of a NOTIFY
-- what was read is a command that ends there
placed : (x : Parsed Command) {r : Option (Bool × Tally)} {p : ℕ} → Some (r, p) ≡ read_notify x → (c : Command) × (x ≡ ok p c)
placed bad e = cc
placed (ok q notify_none) {r} {p} e =
    let i : ◌≡◌ {A = Option (Bool × Tally) × ℕ} (r, p) (None, q) = cc in
    (notify_none, ap (λ (x : Option (Bool × Tally) × ℕ). ok x.1 notify_none) (sym i))
placed (ok q (notify_set status gs)) {r} {p} e =
    let i : ◌≡◌ {A = Option (Bool × Tally) × ℕ} (r, p) (Some (status, tally_of gs), q) = cc in
    (notify_set status gs, ap (λ (x : Option (Bool × Tally) × ℕ). ok x.1 (notify_set status gs)) (sym i))
placed (ok q (search k)) e = cc

whole-same : (s : List ℕ) (x : Parsed Command) {r : Option (Bool × Tally)} {p : ℕ} → Some (r, p) ≡ read_notify x → p ≡ length s → whole s x ≡ x
whole-same s x {r} {p} h e = let c = placed x h in rw (c.1, eq-eqb p (length s) e)

pub keeps_whole : (s : List ℕ) (at : ℕ) {n : Asking} {p : ℕ} → get_or s at 0 ≡ 32 → p ≡ length s → Keeps (notify_at s (at + 1)) (Some (n, p)) → Keeps (whole_by notify s at) (Some (n, p))
keeps_whole s at h e k = rw (eq-eqb (get_or s at 0) 32 h) (rw (whole-same s (notify_at s (at + 1)) k.exact e) k)

-- ---- the session
search_watched : (z : Session) (x : Parsed Command) → OnlySearch x → z ≡ watched_by x z
search_watched z bad h = refl
search_watched z (ok p notify_none) h = absurd h
search_watched z (ok p (notify_set status gs)) h = absurd h
search_watched z (ok p (search q)) h = refl

-- no other command than NOTIFY sets one
pub left_watched : (z : Session) (s : List ℕ) (at : ℕ) {v : Verb} → (v ≡ Esearch) ⊎ (v ≡ Other) → z ≡ watched_by (judged_by v s at) z
left_watched z s at (inl e) = rw e (search_watched z (whole_by esearch s at) (only-spaced s at (stands s at " ")))
left_watched z s at (inr e) = rw e
