-- Where the client has all messages of the view and none of them waits, the end of a command leaves all as it is. Assumes nothing.
use Rattle.std.specs.Prelude.{◌≡◌, refl, Bool, true, false, not, cond, ◌&&◌, ◌||◌, ℕ, ◌*◌, ◌-◌, ◌≤◌, eqb, ltb, length, take}
use Rattle.std.specs.List.{list_any}
use Rattle.std.proofs.Math.Path.{ap}
use Rattle.std.proofs.Common.{sym, ◌∙◌, eqb-true}
use mathlib.Core.List.{List, [], ◌∷◌, map}
use Rattle.std.proofs.lemmas.Bool.{not-false}
use Rattle.model.specs.Laws.{or_l, or_r, and_false}
use Rattle.model.specs.Lists.{anyb, filterb, keep, insert, sorted}
use Rattle.model.specs.Text.{bit}
use Rattle.model.specs.Memory.{uid_of, expunged, marked, in_mailbox, by_uid, messages_of}
use Rattle.model.specs.declared.Message.{Message}
use Rattle.model.specs.declared.Session.{Session}
use Rattle.table_messages.specs.Words.{messages}
use Rattle.table_messages.specs.Laid.{laid_own}
use Rattle.table_sweep.specs.Swept.{unsettled}
use Rattle.order_messages.specs.Counts.{fresh}
use Rattle.event_view.specs.Saying.{State, more, part, start, step_e, run_e, step_m, run_m, say_exists, first_part}
use Rattle.event_session.specs.After.{told_to}
use Rattle.event_view.specs.Speaking.{first, second, third, Speaks}
use Rattle.event_session.specs.Ending.{Leaves, end_after, end_rest, leaves_none, leaves_some}
use Rattle.event_view.specs.declared.Spoken.{Spoken}

-- the client does not have it yet, or it is expunged or marked
abbrev pub waits : ℕ → Message → Bool
waits told e = not (ltb (uid_of e) told) || not (eqb e.states 0)

-- and is of the mailbox
abbrev pub owes : ℕ → ℕ → Message → Bool
owes id told e = in_mailbox id e && waits told e

-- of entries that are read one by one
pub any_among : {B : Type 0} (p : Message → Bool) (f : B → Message) (xs : List B) → list_any (λ x. p (f x)) xs ≡ anyb p (map f xs)
any_among p f [] = refl
any_among p f (x ∷ xs) = ap (λ b. p (f x) || b) (any_among p f xs)

-- ---- none of the table, none of the view
none-filter : (id told : ℕ) (l : List Message) → anyb (owes id told) l ≡ false → anyb (waits told) (filterb (in_mailbox id) l) ≡ false
none-filter id told [] h = refl
none-filter id told (x ∷ l) h = go (in_mailbox id x) (or_l (owes id told x) (anyb (owes id told) l) h) (none-filter id told l (or_r (owes id told x) (anyb (owes id told) l) h))
  where
    go : (b : Bool) → (b && waits told x) ≡ false → anyb (waits told) (filterb (in_mailbox id) l) ≡ false → anyb (waits told) (keep b x (filterb (in_mailbox id) l)) ≡ false
    go true e r = rw e r
    go false e r = r

none-insert : (told : ℕ) (x : Message) (l : List Message) → waits told x ≡ false → anyb (waits told) l ≡ false → anyb (waits told) (insert by_uid x l) ≡ false
none-insert told x [] e h = rw e
none-insert told x (y ∷ l) e h = go (by_uid x y) (none-insert told x l e (or_r (waits told y) (anyb (waits told) l) h))
  where
    go : (b : Bool) → anyb (waits told) (insert by_uid x l) ≡ false → anyb (waits told) (cond b (x ∷ y ∷ l) (y ∷ insert by_uid x l)) ≡ false
    go true r = rw e h
    go false r = rw (or_l (waits told y) (anyb (waits told) l) h) r

none-sorted : (told : ℕ) (l : List Message) → anyb (waits told) l ≡ false → anyb (waits told) (sorted by_uid l) ≡ false
none-sorted told [] h = refl
none-sorted told (x ∷ l) h = none-insert told x (sorted by_uid l) (or_l (waits told x) (anyb (waits told) l) h) (none-sorted told l (or_r (waits told x) (anyb (waits told) l) h))

-- ---- no line for such messages
module _ (told : ℕ) (e : Message) (h : waits told e ≡ false) where
  seen : ltb (uid_of e) told ≡ true
  seen = not-false (ltb (uid_of e) told) (or_l (not (ltb (uid_of e) told)) (not (eqb e.states 0)) h)

  rests : e.states ≡ 0
  rests = eqb-true e.states 0 (not-false (eqb e.states 0) (or_r (not (ltb (uid_of e) told)) (not (eqb e.states 0)) h))

  stands : expunged e ≡ false
  stands = ap (bit 0) rests

  unmarked : marked e ≡ false
  unmarked = ap (bit 1) rests

module _ (told lim : ℕ) where
  none_fresh : (l : List Message) → anyb (waits told) l ≡ false → filterb (fresh told) l ≡ []
  none_fresh [] h = refl
  none_fresh (e ∷ l) h = rw (seen told e (or_l (waits told e) (anyb (waits told) l) h)) (none_fresh l (or_r (waits told e) (anyb (waits told) l) h))

  none-expunges : (l : List Message) (s : State) → anyb (waits told) l ≡ false → (part (run_e told lim l s) ≡ part s) × ((run_e told lim l s).bound ≡ s.bound)
  unfolding run_e part more
  none-expunges [] s h = (refl, refl)
  none-expunges (e ∷ l) s h =
      let w = or_l (waits told e) (anyb (waits told) l) h in
      let z : step_e told lim e s ≡ more s = rw (seen told e w, stands told e w) in
      let r = none-expunges l (more s) (or_r (waits told e) (anyb (waits told) l) h) in
      (ap (λ (x : State). part (run_e told lim l x)) z ∙ r.0, ap (λ (x : State). (run_e told lim l x).bound) z ∙ r.1)

  none_first : (c : Bool) (l : List Message) (s : State) → anyb (waits told) l ≡ false → (part (first_part told c lim l s) ≡ part s) × ((first_part told c lim l s).bound ≡ s.bound)
  none_first true l s h = none-expunges l s h
  none_first false l s h = (refl, refl)

  none_marks : (c : Bool) (l : List Message) (s : State) → anyb (waits told) l ≡ false → (part (run_m told c lim l s) ≡ part s) × ((run_m told c lim l s).bound ≡ s.bound)
  unfolding run_m part more
  none_marks c [] s h = (refl, refl)
  none_marks c (e ∷ l) s h =
      let w = or_l (waits told e) (anyb (waits told) l) h in
      let z : step_m told c lim e s ≡ more s = rw (seen told e w, stands told e w, unmarked told e w, and_false c) in
      let r = none_marks c l (more s) (or_r (waits told e) (anyb (waits told) l) h) in
      (ap (λ (x : State). part (run_m told c lim l x)) z ∙ r.0, ap (λ (x : State). (run_m told c lim l x).bound) z ∙ r.1)

-- nothing is said
abbrev silent : ℕ → Spoken
silent at = record { end = at; rest = 0; gone = record { 0 = 0 }; news = false; shown = record { 0 = 0 } }

silence : (told : ℕ) (c : Bool) (lim : ℕ) (l : List Message) (q : List ℕ) (at : ℕ) → anyb (waits told) l ≡ false → Speaks told c lim l q at q (silent at)
unfolding first second third say_exists part
silence told c lim l q at h =
    let f = none_first told lim c l (start q at) h in
    let n : length (filterb (fresh told) l) ≡ 0 = ap length (none_fresh told lim l h) in
    let s : second told c lim l q at ≡ start q at = rw n f.0 in
    let t = none_marks told lim c l (part (second told c lim l q at)) h in
    let p : part (third told c lim l q at) ≡ start q at = t.0 ∙ ap part s in
    record {
      queue = sym (ap (λ (x : State). x.queue) p);
      end = sym (ap (λ (x : State). x.end) p);
      rest = sym (ap (λ (x : State). x.rest) p);
      gone = sym f.1;
      news = sym (ap (λ (x : State). eqb x.bound 1) s);
      shown = sym t.1;
    }

-- ---- the end of a command, where no entry of the mailbox is owed a line
module _ (ws : List ℕ) (used : ℕ) (q : List ℕ) (s : Session) (at : ℕ) (c : Bool) (next : ℕ) (h : used * 6 ≤ length ws) (none : anyb (owes s.selected s.told) (take used (messages ws)) ≡ false) where
  view : anyb (waits s.told) (messages_of s.selected (take used (messages ws))) ≡ false
  view = none-sorted s.told (filterb (in_mailbox s.selected) (take used (messages ws))) (none-filter s.selected s.told (take used (messages ws)) none)

  pub leaves_all : (b : Bool) → Leaves (end_after (messages ws) used q s at c b next) (end_rest (messages ws) used q s at c b) ws ws q (record { session = s; used = used; filled = at; rest = 0 })
  leaves_all true =
      leaves_some (messages ws) used q s at c next (messages_of s.selected (take used (messages ws))) refl q (silent at)
      (silence s.told c (length q - 64) (messages_of s.selected (take used (messages ws))) q at view)
      ws ws used (unsettled (told_to s.selected 0 0) ws used h refl) s refl
  leaves_all false = leaves_none (messages ws) used q s at c next ws (laid_own ws)
