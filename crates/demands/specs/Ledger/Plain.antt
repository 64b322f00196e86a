-- One taken call that leaves the selected mailbox alone: its lines end nothing, and its change waits for nothing. Assumes nothing.
use Rattle.std.specs.Prelude.{◌≡◌, refl, List, [], ◌∷◌, map, Bool, true, false, not, ◌&&◌, ℕ, suc, eqb, ltb, length}
use Rattle.std.proofs.Common.{sym, ◌∙◌, ap, subst}
use Rattle.model.specs.Lists.{anyb, filterb, when}
use Rattle.model.specs.Laws.{tf, and-true}
use Rattle.model.specs.Records.{Record}
use Rattle.model.specs.Memory.{Memory, mails, is_message}
use Rattle.model.specs.Lines.{Line, status, list, renamed, exists, expunge, fetch, found as found_line, overflow, answer, render_all}
use Rattle.model.specs.Queue.{enqueue, effect, effects, say}
use Rattle.model.specs.Events.{Event, silence}
use Rattle.model.specs.Rules.{rested, event_outcome}
use Rattle.model.specs.Fates.{arrival, removal, marking, Fate, reported, is_exists, is_removal, is_marking, is_notice, Why, announces, removes, fetches, stops, answers, other, saying}
use Rattle.model.specs.Seen.{apparent}
use Rattle.model.specs.Due.{Account, Due, nothing, at_once, later, notice, unless, due, arrivals}
use Rattle.model.specs.Account.{due_lines, overflowed, kept_by, owed_now}
use Rattle.demands.specs.Ledger.Each.{All, none, also, all_to}
use Rattle.demands.specs.Ledger.Entries.{present, state_of, state-kept, present-kept}
use Rattle.demands.specs.Ledger.Books.{Books}
use Rattle.model.specs.declared.Message.{Message}
use Rattle.demands.specs.Ledger.Steps.{page, turned, same_books, Unending, Unwaiting, Step, once, Turn, simple, fate_now, FairLine, Fair, told-step}

-- ---- lines that end nothing
abbrev pub inert : Line → Bool
inert l = elim (saying l) [ announces ↦ false | removes u ↦ false | fetches u b ↦ false | stops ↦ true | answers b ↦ true | other b ↦ true ]

abbrev pub Inert : List Line → Type 0
Inert ls = All (λ (l : Line). inert l ≡ true) ls

-- a line that is no notice is one of them
pub aside_inert : (l : Line) → is_notice l ≡ false → inert l ≡ true
aside_inert (status n is) h = refl
aside_inert (list k n) h = refl
aside_inert (renamed k new old) h = refl
aside_inert (exists n) h = tf true refl h
aside_inert (expunge n v) h = tf true refl h
aside_inert (fetch n v is) h = tf true refl h
aside_inert (found_line t n v rs) h = refl
aside_inert overflow h = refl
aside_inert (answer t v r) h = refl

pub inert_one : (m : Memory) (l : Line) → inert l ≡ true → (effect m l ≡ m) × (((u : ℕ) → is_removal u l ≡ false) × (((u : ℕ) → is_marking u l ≡ false) × (is_exists l ≡ false)))
inert_one m (status n is) h = (refl, ((λ v. refl), ((λ v. refl), refl)))
inert_one m (list k n) h = (refl, ((λ v. refl), ((λ v. refl), refl)))
inert_one m (renamed k new old) h = (refl, ((λ v. refl), ((λ v. refl), refl)))
inert_one m (exists n) h = tf false h refl
inert_one m (expunge n v) h = tf false h refl
inert_one m (fetch n v is) h = tf false h refl
inert_one m (found_line t n w rs) h = (refl, ((λ v. refl), ((λ v. refl), refl)))
inert_one m overflow h = (refl, ((λ v. refl), ((λ v. refl), refl)))
inert_one m (answer t w r) h = (refl, ((λ v. refl), ((λ v. refl), refl)))

pub inert-effects : (m : Memory) {ls : List Line} → Inert ls → effects m ls ≡ m
unfolding effects
inert-effects m none = refl
inert-effects m (also {x = l} {l = ls} p h) = ap (λ (k : Memory). effects k ls) (inert_one m l p).0 ∙ inert-effects m h

pub inert_removal : (m : Memory) (u : ℕ) {ls : List Line} → Inert ls → anyb (is_removal u) ls ≡ false
inert_removal m u none = refl
inert_removal m u (also {x = l} p h) = rw ((inert_one m l p).1.0 u) (inert_removal m u h)

pub inert_marking : (m : Memory) (u : ℕ) {ls : List Line} → Inert ls → anyb (is_marking u) ls ≡ false
inert_marking m u none = refl
inert_marking m u (also {x = l} p h) = rw ((inert_one m l p).1.1.0 u) (inert_marking m u h)

pub inert-exists : (m : Memory) {ls : List Line} → Inert ls → anyb is_exists ls ≡ false
inert-exists m none = refl
inert-exists m (also {x = l} p h) = rw (inert_one m l p).1.1.1 (inert-exists m h)

-- nothing of the selected mailbox changes but by other mailboxes' records
pub plain_turn : (m n w : Memory) (r : Record) (ls : List Line) (f : Fate) → n.session.selected ≡ m.session.selected → n.session.told ≡ m.session.told
    → ((u : ℕ) → state_of m.session.selected u (mails n) ≡ state_of m.session.selected u (mails m))
    → ((u : ℕ) → present m.session.selected u (mails n) ≡ present m.session.selected u (mails m))
    → Inert ls → Unending w r → Unwaiting f → Turn m n w r ls f
plain_turn m n w r ls f s t e p h d q = record {
  removals = λ u. rw (d (removal u), q (removal u), inert_removal m u h, s, e u)
      (simple (eqb (state_of m.session.selected u (mails m)) 1) false ∙ and-true (eqb (state_of m.session.selected u (mails m)) 1));
  markings = λ u. rw (d (marking u), q (marking u), inert_marking m u h, s, e u)
      (simple (eqb (state_of m.session.selected u (mails m)) 2) false ∙ and-true (eqb (state_of m.session.selected u (mails m)) 2));
  arrivals = λ u. rw (d (arrival u), q (arrival u), inert-exists m h, s, t, p u)
      (simple (present m.session.selected u (mails m) && not (ltb u m.session.told)) false ∙ and-true (present m.session.selected u (mails m) && not (ltb u m.session.told)));
}

-- ---- events that only mailboxes and other mailboxes' messages know of
abbrev pub PlainLine : Line → Type 0
PlainLine l = FairLine l × (inert l ≡ true)

abbrev pub Plain : Due → Type 0
Plain (nothing y) = Unit {0}
Plain (at_once ls) = All PlainLine ls
Plain (later d) = ⊥

pub plain_fair : (d : Due) → Plain d → Fair d
plain_fair (nothing y) p = tt
plain_fair (at_once ls) p = all_to (λ l q. q.0) p
plain_fair (later d) p = tt

pub plain_inert : (d : Due) → Plain d → Inert (once d)
plain_inert (nothing y) p = none
plain_inert (at_once ls) p = all_to (λ l q. q.1) p
plain_inert (later d) p = none

pub plain_now : (n : ℕ) (d : Due) → Plain d → Unwaiting (fate_now n d)
plain_now n (nothing y) p x = refl
plain_now n (at_once ls) p x = refl
plain_now n (later d) p x = absurd p

pub plain_over : (d : Due) → Plain d → Unwaiting (overflowed d)
plain_over (nothing y) p x = refl
plain_over (at_once ls) p x = refl
plain_over (later d) p x = absurd p

pub plain-notice : (r g a : Bool) (d : Due) → Plain d → Plain (notice r g a d)
plain-notice true g true d p = p
plain-notice true true false d p = tt
plain-notice true false false d p = tt
plain-notice false g a d p = tt

pub plain-unless : (c : Bool) (y : Why) (d : Due) → Plain d → Plain (unless c y d)
plain-unless true y d p = tt
plain-unless false y d p = p

pub notice-lines : (r g a : Bool) (l : Line) → when (r && a) l ≡ once (notice r g a (at_once (l ∷ [])))
notice-lines true g true l = refl
notice-lines true true false l = refl
notice-lines true false false l = refl
notice-lines false g a l = refl

-- memory after an event that leaves the selected mailbox alone
pub record Elsewhere (m n : Memory) : Type 0 where
  pub selected : n.session.selected ≡ m.session.selected
  pub told : n.session.told ≡ m.session.told
  pub states : (u : ℕ) → state_of m.session.selected u (mails n) ≡ state_of m.session.selected u (mails m)
  pub presents : (u : ℕ) → present m.session.selected u (mails n) ≡ present m.session.selected u (mails m)

pub unmoved : (m n : Memory) → mails n ≡ mails m → n.session.selected ≡ m.session.selected → n.session.told ≡ m.session.told → Elsewhere m n
unmoved m n e s t = record { selected = s; told = t; states = λ u. rw e; presents = λ u. rw e }

-- ---- some messages leave, none of the selected mailbox
pub drop-elsewhere : (m n : Memory) (p : Message → Bool) → mails n ≡ filterb p (mails m) → n.session.selected ≡ m.session.selected → n.session.told ≡ m.session.told
    → ((u : ℕ) (e : Message) → is_message m.session.selected u e ≡ true → p e ≡ true) → Elsewhere m n
drop-elsewhere m n p e s t h = record {
  selected = s;
  told = t;
  states = λ u. rw e (state-kept m.session.selected u p (h u) (mails m));
  presents = λ u. rw e (present-kept m.session.selected u p (h u) (mails m));
}

pub elsewhere_books : (m n : Memory) (a : Account) → Books m a → (r : Record) (ls : List Line) (f : Fate) → Elsewhere m n → kept_by (apparent m) a r f ls ≡ map rested (mails n) → Inert ls
    → Unending (apparent m) r → Unwaiting f
    → Books n (page (apparent m) a r ls f)
elsewhere_books m n a b r ls f e k i d q = turned m n (apparent m) a b r ls f k (plain_turn m n (apparent m) r ls f e.selected e.told e.states e.presents i d q)

pub said_books : (m : Memory) (p : Account) (ls : List Line) → Inert ls → Books m p → Books (say m ls) p
said_books m p ls h b = subst (λ (k : Memory). Books k p) (sym (inert-effects (enqueue m (render_all ls)) h)) (same_books m (enqueue m (render_all ls)) p refl refl refl b)

pub plain_step : (m : Memory) (a : Account) → Books m a → (r : Record) (event : Memory → Event) → (event m).lines ≡ once (due (apparent m) a r) → Plain (due (apparent m) a r)
    → Plain (due (silence (apparent m)) a r)
    → ((ls : List Line) → owed_now (apparent m) a r ls ≡ due_lines (apparent m) (due (apparent m) a r)) → Unending (apparent m) r
    → Elsewhere m (event m).stored → Elsewhere m (event (silence m)).stored
    → ((f : Fate) (ls : List Line) → Unwaiting f → kept_by (apparent m) a r f ls ≡ map rested (mails (event m).stored))
    → ((f : Fate) (ls : List Line) → Unwaiting f → kept_by (apparent m) a r f ls ≡ map rested (mails (event (silence m)).stored))
    → Step m a r (event_outcome m event)
plain_step m a b r event e p q o d x y k l =
    let n = suc (length a.fates) in
    let ls = once (due (apparent m) a r) in
    let i = plain_inert (due (apparent m) a r) p in
    let g = plain_now n (due (apparent m) a r) p in
    let h = plain_over (due (silence (apparent m)) a r) q in
    told-step m a r event e (plain_fair (due (apparent m) a r) p) o
    (said_books (event m).stored (page (apparent m) a r ls (fate_now n (due (apparent m) a r))) ls i
    (elsewhere_books m (event m).stored a b r ls (fate_now n (due (apparent m) a r)) x (k (fate_now n (due (apparent m) a r)) ls g) i d g))
    (elsewhere_books m (event (silence m)).stored a b r (overflow ∷ []) (overflowed (due (silence (apparent m)) a r)) y (l (overflowed (due (silence (apparent m)) a r)) (overflow ∷ []) h)
    (also refl none) d h)

-- an event elsewhere, where what is owed is known
pub plain_by : (m : Memory) (a : Account) → Books m a → (r : Record) (event : Memory → Event) (d h : Due) → due (apparent m) a r ≡ d → due (silence (apparent m)) a r ≡ h
    → (event m).lines ≡ once d → Plain d → Plain h
    → ((ls : List Line) → owed_now (apparent m) a r ls ≡ due_lines (apparent m) (due (apparent m) a r)) → Unending (apparent m) r
    → Elsewhere m (event m).stored → Elsewhere m (event (silence m)).stored
    → ((f : Fate) (ls : List Line) → Unwaiting f → kept_by (apparent m) a r f ls ≡ map rested (mails (event m).stored))
    → ((f : Fate) (ls : List Line) → Unwaiting f → kept_by (apparent m) a r f ls ≡ map rested (mails (event (silence m)).stored))
    → Step m a r (event_outcome m event)
plain_by m a b r event d h p q e x y o u v w s t = plain_step m a b r event (e ∙ sym (ap once p)) (subst (λ (c : Due). Plain c) (sym p) x) (subst (λ (c : Due). Plain c) (sym q) y) o u v w s t
