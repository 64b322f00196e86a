-- One taken call: it writes the lines of the account, and the account goes on agreeing with memory. The general part. Assumes nothing.
use Rattle.std.specs.Prelude.{◌≡◌, Bool, false, not, cond, ◌&&◌, ◌||◌, ℕ, suc, eqb, ltb, length}
use Rattle.std.proofs.Math.Path.{refl, ap}
use Rattle.std.proofs.Common.{sym, ◌∙◌, subst}
use mathlib.Core.List.{List, [], ◌∷◌, ◌++◌, map}
use Rattle.std.proofs.Math.Bool.{true}
use Rattle.std.proofs.Math.Dec.{leb-zero}
use Rattle.model.specs.Lists.{anyb}
use Rattle.model.specs.Records.{Record}
use Rattle.model.specs.Memory.{Memory, mails}
use Rattle.model.specs.Lines.{Line, overflow, render_all}
use Rattle.model.specs.Queue.{room, fits, enqueue, effects, say}
use Rattle.model.specs.Events.{Event, silence, tellings, settled}
use Rattle.model.specs.Rules.{Outcome, rested, event_outcome}
use Rattle.model.specs.Reasoned.{changes}
use Rattle.demands.specs.Lasting.NameLaws.{same_refl}
use Rattle.model.specs.Fates.{Debt, arrival, removal, marking, Fate, unowed, reported, waits, waits_for, tells, is_exists, is_removal, is_marking, is_overflow, is_notice, is_silent}
use Rattle.model.specs.Seen.{apparent}
use Rattle.model.specs.Due.{Account, Due, nothing, at_once, later, due}
use Rattle.model.specs.Account.{settle, notices, due_lines, overflowed, own, own_fate, kept_by, posted, owed_now}
use Rattle.demands.specs.Ledger.Each.{All, none, also, all_to, filter_all}
use Rattle.demands.specs.Ledger.Entries.{present, state_of}
use Rattle.demands.specs.Ledger.Books.{Books}
use Rattle.demands.specs.Ledger.Posting.{drops, waiting-after}
use Rattle.demands.specs.Ledger.Effects.{Ended}

-- ---- the account's next page
abbrev pub page : Memory → Account → Record → List Line → Fate → Account
page w a r ls f = record {
  kept = kept_by w a r f ls;
  fates = map (settle w (suc (length a.fates)) r ls) a.fates ++ (f ∷ []);
}

-- what has to be shown of it
pub record Turn (m n w : Memory) (r : Record) (ls : List Line) (f : Fate) : Type 0 where
  pub removals : (u : ℕ) → ((eqb (state_of m.session.selected u (mails m)) 1 && (not (tells ls (removal u)) && not (drops w r (removal u)))) || waits_for (removal u) f)
      ≡ eqb (state_of n.session.selected u (mails n)) 1
  pub markings : (u : ℕ) → ((eqb (state_of m.session.selected u (mails m)) 2 && (not (tells ls (marking u)) && not (drops w r (marking u)))) || waits_for (marking u) f)
      ≡ eqb (state_of n.session.selected u (mails n)) 2
  pub arrivals : (u : ℕ) → (((present m.session.selected u (mails m) && not (ltb u m.session.told)) && (not (tells ls (arrival u)) && not (drops w r (arrival u)))) || waits_for
      (arrival u) f) ≡ (present n.session.selected u (mails n) && not (ltb u n.session.told))

pub turned : (m n w : Memory) (a : Account) → Books m a → (r : Record) (ls : List Line) (f : Fate) → kept_by w a r f ls ≡ map rested (mails n) → Turn m n w r ls f → Books n (page w a r ls f)
turned m n w a b r ls f k t = record {
  kept = k;
  removals = λ u. waiting-after w (suc (length a.fates)) r ls (removal u) a.fates f
      ∙ (ap (λ (x : Bool). (x && (not (tells ls (removal u)) && not (drops w r (removal u)))) || waits_for (removal u) f) (b.removals u) ∙ t.removals u);
  markings = λ u. waiting-after w (suc (length a.fates)) r ls (marking u) a.fates f
      ∙ (ap (λ (x : Bool). (x && (not (tells ls (marking u)) && not (drops w r (marking u)))) || waits_for (marking u) f) (b.markings u) ∙ t.markings u);
  arrivals = λ u. waiting-after w (suc (length a.fates)) r ls (arrival u) a.fates f
      ∙ (ap (λ (x : Bool). (x && (not (tells ls (arrival u)) && not (drops w r (arrival u)))) || waits_for (arrival u) f) (b.arrivals u) ∙ t.arrivals u);
}

-- memories that differ in neither messages nor view
pub same_books : (m n : Memory) (a : Account) → mails n ≡ mails m → n.session.selected ≡ m.session.selected → n.session.told ≡ m.session.told → Books m a → Books n a
same_books m n a e s t b = record {
  kept = rw e b.kept;
  removals = λ u. rw (s, e) (b.removals u);
  markings = λ u. rw (s, e) (b.markings u);
  arrivals = λ u. rw (s, e, t) (b.arrivals u);
}

-- ---- a record that drops nothing, and a fate that waits for nothing
abbrev pub Unending : Memory → Record → Type 0
Unending w r = (d : Debt) → drops w r d ≡ false

abbrev pub Unwaiting : Fate → Type 0
Unwaiting f = (d : Debt) → waits_for d f ≡ false

pub simple : (a t : Bool) → ((a && (not t && true)) || false) ≡ (a && not t)
simple true true = refl
simple true false = refl
simple false t = refl

pub plainly : (c : Bool) → ((c && true) || false) ≡ c
plainly true = refl
plainly false = refl

-- the turn of lines alone
pub lines_turn : (m n w : Memory) (r : Record) (ls : List Line) (f : Fate) → Ended m n ls → Unending w r → Unwaiting f → Turn m n w r ls f
lines_turn m n w r ls f e d q = record {
  removals = λ u. rw (d (removal u), q (removal u), e.selected, e.removals u) (simple (eqb (state_of m.session.selected u (mails m)) 1) (anyb (is_removal u) ls));
  markings = λ u. rw (d (marking u), q (marking u), e.selected, e.markings u) (simple (eqb (state_of m.session.selected u (mails m)) 2) (anyb (is_marking u) ls));
  arrivals = λ u. rw (d (arrival u), q (arrival u), e.selected, e.arrivals u) (simple (present m.session.selected u (mails m) && not (ltb u m.session.told)) (anyb is_exists ls));
}

-- ---- what is owed at once: notices, and no overflow line
abbrev pub FairLine : Line → Type 0
FairLine l = (is_notice l ≡ true) × (is_overflow l ≡ false)

abbrev pub Fair : Due → Type 0
Fair (nothing y) = Unit {0}
Fair (at_once ls) = All FairLine ls
Fair (later d) = Unit {0}

pub no_overflow : {ls : List Line} → All FairLine ls → anyb is_overflow ls ≡ false
no_overflow none = refl
no_overflow (also p h) = rw p.1 (no_overflow h)

-- so all that is written of a change is notices
due-notices : (w : Memory) (d : Due) → Fair d → notices (due_lines w d) ≡ due_lines w d
due-notices w (nothing y) f = refl
due-notices w (at_once ls) f = go (fits w ls)
  where
    go : (c : Bool) → notices (cond c ls (overflow ∷ [])) ≡ cond c ls (overflow ∷ [])
    go true = filter_all is_notice ls (all_to (λ l p. p.0) f)
    go false = refl
due-notices w (later x) f = refl

-- ---- a call and its account: the lines are those owed, a change writes no others, and the account after it agrees with memory
pub record Step (m : Memory) (a : Account) (r : Record) (x : Outcome) : Type 0 where
  pub exact : notices x.lines ≡ owed_now (apparent m) a r x.lines
  pub whole : changes r ≡ true → (x.lines ≡ due_lines (apparent m) (due (apparent m) a r)) × Fair (due (apparent m) a r)
  pub books : Books x.after (posted (apparent m) a r x.lines)
  pub heard : is_silent (own_fate (apparent m) a r x.lines) ≡ false

-- ---- events
-- what is owed at once, and the fate if it has room
abbrev pub once : Due → List Line
once (nothing y) = []
once (at_once ls) = ls
once (later d) = []

abbrev pub fate_now : ℕ → Due → Fate
fate_now n (nothing y) = unowed y
fate_now n (at_once ls) = reported n
fate_now n (later d) = waits d

loud_now : (n : ℕ) (d : Due) → is_silent (fate_now n d) ≡ false
loud_now n (nothing y) = refl
loud_now n (at_once ls) = refl
loud_now n (later d) = refl

loud_over : (d : Due) → is_silent (overflowed d) ≡ false
loud_over (nothing y) = refl
loud_over (at_once ls) = refl
loud_over (later d) = refl

nil-fits : (m : Memory) → fits m [] ≡ true
unfolding render_all
nil-fits m = leb-zero (room m)

-- the overflow line ends nothing
pub over : (m : Memory) (p : Account) → Books m p → Books (say m (overflow ∷ [])) p
unfolding effects
over m p b = same_books m (enqueue m (render_all (overflow ∷ []))) p refl refl refl b

-- an event is told
module _ (m : Memory) (a : Account) (r : Record) (event : Memory → Event) where
  abbrev w : Memory
  w = apparent m

  abbrev n : ℕ
  n = suc (length a.fates)

  made : (ls : List Line) (after : Memory) (f : Fate) → ((k : List Line) → owed_now w a r k ≡ due_lines w (due w a r)) → tellings m event ≡ ls → say (settled m event) (tellings m event) ≡ after
      → own n (due w a r) (due (silence w) a r) ls ≡ f → is_silent f ≡ false → ls ≡ due_lines w (due w a r) → Fair (due w a r) → Books after (page w a r ls f) → Step m a r (event_outcome m event)
  made ls after f owing t e g v x fair b = record {
    exact = ap notices (t ∙ x) ∙ (due-notices w (due w a r) fair ∙ sym (owing (tellings m event)));
    whole = λ _. (t ∙ x, fair);
    books = subst (λ (k : Memory). Books k (posted w a r (tellings m event))) (sym e) (subst (λ (p : Account). Books after p) (sym (ap (posted w a r) t ∙ ap (page w a r ls) g)) b);
    heard = ap (λ (k : List Line). is_silent (own_fate w a r k)) t ∙ (ap is_silent g ∙ v);
  }

  pub told-step : (event m).lines ≡ once (due w a r) → Fair (due w a r) → ((ls : List Line) → owed_now w a r ls ≡ due_lines w (due w a r))
      → Books (say (event m).stored (once (due w a r))) (page w a r (once (due w a r)) (fate_now n (due w a r)))
      → Books (event (silence m)).stored (page w a r (overflow ∷ []) (overflowed (due (silence w) a r)))
      → Step m a r (event_outcome m event)
  unfolding tellings settled
  told-step e fair owing now hushed = go (due w a r) refl fair now
    where
      none-owed : (d : Due) → due w a r ≡ d → once d ≡ [] → due_lines w d ≡ [] → own n d (due (silence w) a r) [] ≡ fate_now n d
          → Books (say (event m).stored []) (page w a r [] (fate_now n d)) → Step m a r (event_outcome m event)
      none-owed d q o l g b =
          let z : (event m).lines ≡ [] = e ∙ (ap once q ∙ o) in
          let y : fits m (event m).lines ≡ true = ap (fits m) z ∙ nil-fits m in
          made [] (say (event m).stored []) (fate_now n d) owing (rw (y, z)) (rw (y, z)) (ap (λ (x : Due). own n x (due (silence w) a r) []) q ∙ g) (loud_now n d) (sym (ap (due_lines w) q ∙ l)) fair b

      go : (d : Due) → due w a r ≡ d → Fair d → Books (say (event m).stored (once d)) (page w a r (once d) (fate_now n d)) → Step m a r (event_outcome m event)
      go (nothing y) q f b = none-owed (nothing y) q refl refl refl b
      go (later x) q f b = none-owed (later x) q refl refl refl b
      go (at_once ls) q f b = room' (fits m ls) refl
        where
          z : (event m).lines ≡ ls
          z = e ∙ ap once q

          room' : (c : Bool) → fits m ls ≡ c → Step m a r (event_outcome m event)
          room' true h =
              let y : fits m (event m).lines ≡ true = ap (fits m) z ∙ h in
              made ls (say (event m).stored ls) (reported n) owing (rw (y, z)) (rw (y, z))
              (ap (λ (x : Due). own n x (due (silence w) a r) ls) q ∙ rw (no_overflow f, same_refl (render_all ls))) refl
              (sym (ap (due_lines w) q ∙ rw h)) fair b
          room' false h =
              let y : fits m (event m).lines ≡ false = ap (fits m) z ∙ h in
              made (overflow ∷ []) (say (event (silence m)).stored (overflow ∷ [])) (overflowed (due (silence w) a r)) owing (rw y) (rw y)
              (ap (λ (x : Due). own n x (due (silence w) a r) (overflow ∷ [])) q) (loud_over (due (silence w) a r))
              (sym (ap (due_lines w) q ∙ rw h)) fair (over (event (silence m)).stored (page w a r (overflow ∷ []) (overflowed (due (silence w) a r))) hushed)

  -- the same, where what is owed is known
  pub told-step_by : (d h : Due) → due w a r ≡ d → due (silence w) a r ≡ h → (event m).lines ≡ once d → Fair d → ((ls : List Line) → owed_now w a r ls ≡ due_lines w (due w a r))
      → Books (say (event m).stored (once d)) (page w a r (once d) (fate_now n d))
      → Books (event (silence m)).stored (page w a r (overflow ∷ []) (overflowed h))
      → Step m a r (event_outcome m event)
  told-step_by d h p q e f o x y = told-step (e ∙ sym (ap once p)) (subst (λ (c : Due). Fair c) (sym p) f) o
      (subst (λ (c : Due). Books (say (event m).stored (once c)) (page w a r (once c) (fate_now n c))) (sym p) x)
      (subst (λ (c : Due). Books (event (silence m)).stored (page w a r (overflow ∷ []) (overflowed c))) (sym q) y)
