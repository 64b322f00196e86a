-- After any calls a call's reason is the account's word for what its record owes, and by it the call writes what it does. Assumes nothing.
use Rattle.std.specs.Prelude.{◌≡◌, refl, List, [], ◌∷◌, Bool, true, false, not, cond, ℕ, ◌≤◌, ◌<◌, eqb, length}
use Rattle.std.proofs.Common.{sym, ◌∙◌, ap, subst, arith, eqb-true}
use Rattle.std.proofs.lemmas.Bool.{eqb-false, not-true}
use Rattle.model.specs.Lists.{anyb}
use Rattle.model.specs.Laws.{and_l, and_r}
use Rattle.model.specs.Records.{record_of}
use Rattle.model.specs.Memory.{Memory, both_rights, selected_box, no_group}
use Rattle.model.specs.Groups.{group_of, groups_of}
use Rattle.model.specs.Lines.{Line, overflow}
use Rattle.model.specs.Queue.{fits}
use Rattle.model.specs.Answers.{number_of}
use Rattle.model.specs.Call.{call}
use Rattle.model.specs.Hidden.{Octets}
use Rattle.model.specs.Fates.{Debt, lowest_class, Why, quiet, no_event, right_missing, unmet, unasked, not_announced, is_overflow}
use Rattle.model.specs.Seen.{apparent}
use Rattle.model.specs.Due.{Account, Due, nothing, at_once, later, due}
use Rattle.model.specs.Account.{due_lines}
use Rattle.model.specs.Reasons.{reason_number, asked, first_asking, holds, reason}
use Rattle.model.specs.Reasoned.{word_of, due_reason, FirstAsking, changes}
use Rattle.model.specs.declared.Reason.{Reason}
use Rattle.model.specs.declared.Reason.TheVariants.{RightMissing, Waiting, Overflow, Written}
use Rattle.demands.specs.Counted.Taken.{taken}
use Rattle.demands.specs.Ledger.Steps.{Fair, no_overflow}
use Rattle.demands.specs.Ledger.Streams.{Stands, Kept, call_kept}
use Rattle.demands.specs.Reasons.Numbers.{number_nth}
use Rattle.demands.specs.Reasons.Points.{narrow}
use Rattle.demands.specs.Reasons.First.{chained, first-reason, taken-reason}
use Rattle.demands.specs.Reasons.Table.{worded, says}
use Rattle.demands.specs.Reasons.Dues.{Sound, sound, no-event, some-lines}

-- ---- what is owed, by its word
word_low : (y : Why) → reason_number (word_of y) < 8
word_low quiet = omega arith
word_low no_event = omega arith
word_low right_missing = omega arith
word_low unmet = omega arith
word_low unasked = omega arith
word_low not_announced = omega arith

-- x is the word for d: nothing is owed, or what is owed waits, finds no room, or is written
pub data Word (w : Memory) (g : ℕ) (d : Due) (x : Reason) : Type 0 where
  low : reason_number x < 8 → due_lines w d ≡ [] → Word w g d x
  waits : (y : Debt) → d ≡ later y → both_rights (selected_box w) ≡ true → x ≡ Waiting (lowest_class y) → Word w g d x
  over : (ls : List Line) → d ≡ at_once ls → fits w ls ≡ false → x ≡ Overflow → Word w g d x
  written : (ls : List Line) → d ≡ at_once ls → fits w ls ≡ true → x ≡ Written g → Word w g d x

word : (w : Memory) (g : ℕ) (d : Due) → Word w g d (due_reason w g d)
word w g (nothing y) = low (word_low y) refl
word w g (at_once ls) = go (fits w ls) refl
  where
    go : (c : Bool) → fits w ls ≡ c → Word w g (at_once ls) (cond c (Written g) Overflow)
    go true h = written ls refl h refl
    go false h = over ls refl h refl
word w g (later y) = go (both_rights (selected_box w)) refl
  where
    go : (c : Bool) → both_rights (selected_box w) ≡ c → Word w g (later y) (cond c (Waiting (lowest_class y)) RightMissing)
    go true h = waits y refl h refl
    go false h = low (omega arith) refl

-- the room, by the lines
roomy : (w : Memory) (g : ℕ) (d : Due) (ls : List Line) → ls ≡ due_lines w d → Fair d → worded (anyb is_overflow ls) g (both_rights (selected_box w)) d ≡ due_reason w g d
roomy w g (nothing y) ls e f = refl
roomy w g (at_once ks) ls e f = ap (λ (t : List Line). cond (anyb is_overflow t) Overflow (Written g)) e ∙ go (fits w ks)
  where
    go : (c : Bool) → cond (anyb is_overflow (cond c ks (overflow ∷ []))) Overflow (Written g) ≡ cond c (Written g) Overflow
    go true = rw (no_overflow f)
    go false = refl
roomy w g (later y) ls e f = refl

-- reasons with other numbers
pub unlike : {A : Type 0} (x y : Reason) → eqb (reason_number x) (reason_number y) ≡ false → x ≡ y → A
unlike x y h e = absurd (eqb-false (reason_number x) (reason_number y) h (ap reason_number e))

-- ---- of a call
module _ (m : Memory) (a : Account) (s : Stands m a) (o : Octets) where
  abbrev w : Memory
  w = apparent m

  abbrev owes : Due
  owes = due w a (record_of o)

  abbrev lines : List Line
  lines = (call m o).lines

  kept : Kept m a o (call m o)
  kept = call_kept m s.law a s.books o

  module _ (z : number_of (call m o).answer ≡ 0) where
    -- a change's lines
    change-lines : changes (record_of o) ≡ true → lines ≡ due_lines w owes
    change-lines c = rw z at (kept.whole c)

    pub account : reason m o ≡ due_reason w (first_asking m o) owes
    account = chained m o z ∙ (says m a (anyb is_overflow lines) s.law s.books (record_of o) (taken m o z).uid ∙ go (changes (record_of o)) refl)
      where
        g : ℕ
        g = first_asking m o

        go : (c : Bool) → changes (record_of o) ≡ c → worded (anyb is_overflow lines) g (both_rights (selected_box w)) owes ≡ due_reason w g owes
        go true c = roomy w g owes lines (change-lines c) (kept.fair (rw z) c)
        go false c = rw (no-event w a (record_of o) c)

    pub told : Word w (first_asking m o) owes (reason m o)
    told = subst (Word w (first_asking m o) owes) (sym account) (word w (first_asking m o) owes)

    -- what is owed at once is owed by a change, which writes it, or the overflow line
    pub once-lines : (ls : List Line) → owes ≡ at_once ls → lines ≡ cond (fits w ls) ls (overflow ∷ [])
    once-lines ls e = change-lines (go (changes (record_of o)) refl) ∙ ap (due_lines w) e
      where
        go : (c : Bool) → changes (record_of o) ≡ c → c ≡ true
        go true c = refl
        go false c =
            let q : nothing no_event ≡ at_once ls = sym (no-event w a (record_of o) c) ∙ e in
            let n : ◌≡◌ {A = ℕ} 0 1 = cc in
            absurd (let b : ⊥ = omega arith in b)

  -- ---- by its reason
  -- group g of the command asks, and is the first
  first_asking_lem : (g : ℕ) → reason m o ≡ Written g → FirstAsking m o g
  first_asking_lem g e =
      let h : holds m o (Written g) ≡ true = rw e at (first-reason m o).0 in
      let n : first_asking m o ≡ g = eqb-true (first_asking m o) g (and_r (not (eqb g 0)) _ h) in
      let z : g ≡ 0 → ⊥ = eqb-false g 0 (not-true (eqb g 0) (and_l (not (eqb g 0)) _ h)) in
      let t = number_nth (asked m o).asks (group_of no_group) (groups_of m.session) (omega arith) in
      subst (FirstAsking m o) n (record { one = omega arith; within = t.within; meets = narrow m (record_of o) _ t.passes; asks = t.passes; before = t.before })

  -- `written`: the lines of its own event, and not none
  pub wrote : (g : ℕ) → reason m o ≡ Written g → (owes ≡ at_once lines) × (1 ≤ length lines) × FirstAsking m o g
  wrote g e = let z = taken-reason m o (rw e (omega arith)) in go z (told z)
    where
      go : number_of (call m o).answer ≡ 0 → Word w (first_asking m o) owes (reason m o) → (owes ≡ at_once lines) × (1 ≤ length lines) × FirstAsking m o g
      go z (low n l) = let q = ap reason_number e in absurd (let b : ⊥ = omega arith in b)
      go z (waits y q r x) = unlike (Waiting (lowest_class y)) (Written g) refl (sym x ∙ e)
      go z (over ls q f x) = unlike Overflow (Written g) refl (sym x ∙ e)
      go z (written ls q f x) =
          let l : lines ≡ ls = rw f at (once-lines z ls q) in
          let k : owes ≡ at_once lines = q ∙ ap at_once (sym l) in
          (k, some-lines (subst (Sound (record_of o)) k (sound w a (record_of o))), first_asking_lem g e)

  -- `overflow`: the overflow line alone
  pub overflowed : reason m o ≡ Overflow → lines ≡ overflow ∷ []
  overflowed e = let z = taken-reason m o (rw e (omega arith)) in go z (told z)
    where
      go : number_of (call m o).answer ≡ 0 → Word w (first_asking m o) owes (reason m o) → lines ≡ overflow ∷ []
      go z (low n l) = let q = ap reason_number e in absurd (let b : ⊥ = omega arith in b)
      go z (waits y q r x) = unlike (Waiting (lowest_class y)) Overflow refl (sym x ∙ e)
      go z (over ls q f x) = rw f at (once-lines z ls q)
      go z (written ls q f x) = unlike (Written (first_asking m o)) Overflow refl (sym x ∙ e)

  -- a change with another reason: nothing
  pub silent : changes (record_of o) ≡ true → reason_number (reason m o) < 9 → lines ≡ []
  silent c h = go (eqb (number_of (call m o).answer) 0) refl
    where
      quietly : number_of (call m o).answer ≡ 0 → Word w (first_asking m o) owes (reason m o) → due_lines w owes ≡ []
      quietly z (low n l) = l
      quietly z (waits y q r x) = ap (due_lines w) q
      quietly z (over ls q f x) = let n = ap reason_number x in absurd (let b : ⊥ = omega arith in b)
      quietly z (written ls q f x) = let n = ap reason_number x in absurd (let b : ⊥ = omega arith in b)

      go : (b : Bool) → eqb (number_of (call m o).answer) 0 ≡ b → lines ≡ []
      go true e = let z = eqb-true (number_of (call m o).answer) 0 e in change-lines z c ∙ quietly z (told z)
      go false e = rw e at (kept.whole c)
