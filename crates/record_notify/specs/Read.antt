-- Which NOTIFY a line gives, by what its reader answers: NONE, or SET with its groups. Assumes nothing.
use Rattle.std.specs.Prelude.{◌≡◌, Option, Some, None, Bool, List, ℕ, ◌≤◌, length}
use Rattle.std.proofs.Common.{ap, sym, ◌∙◌, arith}
use Rattle.model.specs.Requests.{Command, notify_none, notify_set, search, Asked}
use Rattle.model.specs.Reading.{Parsed, bad, ok}
use Rattle.model.specs.Commands.{command_of}
use Rattle.model.specs.Limits.{limits, name_count}
use Rattle.model.specs.Replies.{reply_of}
use Rattle.model.specs.Memory.{Memory}
use Rattle.model.specs.Answering.{some_selected, first_reply}
use Rattle.model.specs.declared.Reply.TheVariants.{Accepted}
use Rattle.read_notify.specs.Tallies.{filters_of}
use Rattle.read_notify.specs.Readings.{read_notify}
use Rattle.read_notify.specs.Ladder.{accepted_few}
use Rattle.read_notify.specs.declared.Tally.{Tally}

-- what reading gives
abbrev Reading : Type 0
Reading = Option (Option (Bool × Tally) × ℕ)

inside : {A : Type 0} {x y : A} → Some x ≡ Some y → x ≡ y
inside z = cc

none-some : {A : Type 0} {x : A} → None ≡ Some x → ⊥
none-some f = let z : ◌≡◌ {A = ℕ} 0 1 = cc in omega arith

some-none : {A : Type 0} {x : A} → Some x ≡ None → ⊥
some-none f = none-some (sym f)

abbrev pub nothing_read : ℕ → Reading
nothing_read p = Some (None, p)

abbrev pub groups_read : Bool → Tally → ℕ → Reading
groups_read status t p = Some (Some (status, t), p)

pub nothing_is : (x : Parsed Command) {p : ℕ} → nothing_read p ≡ read_notify x → x ≡ ok p notify_none
nothing_is bad e = absurd (some-none e)
nothing_is (ok q notify_none) {p} e = let f : p ≡ q = ap (λ (z : Option (Bool × Tally) × ℕ). z.1) (inside e) in rw f
nothing_is (ok q (notify_set status gs)) e = absurd (none-some (ap (λ (z : Option (Bool × Tally) × ℕ). z.0) (inside e)))
nothing_is (ok q (search a)) e = absurd (some-none e)

-- some groups were read: whatever follows of them
pub groups_are : (x : Parsed Command) {status : Bool} {t : Tally} {p : ℕ} → groups_read status t p ≡ read_notify x → (P : Type 0) → ((gs : List Asked) → x ≡ ok p (notify_set status gs) → P) → P
groups_are bad e P f = absurd (some-none e)
groups_are (ok q notify_none) e P f = absurd (some-none (ap (λ (z : Option (Bool × Tally) × ℕ). z.0) (inside e)))
groups_are (ok q (notify_set wanted gs)) {status} {t} {p} e P f =
    let a : p ≡ q = ap (λ (z : Option (Bool × Tally) × ℕ). z.1) (inside e) in
    let b : status ≡ wanted = ap (λ (z : Bool × Tally). z.0) (inside (ap (λ (z : Option (Bool × Tally) × ℕ). z.0) (inside e))) in
    f gs (rw (a, b))
groups_are (ok q (search a)) e P f = absurd (some-none e)

-- groups that are accepted fit into a session
pub set_few : (m : Memory) (t : List ℕ) (p : ℕ) (status : Bool) (gs : List Asked) → command_of t ≡ ok p (notify_set status gs) → first_reply m t ≡ Accepted → (length gs ≤ 8) × (name_count (filters_of gs) ≤ 16)
set_few m t p status gs c first = accepted_few (some_selected m) p status gs (ap (reply_of limits (some_selected m)) (sym c) ∙ first)
