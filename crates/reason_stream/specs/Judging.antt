-- The reason from the points that the code has, the answer's number, and whether a group stands behind the record. Assumes nothing.
use Rattle.std.specs.Prelude.{◌≡◌, Bool, true, not, cond, Option, Some, None, is_some, List, ℕ, ◌-◌, length, take, drop}
use Rattle.std.proofs.Common.{arith, length-drop, take_all}
use Rattle.model.specs.Memory.{Memory}
use Rattle.model.specs.Call.{call}
use Rattle.model.specs.Reasons as R
use Rattle.model.specs.declared.Reason.{Reason}
use Rattle.model.specs.declared.Reason.TheVariants.{Quiet, NoEvent, RightMissing, Unmet, Unasked, Unannounced, Waiting, Overflow, Written}
use Rattle.reason_points.specs.declared.Points.{Points}

-- ---- as the code tests them: what waits apart from the rest; over says that an overflow line was written
abbrev pub waiting_of : Points → ℕ → Reason
waiting_of p c = cond p.unannounced Unannounced (Waiting c)

-- by the number of the first group that asks
abbrev pub asking_says : Points → Bool → Option ℕ → Reason
asking_says p over None = Unasked
asking_says p over (Some g) = cond p.unannounced Unannounced (cond over Overflow (Written g))

-- by the class that it waits for
abbrev pub waiting_says : Points → Bool → Option ℕ → Reason
waiting_says p over (Some c) = waiting_of p c
waiting_says p over None = cond (not p.met) Unmet (asking_says p over p.asking)

abbrev pub groups_say : Points → Bool → Reason
groups_say p over = waiting_says p over p.waiting

abbrev pub first_of : Points → Bool → Reason
first_of p over = cond p.quiet Quiet (cond (not p.event) NoEvent (cond (not p.rights) RightMissing (groups_say p over)))

-- a record was served on m: y is the reason, and m' is what it leaves
pub record Judges (m : Memory) (o : List ℕ) (y : Reason) (m' : Memory) : Type 0 where
  pub reason : y ≡ R.reason m o
  pub after : m' ≡ (call m o).after

-- ---- what the code reads
-- what stands from a place on
pub rest : (o : List ℕ) (n : ℕ) → take (length o - n) (drop n o) ≡ drop n o
rest o n = take_all (length o - n) (drop n o) (let z = length-drop n o in omega arith)
