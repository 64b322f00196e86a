-- `mark_range`: the loop keeps that the marks with the names to come are the marks of the range. Assumes nothing.
use Rattle.std.proofs.Common.{ℕ, List, Bool, drop, get_or}
use Rattle.model.specs.Lists.{anyb}
use Rattle.model.specs.Groups.{lent_name}
use Rattle.model.specs.declared.LentName.{LentName}
use Rattle.table_mailboxes.specs.Columns.{name_at}
use Rattle.match_rows.specs.Marks.{taken_by_name, Left}
use Rattle.match_rows.proofs.marking.mark_range.Given as goal

-- a name as it is kept takes row k
abbrev pub taken : Bool → List ℕ → List ℕ → List ℕ → ℕ → LentName → Bool
taken deep attributes lens names k x = taken_by_name deep (name_at lens names k) (get_or attributes k 0) (lent_name x)

abbrev pub invariant-loop-x : goal.invariant-loop-x
invariant-loop-x l = Left l.cols.n (λ (k : ℕ). anyb (taken l.deep l.cols.attributes l.cols.lens l.cols.names k) l.x-items)
    (λ (k : ℕ). anyb (taken l.deep l.cols.attributes l.cols.lens l.cols.names k) (drop l.x-index l.x-items)) l.initial.marks l.marks
