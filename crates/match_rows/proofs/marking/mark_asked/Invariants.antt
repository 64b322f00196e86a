-- `mark_asked`: the loop keeps that the marks with the groups to come are the marks of all groups. Assumes nothing.
use Rattle.std.proofs.Common.{ℕ, List, Bool, ◌&&◌, drop, get_or}
use Rattle.model.specs.Lists.{anyb}
use Rattle.model.specs.Groups.{group_of, meets}
use Rattle.model.specs.declared.Group.{Group}
use Rattle.model.specs.declared.LentGroup.{LentGroup}
use Rattle.model.specs.declared.Session.{Session}
use Rattle.table_mailboxes.specs.Columns.{name_at}
use Rattle.match_rows.specs.Marks.{asks_of, Left}
use Rattle.match_rows.proofs.marking.mark_asked.Given as goal

-- a group asks for such events of row k, and the same of one as it is kept
abbrev pub asking : Session → Bool → List ℕ → List ℕ → List ℕ → ℕ → Group → Bool
asking s messages attributes lens names k g = meets s (name_at lens names k) (get_or attributes k 0) g.selector && asks_of messages g

abbrev pub asks : Session → Bool → List ℕ → List ℕ → List ℕ → ℕ → LentGroup → Bool
asks s messages attributes lens names k g = asking s messages attributes lens names k (group_of g)

abbrev pub invariant-loop-g : goal.invariant-loop-g
invariant-loop-g l = Left l.cols.n (λ (k : ℕ). anyb (asks l.s l.messages l.cols.attributes l.cols.lens l.cols.names k) l.g-items)
    (λ (k : ℕ). anyb (asks l.s l.messages l.cols.attributes l.cols.lens l.cols.names k) (drop l.g-index l.g-items)) l.initial.marks l.marks
