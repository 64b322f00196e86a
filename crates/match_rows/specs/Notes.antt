-- Notes beside the rows of the mailbox table: an octet for each row that is not 0 where a test says yes. Assumes nothing.
use Rattle.std.specs.Prelude.{◌≡◌, Bool, List, ℕ, ◌+◌, ◌<◌, length, get_or, set}
use Rattle.std.proofs.Common.{arith, get_or-set_same, get_or-set_other, below_more}
use Rattle.model.specs.Names.{Name}
use Rattle.model.specs.Memory.{no_mailbox}
use Rattle.model.specs.declared.Mailbox.{Mailbox}
use Rattle.model.specs.declared.Session.{Session}
use Rattle.table_mailboxes.specs.Columns.{noted}
use Rattle.match_rows.specs.Picked.{selects, picked_by, status_by, is_picked, is_status}

-- the notes of the rows are the answers of a test
abbrev pub Noting : (Mailbox → Bool) → List Mailbox → List ℕ → Type 0
Noting p l c = (k : ℕ) → k < length l → noted (get_or c k 0) ≡ p (get_or l k no_mailbox)

-- what is noted of the mailbox with an id, attributes and a name
pub record Notes (s : Session) (wanted : Bool) (i a : ℕ) (n : Name) (picked asks : ℕ) : Type 0 where
  pub told : noted picked ≡ picked_by s n a (selects s i)
  pub status : noted asks ≡ status_by s n a (selects s i) wanted

-- what is noted of all rows
pub record NotesAll (s : Session) (wanted : Bool) (l : List Mailbox) (picked asks : List ℕ) : Type 0 where
  pub told : Noting (is_picked s) l picked
  pub status : Noting (is_status s wanted) l asks

-- one row more
pub notes_next : (P : ℕ → ℕ → ℕ → Type 0) (p q : List ℕ) (k v w : ℕ) → k < length p → k < length q
    → ((j : ℕ) → j < k → P j (get_or p j 0) (get_or q j 0)) → P k v w → (j : ℕ) → j < k + 1 → P j (get_or (set p k v) j 0) (get_or (set q k w) j 0)
notes_next P p q k v w hp hq old new =
    below_more (λ (j : ℕ). P j (get_or (set p k v) j 0) (get_or (set q k w) j 0)) k
    (λ j h. let d : j ≡ k → ⊥ = λ e. absurd (let z : ⊥ = omega arith in z) in rw (get_or-set_other p k j v 0 d, get_or-set_other q k j w 0 d) (old j h))
    (rw (get_or-set_same p k v 0 hp, get_or-set_same q k w 0 hq) new)
