-- No call makes the mailbox table longer than the 64 rows of an array. Assumes nothing.
use Rattle.std.specs.Prelude.{◌≡◌, refl, Bool, true, false, ◌≤◌, List, ℕ, length}
use Rattle.std.proofs.Common.{◌∙◌, leb-true}
use Rattle.model.specs.Memory.{Memory}
use Rattle.model.specs.Lawful.{lawful}
use Rattle.model.specs.Call.{call}
use Rattle.demands.specs.Lasting.Law.{law_out}
use Rattle.demands.specs.Lasting.Calls.{keeps}
use Rattle.record_outcome.specs.Laws.{call_unlawful}

pub rows_few : (m : Memory) (o : List ℕ) → length m.rows ≤ 64 → length (call m o).after.rows ≤ 64
rows_few m o h = go (lawful m) refl
  where
    go : (b : Bool) → lawful m ≡ b → length (call m o).after.rows ≤ 64
    go true e = leb-true _ _ (law_out (call m o).after (keeps m o ∙ e)).rows
    go false e = rw (← call_unlawful m o e) h
