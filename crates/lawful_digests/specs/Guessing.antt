-- Tables of guesses. Assumes nothing.
use Rattle.std.specs.Prelude.{ℕ}
use Rattle.lawful_digests.specs.Distinct.{Low}
use Rattle.lawful_digests.specs.declared.SlotTable.{SlotTable}

-- each guess names one of n rows
abbrev pub Rows : SlotTable → ℕ → Type 0
Rows g n = Low g.slots n × Low g.chain n
