-- `lay`: the loop keeps that the columns hold the rows before k. Assumes nothing.
use Rattle.std.proofs.Common.{◌≡◌}
use Rattle.table_mailboxes.specs.Filling.{Filling}
use Rattle.table_mailboxes.proofs.Columns.lay.Given as goal

abbrev pub invariant-loop-k : goal.invariant-loop-k
invariant-loop-k l = (l.self.n ≡ l.n) × Filling l.rows l.k l.self.ids l.self.attributes l.self.lens l.self.validities l.self.nexts l.self.counters l.self.names
