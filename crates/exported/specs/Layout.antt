-- How what a host lends lies in memory, as a number: a host that was built for another one must not call. Assumes nothing.
use Rattle.std.specs.Prelude.{ℕ}

-- The layout of rows, entries, counts, session and queue as they stand in this version. 1 was the one before change counters.
abbrev pub lent_layout : ℕ
lent_layout = 2
