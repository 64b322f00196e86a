-- `octets::dates::month_at` meets its contract: a shorter text is no month, and the table has all of them. Assumes nothing.
use mathlib.Core.Path.{sym, ◌∙◌}
use native.Mathlib.Omega.{arith}
use Rattle.octets.proofs.Days.{month_short}
use Rattle.octets.proofs.dates.month_at.Goals as goal

pub returns-then-text-at : goal.returns-then-text-at
returns-then-text-at c =
    record { exact = month_short c.args.text.now c.args.at (omega arith); within = tt }

pub returns-then-text-at-lt3 : goal.returns-then-text-at-lt3
returns-then-text-at-lt3 c =
    record { exact = month_short c.args.text.now c.args.at (omega arith); within = tt }

pub returns-then-is_one_of : goal.returns-then-is_one_of
returns-then-is_one_of c = record { exact = rw (sym c.is_one_of.ensures ∙ c.if-is_one_of.true); within = (omega arith, omega arith) }

pub returns : goal.returns
returns c = record { exact = rw (sym c.is_one_of.ensures ∙ c.if-is_one_of.false); within = tt }
