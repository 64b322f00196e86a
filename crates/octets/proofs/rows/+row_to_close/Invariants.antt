-- `row_to_close` ends: the measure is the octets that are left. Assumes nothing.
use Rattle.std.proofs.Common.{◌-◌, length}
use Rattle.octets.proofs.rows.+row_to_close.Given as goal

abbrev pub decreases-row_to_close : goal.decreases-row_to_close
decreases-row_to_close g l = length l.text.now - l.at
