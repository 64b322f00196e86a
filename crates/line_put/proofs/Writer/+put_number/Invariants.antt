-- `put_number`: division by ten falls. Assumes nothing.
use Rattle.line_put.proofs.Writer.+put_number.Given as goal

abbrev pub decreases-put_number : goal.decreases-put_number
decreases-put_number l = l.n
