-- `record_read::number_at` meets its contract: four octets at most, or the two halves of eight. Assumes nothing.
use Rattle.record_read.proofs.Halves.{read_eight}
use Rattle.record_read.proofs.bodies.number_at.Goals as goal

pub returns : goal.returns
returns c =
    read_eight c.args.o.now c.args.at (c.requires.1 c.if-w-le4.false) c.little-low.ensures c.little.ensures
