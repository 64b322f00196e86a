-- `put` of `Stopped`: the line itself. Assumes nothing.
use Rattle.model.specs.Lines.{render}
use Rattle.line_put.proofs.StoppedLine.put.Goals as goal

pub returns : goal.returns
unfolding render
returns c = c.put.ensures
