-- `take_out`: the entry is kept as expunged. Assumes nothing.
use native.Mathlib.Omega.{arith}
use Rattle.event_message.specs.After.{taken-waits}
use Rattle.event_expunges.proofs.take_out.Goals as goal

pub returns : goal.returns
returns c =
    taken-waits c.args.words.now _ c.args.used c.args.k c.args.gone c.get-e.result c.changed.result c.if-gone.false c.put.ensures (omega arith) c.get-e.ensures c.changed.ensures
