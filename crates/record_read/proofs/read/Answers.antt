-- `record_read::read` meets its contract: its parts answer what the rules ask. Assumes nothing.
use Rattle.record_read.proofs.Whole.{unknown_none, range_none, ending_none, octets_read}
use Rattle.record_read.proofs.read.Goals as goal

pub returns-then-not-is_known : goal.returns-then-not-is_known
returns-then-not-is_known c = unknown_none c.kind_of-kind.result c.layout_of-l.ensures c.args.o.now c.kind_of-kind.ensures c.is_known.ensures c.if-not-is_known.true

pub returns-in_err-values : goal.returns-in_err-values
returns-in_err-values c = rw c.from_residual.ensures (range_none c.kind_of-kind.result c.layout_of-l.ensures c.args.o.now c.kind_of-kind.ensures c.in_err-values.ensures)

pub returns-then-not-is_whole : goal.returns-then-not-is_whole
returns-then-not-is_whole c =
    ending_none c.kind_of-kind.result c.layout_of-l.ensures c.args.o.now c.kind_of-kind.ensures c.in_ok-values.ensures c.is_known.ensures c.if-not-is_known.false c.is_whole.ensures c.if-not-is_whole.true

pub returns : goal.returns
returns c =
    octets_read c.kind_of-kind.result c.layout_of-l.ensures c.args.o.now c.kind_of-kind.ensures c.in_ok-values.ensures c.is_known.ensures c.if-not-is_known.false c.is_whole.ensures c.if-not-is_whole.false
