-- `is_known`: a longer name is none of those that are known. Assumes nothing.
use Rattle.std.proofs.Common.{replicate, arith}
use Rattle.model.specs.Octets.{atom_octet}
use Rattle.model.specs.Reading.{text_at}
use Rattle.octets.specs.Values.{value_of}
use Rattle.read_options.proofs.Naming.{name_long, name-known}
use Rattle.read_options.proofs.is_known.Goals as goal

pub returns-else-n-le8 : goal.returns-else-n-le8
returns-else-n-le8 c = name_long (value_of (text_at atom_octet c.args.text.now c.args.at)) c.value_of-n.ensures.long c.if-n-le8.false

pub returns-then-n-le8 : goal.returns-then-n-le8
returns-then-n-le8 c =
    name-known (value_of (text_at atom_octet c.args.text.now c.args.at)) (replicate 8 0) c.value_of-n.result c.is_one_of.ensures c.value_of-n.ensures.is c.value_of-n.ensures.long (omega arith)
