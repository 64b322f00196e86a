-- `remove`: the words behind entry k move up, and the last entry is wiped. Assumes nothing.
use Rattle.std.proofs.Common.{◌∙◌, arith}
use Rattle.table_messages.specs.Taken.{taken_part}
use Rattle.table_messages.proofs.remove.Goals as goal

pub returns : goal.returns
returns c =
    c.put.ensures ∙ taken_part c.args.words.now c.args.k c.args.used (omega arith) (omega arith) c.copy_within.new.self c.nothing.result c.copy_within.ensures.after c.copy_within.ensures.len c.nothing.ensures
