-- `in_class`: the table's test, computed once over its 256 entries, gives each entry's classes. Assumes nothing.
use borrow.Author.Rules.{rules}
use Rattle.octets.specs.Classes.{class_table}
use Rattle.octets.proofs.Table.{class_at}
use Rattle.octets.proofs.classes.in_class.Goals as goal

pub returns : goal.returns
unfolding class_table
returns c = rw c.mask_of.ensures (class_at class_table tt c.args.b (search rules) c.args.c)
