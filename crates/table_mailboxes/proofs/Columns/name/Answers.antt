-- `name`: the row's place in the run of names, as far as its clipped length. Assumes nothing.
use Rattle.std.proofs.Common.{rules, arith, ◌≡◌, length}
use Rattle.table_mailboxes.specs.Columns.{name_cut}
use Rattle.table_mailboxes.proofs.Columns.name.Goals as goal

pub returns : goal.returns
returns c =
    let long : length c.args.self.now.names ≡ 4096 = search rules in
    name_cut c.args.self.now.lens c.args.self.now.names c.args.k c.clip.result _ c.requires long (omega arith) c.clip.ensures.0 c.clip.ensures.1
