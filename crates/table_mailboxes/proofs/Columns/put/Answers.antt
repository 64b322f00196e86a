-- `put`: a write for each column. Assumes nothing.
use Rattle.std.proofs.Common.{rules, arith, ◌≡◌, ◌∙◌, ◌+◌, ◌-◌, ◌*◌, length}
use Rattle.std.proofs.lemmas.List.Edits.{length-paste}
use Rattle.table_mailboxes.specs.Columns.{name_put}
use Rattle.table_mailboxes.proofs.Columns.put.Goals as goal

pub returns : goal.returns
returns c =
    let long : length c.args.self.now.names ≡ 4096 = search rules in
    let wide : length c.args.x.now.name ≡ 64 = search rules in
    let same : c.copy_from_slice.new.self ≡ c.args.x.now.name = search rules in
    let e = name_put c.args.self.now.names c.args.x.now.name c.args.k (64 * c.args.k + 64 - 64 * c.args.k) c.requires long wide (omega arith) in
    record {
      n = search rules;
      ids = search rules;
      attributes = search rules;
      lens = search rules;
      validities = search rules;
      nexts = search rules;
      counters = search rules;
      names = rw same e;
      long = rw (same, e) (length-paste c.args.self.now.names (64 * c.args.k) c.args.x.now.name 64 (omega arith) (omega arith) ∙ long);
      wide = wide;
    }
