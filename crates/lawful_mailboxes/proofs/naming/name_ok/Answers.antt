-- `name_ok`: the exact test of a kept name, on the row's own 64 octets. Assumes nothing.
use Rattle.std.proofs.Common.{refl, ap, ◌∙◌}
use Rattle.lawful_mailboxes.specs.Fields.{name_by, row-part}
use Rattle.lawful_mailboxes.proofs.naming.name_ok.Goals as goal

pub returns : goal.returns
returns c = c.is_kept.ensures ∙ rw c.from.ensures (ap (name_by c.args.len) (row-part c.args.names.now c.args.k _ refl))
