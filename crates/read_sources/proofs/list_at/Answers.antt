-- `list_at`: the list is the row behind the parenthesis. Assumes nothing.
use Rattle.std.proofs.Common.{length, ◌+◌, sym, ap, ◌∙◌, arith}
use Rattle.octets.specs.Rows.{in-text}
use Rattle.read_sources.specs.Listing.{read_listed}
use Rattle.read_sources.specs.declared.Listed.{Listed}
use Rattle.read_sources.proofs.Keeping.{row, list_row}
use Rattle.read_sources.proofs.list_at.Goals as goal

pub returns : goal.returns
returns c =
    let opens = sym c.octet_at.ensures ∙ c.if-octet_at-ne40.false in
    let i = in-text c.args.text.now c.args.at opens (omega arith) in
    c.list_row.ensures (length c.args.text.now) (omega arith)
    ∙ ap (λ (t : Listed). read_listed t (row (length c.args.text.now) c.args.text.now (c.args.at + 1))) c.nothing_listed.ensures
    ∙ list_row c.args.text.now c.args.at opens
