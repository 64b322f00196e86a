-- One name is counted, or the row behind a parenthesis.
use mathlib.Core.Path.{sym, ◌∙◌}
use native.Mathlib.Omega.{arith}
use lib.ListN.{length}
use Rattle.read_filters.proofs.Rows.{names_row, within-from}
use Rattle.octets.specs.Rows.{in-text}
use Rattle.read_filters.proofs.mailboxes.names_at.Goals as goal

pub returns-then-octet_at-eq40 : goal.returns-then-octet_at-eq40
returns-then-octet_at-eq40 c =
    let b = sym c.octet_at.ensures ∙ c.if-octet_at-eq40.true in
    let i = in-text c.args.text.now c.args.at b (omega arith) in
    record {
      exact = c.names_row.ensures.exact (length c.args.text.now) (omega arith) ∙ names_row c.args.text.now c.args.at b;
      within = within-from c.args.text.now c.args.at c.names_row.result c.names_row.ensures.within;
    }
