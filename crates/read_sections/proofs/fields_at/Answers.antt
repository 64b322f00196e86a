-- `fields_at`: the end of the list is all that is kept of it. Assumes nothing.
use Rattle.std.proofs.Common.{sym, ◌∙◌, arith}
use Rattle.read_sections.proofs.Fields.{fields_end}
use Rattle.read_sections.proofs.fields_at.Goals as goal

pub returns-in_err-end : goal.returns-in_err-end
returns-in_err-end c =
    rw c.from_residual.ensures record {
      exact = fields_end c.args.text.now c.args.at (sym c.octet_at.ensures ∙ c.if-octet_at-ne32.false) _ c.in_err-end.ensures.exact;
      within = tt;
    }

pub returns : goal.returns
returns c =
    let w = c.in_ok-end.ensures.within in
    record {
      exact = fields_end c.args.text.now c.args.at (sym c.octet_at.ensures ∙ c.if-octet_at-ne32.false) _ c.in_ok-end.ensures.exact;
      within = (omega arith, omega arith);
    }
