-- `section_at`: what stands between the brackets is read, and `close_at` reads what is behind it. Assumes nothing.
use Rattle.std.proofs.Common.{sym, ◌∙◌, arith}
use Rattle.octets.proofs.Chains.{within-from}
use Rattle.read_sections.proofs.Fields.{section_close}
use Rattle.read_sections.proofs.section_at.Goals as goal

pub returns : goal.returns
returns c =
    let w = c.in_ok-next.ensures.within in
    record {
      exact = c.close_at.ensures.exact ∙ section_close c.args.text.now c.args.at (sym c.octet_at.ensures ∙ c.if-octet_at-ne91.false) c.in_ok-next.ensures.exact;
      within = within-from c.args.text.now c.args.at c.in_ok-next.next c.close_at.result (omega arith) c.close_at.ensures.within;
    }
