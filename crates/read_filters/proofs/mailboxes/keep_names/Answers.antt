-- `keep_names`: behind a parenthesis a row is kept, and else the one name that stands there. Assumes nothing.
use mathlib.Core.Path.{sym, ap, ◌∙◌}
use native.Mathlib.Omega.{arith}
use lib.ListN.{length}
use Rattle.read_filters.specs.Keeping.{with_one}
use Rattle.read_filters.specs.declared.Kept.{Kept}
use Rattle.read_filters.proofs.Storing.{kept_row, kept_one, fits-from}
use Rattle.octets.specs.Rows.{in-text}
use Rattle.read_filters.proofs.mailboxes.keep_names.Goals as goal

pub returns-then-octet_at-eq40 : goal.returns-then-octet_at-eq40
returns-then-octet_at-eq40 c =
    let b = sym c.octet_at.ensures ∙ c.if-octet_at-eq40.true in
    let i = in-text c.args.text.now c.args.at b (omega arith) in
    record {
      exact = c.keep_row.ensures.exact (length c.args.text.now) (omega arith) ∙ kept_row c.args.text.now c.args.at c.args.kept b;
      within = fits-from c.args.text.now c.args.at c.keep_row.result c.keep_row.ensures.within;
    }

pub keep_one-requires : goal.keep_one-requires
keep_one-requires c = let w = c.in_ok-p.ensures.within in omega arith

pub returns : goal.returns
returns c =
    let w = c.in_ok-p.ensures.within in
    record {
      exact = kept_one c.args.text.now c.args.at c.args.kept (λ e. c.if-octet_at-eq40.false (c.octet_at.ensures ∙ e))
          c.in_ok-p.ensures.exact c.keep_one.result
          (c.keep_one.ensures ∙ ap (with_one c.args.kept) c.name_at.ensures);
      within = (omega arith, omega arith, omega (arith, ap (λ (m : Kept). m.count) c.keep_one.ensures));
    }
