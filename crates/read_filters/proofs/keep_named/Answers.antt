-- `keep_named`: behind a space the names are kept as `keep_names` has it; without one nothing is. Assumes nothing.
use mathlib.Core.Path.{sym, ◌∙◌}
use Rattle.read_filters.proofs.Storing.{fits-named}
use Rattle.read_filters.proofs.Selecting.{keeps-named}
use Rattle.read_filters.proofs.keep_named.Goals as goal

pub returns : goal.returns
returns c =
    let space = sym c.octet_at.ensures ∙ c.if-octet_at-ne32.false in
    record {
      exact = λ o f b. c.keep_names.ensures.exact ∙ keeps-named c.args.text.now c.args.at c.args.kept o f b space;
      within = fits-named c.args.text.now c.args.at c.keep_names.result c.keep_names.ensures.within;
    }
