-- `keep_filter`: an atom is the filter's word, and what stands behind it is kept by the word. Assumes nothing.
use native.Mathlib.Omega.{arith}
use Rattle.model.specs.Reading.{piece}
use Rattle.model.specs.NotifyGrammar.{scope_of}
use Rattle.read_filters.proofs.Scoping.{plain}
use Rattle.read_filters.proofs.Storing.{fits-behind}
use Rattle.read_filters.proofs.Selecting.{keeps_some}
use Rattle.read_filters.proofs.keep_filter.Goals as goal

pub returns : goal.returns
returns c =
    let name = piece c.args.text.now c.args.at c.in_ok-p.p in
    let w = c.in_ok-p.ensures.within in
    record {
      exact = keeps_some c.args.text.now c.args.at c.args.kept c.in_ok-p.ensures.exact
          (c.keep_by.ensures.exact (scope_of name) (plain name) c.in_ok-word_of.ensures);
      within = fits-behind c.args.text.now c.args.at c.in_ok-p.p c.keep_by.result (omega arith) c.keep_by.ensures.within;
    }
