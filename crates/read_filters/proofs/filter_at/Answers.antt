-- `filter_at`: an atom is the filter's word, and what stands behind it is read by the word. Assumes nothing.
use native.Mathlib.Omega.{arith}
use Rattle.model.specs.Reading.{piece}
use Rattle.model.specs.NotifyGrammar.{scope_of}
use Rattle.read_filters.proofs.Scoping.{plain, filter_some, within-behind}
use Rattle.read_filters.proofs.filter_at.Goals as goal

pub returns : goal.returns
returns c =
    let name = piece c.args.text.now c.args.at c.in_ok-p.p in
    let w = c.in_ok-p.ensures.within in
    record {
      exact = filter_some c.args.text.now c.args.at c.in_ok-p.ensures.exact
          (c.filter_by.ensures.exact (scope_of name) (plain name) c.in_ok-word_of.ensures);
      within = within-behind c.args.text.now c.args.at c.in_ok-p.p c.filter_by.result (omega arith) c.filter_by.ensures.within;
    }
