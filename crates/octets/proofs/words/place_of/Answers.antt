-- `place_of`: what the chain answers is the first place among the words. Assumes nothing.
use mathlib.Core.Path.{◌∙◌}
use borrow.Author.Rules.{rules}
use borrow.Author.Tests.{tests}
use Rattle.std.proofs.lemmas.Iterator.{YieldsList-from_slice}
use Rattle.std.proofs.lemmas.Iterator.Search.{position_from_yields_List}
use Rattle.std.proofs.lemmas.Iterator.Adapters.{position_from-zero}
use Rattle.model.specs.Text.{same_word}
use Rattle.octets.proofs.Pieces.{place_referred}
use Rattle.octets.proofs.words.place_of.Goals as goal

pub returns : goal.returns
returns c =
    position_from_yields_List (λ t. same_word c.args.word.now t.now) _ _ c.position.result c.position.ensures.ran (YieldsList-from_slice c.args.words.now cc) (λ x b q k. search (rules, tests))
    ∙ position_from-zero _ c.args.words.now
    ∙ place_referred c.args.word.now 0 c.args.words.now
