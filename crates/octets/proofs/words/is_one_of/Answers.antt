-- `is_one_of`: a word that has a place is one of them. Assumes nothing.
use mathlib.Core.Path.{◌∙◌}
use Rattle.model.specs.Reading.{piece}
use Rattle.octets.specs.Vocabulary.{words_of}
use Rattle.octets.proofs.Pieces.{any_place}
use Rattle.octets.proofs.words.is_one_of.Goals as goal

pub returns : goal.returns
returns c = rw c.word_place.ensures at c.is_some.ensures ∙ any_place (piece c.args.text.now c.args.from c.args.upto) 0 (words_of c.args.words.now)
