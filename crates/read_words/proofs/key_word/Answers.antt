-- `key_word`: the definition asks for the words in the order of the table. Assumes nothing.
use Rattle.model.specs.SearchGrammar.{keyword_of}
use Rattle.read_words.proofs.Chain.{chain_is, one_by_one}
use Rattle.read_words.proofs.key_word.Goals as goal

pub returns : goal.returns
unfolding keyword_of
returns c = rw (c.meaning.ensures, chain_is) (simp one_by_one)
