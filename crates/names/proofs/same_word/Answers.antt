-- `same_word`: the library's equality of letters in any case. Assumes nothing.
use Rattle.names.proofs.Laws.{words_are}
use Rattle.names.proofs.same_word.Goals as goal

pub returns : goal.returns
returns c = words_are c.args.a.now c.args.b.now c.eq_ignore_ascii_case.result c.eq_ignore_ascii_case.ensures.test
