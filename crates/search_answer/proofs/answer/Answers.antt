-- `answer`: the memory that is lent is the one that is searched, so what was said of it is the rules' answer. Assumes nothing.
use native.Mathlib.Omega.{arith}
use Rattle.std.proofs.Common.{rules}
use lib.ListN.{length}
use Rattle.laws.specs.Room.{sizes}
use Rattle.table_messages.specs.Words.{messages-used}
use Rattle.search_answer.specs.Coming.{answer_comes}
use Rattle.search_answer.proofs.answer.Goals as goal

pub tell-said-requires : goal.tell-said-requires
tell-said-requires c =
    let z = sizes (length c.args.queue.now) c.args.counts.filled c.args.s.now c.requires.0.room in
    let l = z.low in
    let h = z.high in
    let f = z.filled in
    let n = messages-used c.args.counts.messages c.args.words.now c.requires.0.words in
    let k = c.requires.0.messages in
    ((omega arith, h, omega arith), (c.requires.1, omega arith))

pub returns : goal.returns
returns c =
    answer_comes c.args.text.now c.args.words.now c.args.cols.now c.args.counts c.args.s.now c.args.queue.now _ _ _ _
    (rw (c.wide_id.ensures, c.wide_number.ensures) at c.tell-said.ensures) (search rules)
