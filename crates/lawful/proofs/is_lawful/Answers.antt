-- The sizes first; where they are right, the rows in use are those that came by columns, and the contents decide.
use Rattle.std.proofs.Common.{sym, ◌∙◌}
use Rattle.table_messages.specs.Words.{messages-take}
use Rattle.lawful.specs.Lent.{wrong_sizes, contents_decide}
use Rattle.lawful.proofs.is_lawful.Goals as goal

pub returns-then-not-sizes_ok : goal.returns-then-not-sizes_ok
returns-then-not-sizes_ok c =
    λ t rows q w v e. wrong_sizes rows c.args.lent c.args.words.now c.args.counts c.args.s.now c.args.room t q w e (sym c.sizes_ok.ensures ∙ c.if-not-sizes_ok.true)

pub returns : goal.returns
returns c =
    λ t rows q w v e.
    let h = sym c.sizes_ok.ensures ∙ c.if-not-sizes_ok.false in
    c.contents_ok.ensures _ v ∙ rw (messages-take c.args.counts.messages c.args.words.now) (contents_decide rows c.args.lent c.args.words.now c.args.counts c.args.s.now c.args.room t q w e h)
