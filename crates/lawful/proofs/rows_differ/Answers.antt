-- Ids that differ, and digests that do, are a yes that is right; else every two rows are compared.
use Rattle.std.proofs.Common.{◌≡◌, sym, ◌∙◌, arith, length, rules}
use Rattle.lawful_digests.specs.Distinct.{Differ}
use Rattle.lawful_digests.specs.Digest.{digest}
use Rattle.lawful_messages.specs.Clashing.{digests-apart}
use Rattle.lawful.proofs.rows_differ.Goals as goal

pub returns-then-differ : goal.returns-then-differ
returns-then-differ c =
    let long : length c.args.cols.now.names ≡ 4096 = search rules in
    let few = c.args.cols.now.few in (
      λ l h v ok.
          let a : Differ c.args.cols.now.ids (length l) = rw h (c.differ.ensures.0 c.if-not-differ.false) in
          let b : Differ c.digests_of-digests.result (length l) = rw h (c.differ-2.ensures.0 c.if-differ.true) in
          c.if-differ.true ∙ sym (digests-apart l c.args.cols.now.ids c.args.cols.now.lens c.args.cols.now.names c.digests_of-digests.result v long (omega arith) ok digest (λ k g. c.digests_of-digests.ensures k (omega arith)) a b),
      c.differ.ensures.1,
    )

pub differ-requires-2 : goal.differ-requires-2
differ-requires-2 c = (c.args.cols.now.few, c.new-marks.ensures c.args.cols.now.n)
