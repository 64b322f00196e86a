-- `put_work`: the tagged line is put where the listing ends, so both stand behind each other; each part is bounded, and so is their sum. Assumes nothing.
use Rattle.std.proofs.Common.{rules, arith}
use Rattle.line_put.specs.Writes.{◌then◌}
use Rattle.record_set.proofs.put_work.Goals as goal

pub put_reply-requires : goal.put_reply-requires
put_reply-requires c = (omega arith, omega arith)

pub returns : goal.returns
returns c = (
  λ m s wanted d.
      let p = ◌then◌ (c.put_listing.ensures.put m s wanted d.long d.shown d.ordered d.tells) c.put_reply.ensures.put in
      let q = p.put in
      search (rules, q),
  omega arith,
)
