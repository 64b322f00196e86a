-- `put_items`: three items, each with a gap if one stands before it, and the counter last. Assumes nothing.
use mathlib.Core.Path.{◌≡◌}
use mathlib.Core.Bool.{◌||◌}
use borrow.Author.Rules.{rules}
use Rattle.line_put.specs.Writes.{◌then◌}
use Rattle.line_fetch.proofs.put_items.Goals as goal

pub returns-clause-put : goal.returns-clause-put
returns-clause-put c =
    let e : c.if-uid.began ≡ (c.args.shows.uid || c.args.shows.flags) = search rules in
    let f : c.if-began.put_modseq ≡ ((c.args.shows.uid || c.args.shows.flags) || c.args.shows.size) = search rules in
    ◌then◌ (◌then◌ (◌then◌ c.put_counted.ensures.put c.put_flag_item.ensures.put) (rw e at c.put_counted-2.ensures.put)) (rw f at c.put_modseq.ensures.put)
